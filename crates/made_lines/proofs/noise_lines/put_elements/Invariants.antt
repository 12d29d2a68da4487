-- `made_lines::noise_lines::put_elements` meets its contract. Assumes nothing.
use Rattle.made_lines.specs.Laws.Elements.{Elements}
use Rattle.made_lines.proofs.noise_lines.put_elements.Given as goal

abbrev pub invariant-loop-i : goal.invariant-loop-i
invariant-loop-i l = Elements l.n l.weighted l.count l.initial.next l.initial.out l.i l.next l.out
