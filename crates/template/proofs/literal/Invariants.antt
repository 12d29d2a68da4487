-- `template::literal` meets its contract: before byte i of the text the line has its first i bytes. Assumes nothing.
use mathlib.Core.List.{List}
use Prim.Native.Nat.{ℕ, ◌+◌}
use Rattle.template.specs.Laws.Reading.{Reading}
use Rattle.template.proofs.literal.Given as goal

abbrev pub invariant-loop-i : goal.invariant-loop-i
invariant-loop-i l = (fields : List ℕ) → Reading l.line l.text l.p.at l.p.numbers l.p.lists fields l.i (l.p.at + l.i) l.p.numbers l.p.lists fields
