-- `settling::instruction_text::put_instruction` meets its contract. Assumes nothing.
use Rattle.settling.specs.Laws.Instruction.{few_lines, plain_put}
use Rattle.instructions.specs.Laws.Steps.{ahead_known}
use Rattle.job.proofs.Laws.Begun.{ended_parts}
use lib.ListN.{length-take}
use mathlib.Core.Path.{sym, ◌∙◌}
use native.Mathlib.Omega.{arith}
use Rattle.settling.proofs.instruction_text.put_instruction.Goals as goal

pub next_known-line-requires : goal.next_known-line-requires
next_known-line-requires c = let pre = c.requires in (ahead_known pre.0.ahead pre.1, pre.7)

pub put_noise_line-requires : goal.put_noise_line-requires
put_noise_line-requires c = (c.requires.0, omega (arith, few_lines c.requires.0, c.requires.2), c.next_known-line.ensures, sym c.is_noise.ensures ∙ c.if-is_noise.true, c.requires.3, c.requires.4, c.requires.5, c.requires.6)

pub put_bytes-text-requires : goal.put_bytes-text-requires
put_bytes-text-requires c = rw length-take (omega (arith, few_lines c.requires.0, c.requires.2, c.next_known-line.ensures.place.inside, ended_parts _ c.requires.0.ahead.ended))

pub overflow_add-result : goal.overflow_add-result
overflow_add-result c = record { fits = omega (arith, few_lines c.requires.0) }

pub returns : goal.returns
returns c = plain_put c.requires.0 c.next_known-line.ensures (sym c.is_noise.ensures ∙ c.if-is_noise.false) c.put_bytes-text.ensures
