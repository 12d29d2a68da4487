-- `template::next_byte` meets its contract. Assumes nothing.
use native.Mathlib.Omega.{arith}
use mathlib.Core.Path.{sym, ◌∙◌}
use Rattle.template.specs.Laws.Reading.{byte_missing, byte_wrong, byte_right}
use Rattle.template.proofs.next_byte.Goals as goal

pub value-requires : goal.value-requires
value-requires c = (c.requires.0, sym c.is_letter.ensures ∙ c.if-is_letter.true, c.requires.1)

pub returns-then-p-line : goal.returns-then-p-line
returns-then-p-line c = byte_missing c.requires.0 (sym c.is_letter.ensures ∙ c.if-is_letter.false) c.if-p-line.true

pub returns-then-line-p : goal.returns-then-line-p
returns-then-line-p c = byte_wrong c.requires.0 (sym c.is_letter.ensures ∙ c.if-is_letter.false) (omega arith) c.if-line-p.true

pub returns : goal.returns
returns c = byte_right c.requires.0 (sym c.is_letter.ensures ∙ c.if-is_letter.false) (omega arith) c.if-line-p.false

pub returns-then-is_letter : goal.returns-then-is_letter
returns-then-is_letter c = c.value.ensures.read_next
