-- `template::put_number` meets its contract. Assumes nothing.
use native.Mathlib.Omega.{arith}
use Rattle.numbers.specs.Laws.Read.{read_of, read_bad}
use Rattle.template.specs.Laws.Reading.{not_number, full_number, one_number}
use Rattle.template.proofs.put_number.Goals as goal

pub returns-in_err-n : goal.returns-in_err-n
returns-in_err-n c = rw c.from_residual.ensures (not_number _ _ _ _ (read_bad c.in_err-n.was))

pub returns-then-p-ge-MAX_SLOTS : goal.returns-then-p-ge-MAX_SLOTS
returns-then-p-ge-MAX_SLOTS c = full_number _ _ _ _ c.if-p-ge-MAX_SLOTS.true

pub returns : goal.returns
returns c = one_number _ _ _ _ (read_of c.in_ok-n.was) c.if-p-ge-MAX_SLOTS.false (omega arith)
