-- `template::put_list` meets its contract. Assumes nothing.
use Rattle.template.specs.Laws.Reading.{not_list, full_list, one_list}
use Rattle.template.proofs.put_list.Goals as goal

pub returns-then-p-ge-MAX_SLOTS : goal.returns-then-p-ge-MAX_SLOTS
returns-then-p-ge-MAX_SLOTS c = full_list _ _ _ _ c.if-p-ge-MAX_SLOTS.true

pub returns-in_err-listed : goal.returns-in_err-listed
returns-in_err-listed c = rw c.from_residual.ensures (not_list _ _ _ _ (rw c.in_err-listed.was at c.list.ensures).result)

pub returns : goal.returns
returns c = one_list _ _ _ _ _ c.requires c.if-p-ge-MAX_SLOTS.false (rw c.in_ok-listed.was at c.list.ensures)
