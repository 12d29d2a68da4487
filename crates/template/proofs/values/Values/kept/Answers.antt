-- `template::values::kept` meets its contract. Assumes nothing.
use native.Mathlib.Nat.{add-sub_cancel_left}
use Rattle.template.proofs.values.Values.kept.Goals as goal

pub returns : goal.returns
returns c = rw (add-sub_cancel_left)
