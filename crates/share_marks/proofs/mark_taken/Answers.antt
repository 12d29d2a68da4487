-- `share_marks::mark_taken` meets its contract. Assumes nothing.
use native.Mathlib.Omega.{arith}
use mathlib.Core.Path.{◌≡◌}
use Prim.Native.Nat.{◌+◌}
use lib.ListN.{get_or}
use lib.Seq.{get_or-set_other}
use Rattle.shares.specs.Shares.{moved}
use Rattle.share_marks.proofs.mark_taken.Goals as goal

pub overflow_add-marks-2 : goal.overflow_add-marks-2
overflow_add-marks-2 c =
    omega (arith, get_or-set_other c.args.marks.now c.args.caller c.args.callers (get_or c.args.marks.now c.args.caller 0 + c.min-first.result) 0 (λ (e : c.args.callers ≡ c.args.caller). omega (arith, e)))

pub returns : goal.returns
unfolding moved
returns c = rw (← c.min-first.ensures)
