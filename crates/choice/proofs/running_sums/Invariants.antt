-- `choice::running_sums` meets its contract. The invariant: the sums stored so far, followed by those of the weights left, are all of them.
use mathlib.Core.Path.{◌≡◌}
use Prim.Native.Nat.{◌≤◌}
use lib.ListN.{length, take, drop}
use mathlib.Core.List.{◌++◌}
use Rattle.job.specs.Float.{zero_float}
use Rattle.draws.specs.Draws.{running_from}
use Rattle.choice.proofs.running_sums.Given as goal

abbrev pub invariant-loop-i : goal.invariant-loop-i
invariant-loop-i l = (length l.sums ≡ length l.weights) × (l.i ≤ length l.weights) × (take l.i l.sums ++ running_from l.total l.sum (drop l.i l.weights) ≡ running_from l.total zero_float l.weights)
