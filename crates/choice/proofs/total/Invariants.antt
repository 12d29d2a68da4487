-- `choice::total` meets its contract. The invariant: the sum so far, with the weights left, comes to the total.
use mathlib.Core.Path.{◌≡◌}
use Prim.Native.Nat.{◌≤◌}
use lib.ListN.{length, drop}
use Rattle.job.specs.Float.{zero_float, total_from}
use Rattle.choice.proofs.total.Given as goal

abbrev pub invariant-loop-weight : goal.invariant-loop-weight
invariant-loop-weight l = (l.weight-index ≤ length l.weights) × (total_from l.sum (drop l.weight-index l.weights) ≡ total_from zero_float l.weights)
