-- `replay::gather` meets its contract. Assumes nothing.
use Prim.Native.Nat.{◌-◌, ◌≤◌}
use mathlib.Core.Path.{◌≡◌}
use lib.ListN.{length}
use Rattle.replay.proofs.gather.Given as goal

abbrev pub invariant-loop-g : goal.invariant-loop-g
invariant-loop-g l =
    (l.from ≤ l.g.at) × (l.g.at ≤ length l.list) × (l.g.held ≤ length l.initial.dst) × (length l.dst ≡ length l.initial.dst)

abbrev pub decreases-loop-g : goal.decreases-loop-g
decreases-loop-g l = length l.list - l.g.at
