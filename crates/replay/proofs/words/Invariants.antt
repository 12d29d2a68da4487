-- `replay::words` meets its contract. Assumes nothing.
use Prim.Native.Nat.{◌-◌, ◌≤◌}
use mathlib.Core.Path.{◌≡◌}
use lib.ListN.{length}
use Rattle.replay.proofs.words.Given as goal

abbrev pub invariant-loop-k : goal.invariant-loop-k
invariant-loop-k l = (l.i ≤ length l.src) × (l.k ≤ length l.initial.dst) × (length l.dst ≡ length l.initial.dst)

abbrev pub decreases-loop-k : goal.decreases-loop-k
decreases-loop-k l = length l.initial.dst - l.k
