-- `by_shot::transpose_group` meets its contract: after a turns the first a blocks of the group are done.
use mathlib.Core.Path.{◌≡◌}
use Prim.Native.Nat.{◌≤◌}
use lib.ListN.{length}
use Rattle.by_shot.specs.Blocks.{DoneTo}
use Rattle.by_shot.proofs.transpose_group.Given as goal

abbrev pub invariant-loop-a : goal.invariant-loop-a
invariant-loop-a l = DoneTo l.rows l.columns l.source l.b l.a l.target × (length l.target ≡ length l.initial.target) × (l.a ≤ l.v)
