-- `by_shot::transpose` meets its contract: after b turns the first b groups of columns are done.
use mathlib.Core.Path.{◌≡◌}
use Prim.Native.Nat.{ℕ, ◌^◌, ◌<◌, ◌≤◌}
use lib.ListN.{length, get_or}
use Rattle.by_shot.specs.Blocks.{DoneTo}
use Rattle.by_shot.proofs.transpose.Given as goal

abbrev pub invariant-loop-b : goal.invariant-loop-b
invariant-loop-b l =
    DoneTo l.rows l.columns l.source l.b 0 l.target × (length l.target ≡ length l.initial.target) × ((i : ℕ) → get_or l.target i 0 < 2 ^ 64) × (l.b ≤ l.w)
