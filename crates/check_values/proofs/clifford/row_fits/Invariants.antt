-- `check_values::clifford::row_fits` meets its contract. Assumes nothing.
use mathlib.Core.Path.{◌≡◌}
use mathlib.Core.Bool.{true}
use Prim.Native.Nat.{ℕ, ◌*◌, ◌≤◌}
use Rattle.job.specs.Clifford.{every}
use Rattle.tables.specs.Rows.{RowsOf}
use Rattle.check_values.specs.Pairs.{pair_fits_of}
use Rattle.check_values.proofs.clifford.row_fits.Given as goal

abbrev pub invariant-loop-s : goal.invariant-loop-s
invariant-loop-s l = (l.s ≤ 2 * l.k) × ((t : ℕ) → RowsOf l.k t l.images → every l.s (pair_fits_of l.k t l.r) ≡ true)
