-- `check_values::clifford::rows_fit` meets its contract. Assumes nothing.
use mathlib.Core.Path.{◌≡◌}
use mathlib.Core.Bool.{true}
use Prim.Native.Nat.{ℕ, ◌*◌, ◌≤◌}
use Rattle.job.specs.Clifford.{every}
use Rattle.tables.specs.Rows.{RowsOf}
use Rattle.check_values.specs.Pairs.{pair_fits_of}
use Rattle.check_values.proofs.clifford.rows_fit.Given as goal

abbrev pub invariant-loop-r : goal.invariant-loop-r
invariant-loop-r l = (l.r ≤ 2 * l.k) × ((t : ℕ) → RowsOf l.k t l.images → every l.r (λ q. every (2 * l.k) (pair_fits_of l.k t q)) ≡ true)
