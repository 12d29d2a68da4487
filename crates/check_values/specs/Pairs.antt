-- Test 7, pair by pair of rows. Definitions. Assumes nothing.
use Rattle.std.specs.Prelude.{ℕ, Bool, not}
use Rattle.pauli.specs.Bits.{◌⊕◌}
use Rattle.pauli.specs.Pauli.{anticommutes}
use Rattle.job.specs.Clifford.{row_over, generators_anticommute}

-- whether two rows commute as their generators do
abbrev pub pair_fits_of : ℕ → ℕ → ℕ → ℕ → Bool
pair_fits_of k t r s = not (anticommutes k (row_over k t r) (row_over k t s) ⊕ generators_anticommute k r s)
