-- The size of a depolarizing distribution, 4 ^ k - 1. Laws. Assumes nothing.
use Rattle.std.specs.Prelude.{ℕ, zero, suc, ◌*◌, ◌%◌, ◌^◌, ◌<◌, ◌≤◌, ◌≡◌, refl, List, length}
use Rattle.std.proofs.Common.{one-mul, mul-suc, pow-suc, mod-eq_of_lt, arith, sym, subst, pow-add, pow_pos, pow_mono}
use Rattle.std.proofs.Math.Pow.{pow-lt}
use Rattle.job.specs.Line.{Distribution, size_of}

-- 4 ^ k by bits
pub four : (k : ℕ) → 2 ^ (2 * k) ≡ 4 ^ k
four zero = refl
four (suc k) = rw (mul-suc, pow-add, four k) (sym (pow-suc 4 k))

pub four_pos : (k : ℕ) → 1 ≤ 4 ^ k
four_pos k = subst (λ (n : ℕ). 1 ≤ n) (four k) (pow_pos (2 * k))

pub four_small : (k : ℕ) → k ≤ 31 → 4 ^ k ≤ 2 ^ 62
four_small k h = let small : 2 * k ≤ 62 = omega arith in subst (λ (n : ℕ). n ≤ 2 ^ 62) (four k) (pow_mono small)

-- and by a shift
pub shifted : (k : ℕ) → k < 32 → 1 * 2 ^ (2 * k) % 2 ^ 64 ≡ 4 ^ k
shifted k h = let small : 2 * k < 64 = omega arith in rw (one-mul, mod-eq_of_lt (pow-lt small)) (four k)

-- over at most 31 qubits a word counts the elements
pub depolarizing_small : (qs : List ℕ) → length qs ≤ 31 → size_of (Distribution.depolarizing qs) < 2 ^ 62
unfolding size_of
depolarizing_small qs h = omega (arith, four_small (length qs) h, four_pos (length qs))
