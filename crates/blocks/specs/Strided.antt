-- Definitions that contracts cite: every step-th word of a list. Assumes nothing.
use Rattle.std.specs.Prelude.{List, ℕ, zero, suc, ◌+◌, ◌*◌, ◌<◌, length, set}

-- n words, from `at` on, lie in the list
pub record Within (at step n : ℕ) (l : List ℕ) : Type 0 where
  pub inside : (j : ℕ) → j < n → at + j * step < length l

-- l with n words, from `at` on, replaced by f 0, f 1, .., f (n - 1)
unfoldable pub scattered : ℕ → ℕ → ℕ → (ℕ → ℕ) → List ℕ → List ℕ
scattered at step zero f l = l
scattered at step (suc n) f l = set (scattered at step n f l) (at + n * step) (f n)
