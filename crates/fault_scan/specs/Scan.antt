-- A fault as a test of whole numbers, and words gone over. Definitions. Assumes nothing.
use Rattle.std.specs.Prelude.{◌≡◌, ℕ, ◌+◌, ◌-◌, ◌*◌, ◌/◌, ◌^◌, ◌<◌, ◌≤◌, min, true, false, cond, List, length, drop, slice_index, Float}
use Rattle.std.specs.Float.{nan, inf, fin}
use Rattle.std.specs.Float.Ieee.{up, down}
use Rattle.draws.specs.Draws.{falls}
use Rattle.noise.specs.Words.{skip_of}

-- the least whole number that is not below a / c
abbrev pub ceiling : ℕ → ℕ → ℕ
ceiling a c = (a + (c - 1)) / c

-- The least whole number that is not below p times 2^53, within 0 to 2^53: floor(w / 2048) is below it where a fault falls (Laws/Threshold).
unfoldable pub threshold_of : Float → ℕ
threshold_of nan = 0
threshold_of (inf s) = cond s 0 (2 ^ 53)
threshold_of (fin s m e) = cond s 0 (min (ceiling (m * up e * 2 ^ 53) (down e)) (2 ^ 53))

-- ---- words gone over

-- n words from a position on bring no fault
pub record Quiet (p : Float) (words : List ℕ) (at n : ℕ) : Type 0 where
  pub none : (j : ℕ) → j < n → falls (slice_index words (at + j)) p ≡ false

-- of n words the first r are passed over: for every p with threshold t, none of them brings a fault
pub record Passed (t : ℕ) (words : List ℕ) (at n r : ℕ) : Type 0 where
  pub within : r ≤ n
  pub quiet : (p : Float) → t ≡ threshold_of p → Quiet p words at r

-- of n words the first r bring no fault, and the word after them, if they are not all n, brings one
pub record Stopped (p : Float) (words : List ℕ) (at n r : ℕ) : Type 0 where
  pub within : r ≤ n
  pub quiet : Quiet p words at r
  pub falling : r < n → falls (slice_index words (at + r)) p ≡ true

-- the words, at most so many, that are skipped before the next fault
pub record Skipped (p : Float) (words : List ℕ) (at most r : ℕ) : Type 0 where
  pub within : (r ≤ most) × (r ≤ length words - at)
  pub is : r ≡ skip_of p most (drop at words)
