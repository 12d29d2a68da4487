-- What the loops over words do, as functions on the list of words: definitions that contracts cite. All but one are instances of `overwrite`.
-- Assumes nothing.
use Rattle.std.specs.Prelude.{List, ℕ, zero, suc, ◌+◌, ◌*◌, ◌/◌, ◌%◌, ◌^◌, get_or, set}
use Rattle.std.specs.Int.Bits.{bit_xor}

-- l with the n words from place `at` on replaced by f 0, f 1, .., f (n - 1)
unfoldable pub overwrite : ℕ → ℕ → (ℕ → ℕ) → List ℕ → List ℕ
overwrite at zero f l = l
overwrite at (suc n) f l = set (overwrite at n f l) (at + n) (f n)

-- the n words from `at` on are 0
unfoldable pub cleared : ℕ → ℕ → List ℕ → List ℕ
cleared at n l = overwrite at n (λ j. 0) l

-- the n words from `at` on are those of src from `from` on
unfoldable pub copied : ℕ → ℕ → ℕ → List ℕ → List ℕ → List ℕ
copied at from n src l = overwrite at n (λ j. get_or src (from + j) 0) l

-- the n words of l from `at` on, each xor the corresponding word of src from `from` on
unfoldable pub xored : ℕ → ℕ → ℕ → List ℕ → List ℕ → List ℕ
xored at from n src l = overwrite at n (λ j. bit_xor (get_or l (at + j) 0) (get_or src (from + j) 0)) l

-- the n words from a on and those from b on change places
unfoldable pub swapped : ℕ → ℕ → ℕ → List ℕ → List ℕ
swapped a b n l = overwrite b n (λ j. get_or l (a + j) 0) (overwrite a n (λ j. get_or l (b + j) 0) l)

-- 1 is added to bit s of row r, w words a row
unfoldable pub flipped : ℕ → ℕ → ℕ → List ℕ → List ℕ
flipped w s r l = set l (r * w + s / 64) (bit_xor (get_or l (r * w + s / 64) 0) (2 ^ (s % 64)))
