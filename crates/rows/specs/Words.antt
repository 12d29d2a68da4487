-- Definitions. Bits in lent 64-bit words: a row per qubit or outcome, rows in order. Shot s is bit s mod 64 of word s/64 of its row; bits past the last
-- shot are 0. Assumes nothing.
use Rattle.std.specs.Prelude.{Bool, cond, ◌&&◌, List, [], ◌∷◌, ℕ, zero, suc, ◌+◌, ◌*◌, ◌/◌, ◌%◌, ltb, get_or}
use Rattle.pauli.specs.Bits.{bit}

-- ceil(shots/64) words a row
abbrev pub words_per_row : ℕ → ℕ
words_per_row shots = (shots + 63) / 64

-- the bit of a shot in a row of w words
unfoldable pub bit_in : ℕ → List ℕ → ℕ → ℕ → Bool
bit_in w words row shot = bit (get_or words (row * w + shot / 64) 0) (shot % 64)

-- the number whose first n bits are those of b
unfoldable pub word_of : (ℕ → Bool) → ℕ → ℕ
word_of b zero = 0
word_of b (suc n) = cond (b 0) 1 0 + 2 * word_of (λ i. b (suc i)) n

-- the numbers that f gives to 0, 1, .., n - 1
unfoldable pub tabulated : (ℕ → ℕ) → ℕ → List ℕ
tabulated f zero = []
tabulated f (suc n) = f 0 ∷ tabulated (λ i. f (suc i)) n

-- the words that hold these bits of so many rows and shots
unfoldable pub pack : ℕ → ℕ → (ℕ → ℕ → Bool) → List ℕ
pack rows shots bits =
    let w = words_per_row shots in
    tabulated (λ k. word_of (λ j. ltb (64 * (k % w) + j) shots && bits (k / w) (64 * (k % w) + j)) 64) (rows * w)
