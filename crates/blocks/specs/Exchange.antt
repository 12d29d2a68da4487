-- Definitions that contracts cite: the exchange of rows and columns of a block, 64 words of 64 bits. Assumes nothing.
use Rattle.std.specs.Prelude.{◌≡◌, Bool, true, false, not, cond, ◌&&◌, List, ℕ, zero, suc, ◌+◌, ◌*◌, ◌/◌, ◌%◌, ◌^◌, ◌<◌, eqb, length, get_or, set}
use Rattle.std.specs.Int.Bits.{bit_xor, bit_and}
use Rattle.pauli.specs.Bits.{◌⊕◌, bit}

-- rows and columns have changed places
pub record Exchanged (before after : List ℕ) : Type 0 where
  pub long : length after ≡ 64
  pub at : (i j : ℕ) → i < 64 → j < 64 → bit (get_or after i 0) j ≡ bit (get_or before j 0) i

-- ---- a round of width h

-- place c of the first (false) or second (true) half of group a, groups of 2h
abbrev pub place : ℕ → ℕ → Bool → ℕ → ℕ
place h a b c = a * (2 * h) + cond b h 0 + c

-- the halves of rows and columns have changed places, in each square of 2h by 2h
pub record Crossed (h : ℕ) (before after : List ℕ) : Type 0 where
  pub long : length after ≡ 64
  pub at : (a : ℕ) (b : Bool) (c d : ℕ) (e : Bool) (f : ℕ) → a * (2 * h) < 64 → c < h → d * (2 * h) < 64 → f < h
      → bit (get_or after (place h a b c) 0) (place h d e f) ≡ bit (get_or before (place h a e c) 0) (place h d b f)

-- where the upper bits of a word of the first half differ from the lower bits of its partner in the second
unfoldable pub difference : ℕ → ℕ → ℕ → ℕ → ℕ
difference h mask low high = bit_and (bit_xor (low / 2 ^ h) high) mask

-- the two words after they have changed places
unfoldable pub partner : ℕ → ℕ → Bool → ℕ → ℕ → ℕ
partner h mask false low high = bit_xor low (difference h mask low high * 2 ^ h % 2 ^ 64)
partner h mask true low high = bit_xor high (difference h mask low high)

-- the block after n pairs from `at` on
unfoldable pub crossed : ℕ → ℕ → ℕ → ℕ → List ℕ → List ℕ
crossed h mask at zero l = l
crossed h mask at (suc n) l =
    let low = get_or l (at + n) 0 in
    let high = get_or l (at + h + n) 0 in
    set (set (crossed h mask at n l) (at + n) (partner h mask false low high)) (at + h + n) (partner h mask true low high)

-- whether f holds of 0, 1, .., n - 1
unfoldable pub all_below : ℕ → (ℕ → Bool) → Bool
all_below zero f = true
all_below (suc n) f = f n && all_below n f

-- whether a mask has a 1 for the bits of the first half of each group, and for no other
unfoldable pub is_mask : ℕ → ℕ → Bool
is_mask h mask = all_below 64 (λ j. not (bit mask j ⊕ eqb (j / h % 2) 0))
