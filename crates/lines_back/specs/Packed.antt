-- Bits in a word, one for each place. Definitions. Assumes nothing.
use Rattle.std.specs.Prelude.{ℕ, ◌^◌, ◌<◌, ◌≡◌}
use Rattle.pauli.specs.Bits.{Bits, bit}
use Rattle.pauli.specs.Pauli.{Pauli}

-- The word has the bits of f at the k lowest places, and no other.
pub record Packed (k : ℕ) (f : Bits) (w : ℕ) : Type 0 where
  pub small : w < 2 ^ k
  pub at : (j : ℕ) → j < k → bit w j ≡ f j

-- the Pauli whose X parts are the bits of one word, its Z parts those of another
abbrev pub in_words : ℕ → ℕ → Pauli
in_words x z = record { x = bit x; z = bit z }
