-- Fixed sets and Paulis in words: a set has number q if bit q mod 64 of word q / 64 is 1; a Pauli is two such sets. Assumes nothing.
use Rattle.std.specs.Prelude.{List, ℕ, ◌/◌, ◌%◌, ◌<◌, length, get_or}
use Rattle.pauli.specs.declared.Pauli.{Pauli as PauliWords}
use Rattle.pauli.specs.Bits.{Bits, bit}
use Rattle.pauli.specs.Pauli.{Pauli}

-- the set that words hold
unfoldable pub in_set : List ℕ → Bits
in_set words q = bit (get_or words (q / 64) 0) (q % 64)

-- the Pauli that a struct of words holds
unfoldable pub as_pauli : PauliWords → Pauli
as_pauli p = record { x = in_set p.x; z = in_set p.z }

-- each number of the list is below n
pub record AllBelow (n : ℕ) (l : List ℕ) : Type 0 where
  pub below : (i : ℕ) → i < length l → get_or l i 0 < n
