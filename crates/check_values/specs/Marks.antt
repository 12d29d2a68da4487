-- Marks of the numbers from 0 on, by which a list's members are known. Definitions. Assumes nothing.
use Rattle.std.specs.Prelude.{ℕ, ◌<◌, ◌≡◌, Bool, false, List, length, get_or}
use Rattle.pauli.specs.Bits.{members}

-- no number is marked
pub record Unmarked (marks : List Bool) : Type 0 where
  pub is : (q : ℕ) → q < length marks → get_or marks q false ≡ false

-- of the numbers that have a mark, those on the list are marked
pub record MarksOf (marks : List Bool) (l : List ℕ) : Type 0 where
  pub is : (q : ℕ) → q < length marks → get_or marks q false ≡ members l q
