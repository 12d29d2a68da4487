-- The rows of a Clifford's table as words. Definitions. Assumes nothing.
use Rattle.std.specs.Prelude.{ℕ, ◌+◌, ◌*◌, ◌/◌, ◌%◌, ◌^◌, ◌≤◌, ◌<◌, ◌≡◌, List, length, get_or}
use Rattle.pauli.specs.Bits.{bit}
use Rattle.pauli.specs.Pauli.{Pauli}
use Rattle.job.specs.Clifford.{table_words_of}

-- there are as many words as a table on k qubits has
pub record TableFor (k : ℕ) (words : List ℕ) : Type 0 where
  pub few : k ≤ 8
  pub long : length words ≡ table_words_of k

-- row r of the table t on k qubits
unfoldable pub row_word : ℕ → ℕ → ℕ → ℕ
row_word k t r = t / 2 ^ (2 * k * r) % 2 ^ (2 * k)

-- words that begin with the rows of a table
pub record RowsOf (k t : ℕ) (rows : List ℕ) : Type 0 where
  pub row : (r : ℕ) → r < 2 * k → get_or rows r 0 ≡ row_word k t r

-- the Pauli on k qubits whose X part is the low half of a word, its Z part the half above
unfoldable pub in_word : ℕ → ℕ → Pauli
in_word k w = record { x = λ j. bit w j; z = λ j. bit w (k + j) }
