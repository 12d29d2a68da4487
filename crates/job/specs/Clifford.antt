-- Definitions. The table of a Clifford on k qubits, for any k: its words on a line, and its rows by the places of its operands (test 7). Assumes nothing.
use Rattle.std.specs.Prelude.{Bool, true, not, ◌&&◌, ◌||◌, List, [], ◌∷◌, ℕ, zero, suc, ◌+◌, ◌*◌, ◌/◌, ◌%◌, ◌^◌, eqb, ltb}
use Rattle.pauli.specs.Bits.{◌⊕◌, bit}
use Rattle.pauli.specs.Pauli.{Pauli, anticommutes}

-- ---- words

-- a table is written for k of 1 to 8
abbrev pub max_clifford_qubits : ℕ
max_clifford_qubits = 8

-- as many words as 4k² bits need
abbrev pub table_words_of : ℕ → ℕ
table_words_of k = (4 * (k * k) + 63) / 64

-- the table of some words, the least significant word first
unfoldable pub table_of : List ℕ → ℕ
table_of [] = 0
table_of (w ∷ ws) = w + 2 ^ 64 * table_of ws

-- so many words of a table
unfoldable pub words_of : ℕ → ℕ → List ℕ
words_of zero t = []
words_of (suc n) t = t % 2 ^ 64 ∷ words_of n (t / 2 ^ 64)

-- ---- rows

-- Row r of the table t, as a Pauli on the places 0 to k-1: bit 2k × r + c of t is at column c, columns X then Z.
unfoldable pub row_over : ℕ → ℕ → ℕ → Pauli
row_over k t r = record { x = λ j. bit t (2 * k * r + j); z = λ j. bit t (2 * k * r + (k + j)) }

-- whether the test holds of each number below n
unfoldable pub every : ℕ → (ℕ → Bool) → Bool
every zero f = true
every (suc n) f = f n && every n f

-- whether the generators of rows r and s anticommute: X and Z of one place. Rows 0 to k-1 are the images of X, the next k of Z.
unfoldable pub generators_anticommute : ℕ → ℕ → ℕ → Bool
generators_anticommute k r s = eqb s (r + k) || eqb r (s + k)

-- Bits from 4k² up are 0. Images commute as the generators do.
unfoldable pub is_clifford_of : ℕ → ℕ → Bool
is_clifford_of k t =
    ltb t (2 ^ (4 * (k * k)))
    && every (2 * k) (λ r. every (2 * k) (λ s. not (anticommutes k (row_over k t r) (row_over k t s) ⊕ generators_anticommute k r s)))
