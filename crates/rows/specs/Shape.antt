-- The shape of a job's rows. Definitions. Assumes nothing.
use Rattle.std.specs.Prelude.{ℕ}
use Rattle.rows.specs.declared.Shape.{Shape}
use Rattle.rows.specs.Words.{words_per_row}

-- so many qubits, outcomes and shots, and the words that a row needs
abbrev pub shape_of : ℕ → ℕ → ℕ → Shape
shape_of qubits outcomes shots = record { qubits = qubits; outcomes = outcomes; shots = shots; width = words_per_row shots }
