-- Definitions. What theorems about lists of lines ask of a line: operands are qubits of the job, and the ids of measurements and flips its
-- outcomes. Tests 4, 8 and 9 see to it. Assumes nothing.
use Rattle.std.specs.Prelude.{◌≡◌, true, List, [], ◌∷◌, ℕ, ◌<◌}
use Rattle.job.specs.Line.{Line}
use Rattle.job.specs.Checks.{all_below}

-- For n qubits and m outcomes. Of the parts of a Pauli, of the ids of a condition and of the qubits of a reset or a barrier nothing is asked: Paulis
-- are compared on the n qubits alone, and deltas are summed over the m outcomes alone.
abbrev pub InRange : ℕ → ℕ → Line → Type 0
InRange n m (Line.unitary g qs) = all_below n qs ≡ true
InRange n m (Line.clifford qs t) = all_below n qs ≡ true
InRange n m (Line.pauli P) = Unit {0}
InRange n m (Line.exponential P) = Unit {0}
InRange n m (Line.controlled C T) = Unit {0}
InRange n m (Line.permute s qs) = all_below n qs ≡ true
InRange n m (Line.measure P id) = id < m
InRange n m (Line.allocate id angle) = Unit {0}
InRange n m (Line.conditional P ids par) = Unit {0}
InRange n m (Line.reset qs) = Unit {0}
InRange n m (Line.inject shot P) = Unit {0}
InRange n m (Line.flip shot id) = id < m
InRange n m (Line.barrier qs) = Unit {0}

abbrev pub AllInRange : ℕ → ℕ → List Line → Type 0
AllInRange n m [] = Unit {0}
AllInRange n m (l ∷ ls) = InRange n m l × AllInRange n m ls
