-- Definitions that contracts use: the rows of the table by what is carried back alone, so that those from an instruction on do not depend on what is before
-- it. Assumes nothing.
use Rattle.std.specs.Prelude.{cond, List, [], ◌∷◌, ◌++◌, map, ℕ, zero, suc}
use Rattle.pauli.specs.Bits.{members}
use Rattle.pauli.specs.Pauli.{Pauli, anticommutes}
use Rattle.job.specs.declared.Header.{Header}
use Rattle.job.specs.Line.{SparsePauli, pauli_of, size_of, Instruction, Placed}
use Rattle.frames.specs.Forward.{setting_of}
use Rattle.draws.specs.Draws.{element_at}
use Rattle.backward.specs.Walk.{Carried, walk}
use Rattle.backward.specs.Walking.{plain_lines}
use Rattle.single_faults.specs.Table.{row_text}

-- the rows of so many elements from number e on
unfoldable pub rows_by : ℕ → (ℕ → List ℕ) → ℕ → ℕ → List (List ℕ)
rows_by line characters zero e = []
rows_by line characters (suc left) e = row_text line e (characters e) ∷ rows_by line characters left (suc e)

-- a group's character, by what is carried back of it
unfoldable pub mark_by : ℕ → Pauli → Carried → ℕ
mark_by n P c = cond (anticommutes n P c.observable) 49 48

-- what is carried back of a group to the place before some instructions
unfoldable pub carried_to : Header → List Placed → List ℕ → Carried
carried_to h after group = (walk (setting_of h 0) (plain_lines after) (members group)).carried

module _ (h : Header) (groups : List (List ℕ)) where
  unfoldable pub carried_marks : List Placed → SparsePauli → List ℕ
  carried_marks after P = map (mark_by h.qubits (pauli_of P)) (map (carried_to h after) groups)

  unfoldable pub carried_rows_of : ℕ → Instruction → List Placed → List (List ℕ)
  carried_rows_of line (Instruction.line l) after = []
  carried_rows_of line (Instruction.noise n) after =
      rows_by line (λ (e : ℕ). carried_marks after (element_at n.distribution e)) (size_of n.distribution) 0

  unfoldable pub carried_rows : List Placed → List (List ℕ)
  carried_rows [] = []
  carried_rows (i ∷ is) = carried_rows_of i.line i.instruction is ++ carried_rows is
