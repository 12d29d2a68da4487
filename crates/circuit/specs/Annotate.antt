-- Definitions. Depolarizing annotation and the count of fault locations, as in document 01, "Around the engine"; which qubits a line's noise has, and the
-- size that it says, as in document 02, notes 1 and 6. Assumes nothing.
use Rattle.std.specs.Prelude.{Bool, true, false, cond, List, [], ◌∷◌, ◌++◌, ℕ, suc, ◌+◌, ◌*◌, leb, length}
use Rattle.std.proofs.Math.Option.{Option, none, some}
use Rattle.text.specs.Bytes.{lines, unlines}
use Rattle.text.specs.Template.{Value, line_text}
use Rattle.pauli.specs.Bits.{members}
use Rattle.job.specs.Line.{SparsePauli, Line, Distribution, size_of}
use Rattle.job.specs.Rising.{rising}
use Rattle.job.specs.Grammar.{depolarizing_template, Written, read_line_of}
use Rattle.job.specs.Checks.{max_members}

-- ---- the qubits of a line, and those of its noise

-- the support of a Pauli, rising; a Y counts once
abbrev pub support_of : SparsePauli → List ℕ
support_of P = rising (P.x ++ P.z)

-- the operands, or the support rising, control's and then target's, so that a qubit of both stands twice; none for the other lines
unfoldable pub located_qubits : Line → List ℕ
located_qubits (Line.unitary g qs) = qs
located_qubits (Line.clifford qs t) = qs
located_qubits (Line.pauli P) = support_of P
located_qubits (Line.exponential P) = support_of P
located_qubits (Line.controlled C T) = support_of C ++ support_of T
located_qubits (Line.permute s qs) = qs
located_qubits (Line.measure P id) = support_of P
located_qubits (Line.allocate id angle) = []
located_qubits (Line.conditional P ids par) = []
located_qubits (Line.reset qs) = []
located_qubits (Line.inject shot P) = []
located_qubits (Line.flip shot id) = []
located_qubits (Line.barrier qs) = []

-- a number behind those seen, where it is not among them
unfoldable pub add_new_of : List ℕ → ℕ → List ℕ
add_new_of seen q = cond (members seen q) seen (seen ++ q ∷ [])

unfoldable pub first_from : List ℕ → List ℕ → List ℕ
first_from seen [] = seen
first_from seen (q ∷ qs) = first_from (add_new_of seen q) qs

-- each number of a list at its first appearance
abbrev pub first_only_of : List ℕ → List ℕ
first_only_of qs = first_from [] qs

-- each qubit at its first appearance
unfoldable pub noise_qubits_of : Line → List ℕ
noise_qubits_of l = first_only_of (located_qubits l)

-- noise goes before a measurement, and after the others
unfoldable pub noise_before_of : Line → Bool
noise_before_of (Line.unitary g qs) = false
noise_before_of (Line.clifford qs t) = false
noise_before_of (Line.pauli P) = false
noise_before_of (Line.exponential P) = false
noise_before_of (Line.controlled C T) = false
noise_before_of (Line.permute s qs) = false
noise_before_of (Line.measure P id) = true
noise_before_of (Line.allocate id angle) = false
noise_before_of (Line.conditional P ids par) = false
noise_before_of (Line.reset qs) = false
noise_before_of (Line.inject shot P) = false
noise_before_of (Line.flip shot id) = false
noise_before_of (Line.barrier qs) = false

-- ---- the annotated text

-- `op=n p=H corr=- cond=- parity=0 d=2 q=... size=...`
unfoldable pub noise_text_of : ℕ → List ℕ → List ℕ
noise_text_of p qs =
    line_text depolarizing_template (Value.number p ∷ Value.list [] ∷ Value.list [] ∷ Value.number 0 ∷ Value.list qs ∷ Value.number (size_of (Distribution.depolarizing qs)) ∷ [])

-- none for an empty list of qubits
unfoldable pub noise_lines_of : ℕ → List ℕ → List (List ℕ)
noise_lines_of p [] = []
noise_lines_of p (q ∷ qs) = noise_text_of p (q ∷ qs) ∷ []

-- a line with its noise; every other line is copied
unfoldable pub around : ℕ → List ℕ → Option Written → List (List ℕ)
around p l none = l ∷ []
around p l (some (Written.header h)) = l ∷ []
around p l (some (Written.noise n)) = l ∷ []
around p l (some (Written.element w P)) = l ∷ []
around p l (some (Written.line i)) = cond (noise_before_of i) (noise_lines_of p (noise_qubits_of i) ++ l ∷ []) (l ∷ noise_lines_of p (noise_qubits_of i))

unfoldable pub annotated : ℕ → List (List ℕ) → List (List ℕ)
annotated p [] = []
annotated p (l ∷ ls) = around p l (read_line_of l) ++ annotated p ls

-- the text of a job with its noise; p by its bits
unfoldable pub annotated_text : ℕ → List ℕ → List ℕ
annotated_text p job = unlines (annotated p (lines job))

-- ---- 18 and the location count

-- the qubits of what a line says
unfoldable pub located_on : Option Written → List ℕ
located_on none = []
located_on (some (Written.header h)) = []
located_on (some (Written.noise n)) = []
located_on (some (Written.element w P)) = []
located_on (some (Written.line i)) = located_qubits i

-- those of its noise
unfoldable pub noise_on : Option Written → List ℕ
noise_on o = first_only_of (located_on o)

-- 18: annotation over more than 31 qubits; the first such line, k being the number of the first of these lines
unfoldable pub first_unfit : ℕ → List (List ℕ) → Option ℕ
first_unfit k [] = none
first_unfit k (l ∷ ls) =
    let later = first_unfit (suc k) ls in
    cond (leb (length (noise_on (read_line_of l))) max_members) later (some k)

-- the locations of a line: twice its operands or its weight, for a controlled Pauli both weights, whatever the two share
unfoldable pub locations_at : Option Written → ℕ
locations_at o = 2 * length (located_on o)

-- summed over the job
unfoldable pub locations : List (List ℕ) → ℕ
locations [] = 0
locations (l ∷ ls) = locations_at (read_line_of l) + locations ls
