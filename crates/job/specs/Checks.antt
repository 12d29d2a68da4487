-- Definitions. Tests 2 to 12, 20, 21 and 23, line by line: each is a Bool on what the whole line says and on what the lines before it said. The first
-- that fails, in document 01's order, is the number that refuses the line. Assumes nothing.
use Rattle.std.specs.Prelude.{ℕ, suc, ◌-◌, ◌^◌, Bool, true, false, cond, not, ◌&&◌, ◌||◌, List, [], ◌∷◌, ◌++◌, eqb, ltb, leb, length, Float}
use Rattle.std.proofs.Math.Option.{Option, none, some}
use Rattle.std.specs.Float.{binary64}
use Rattle.std.specs.Float.Ieee.{add}
use Rattle.pauli.specs.Bits.{members}
use Rattle.pauli.specs.Pauli.{anticommutes}
use Rattle.pauli.specs.Gate.{Gate, operands_of}
use Rattle.job.specs.declared.Header.{Header}
use Rattle.job.specs.Line.{SparsePauli, pauli_of, Line}
use Rattle.job.specs.Float.{float, zero_float, is_probability, is_weight_of, is_total}
use Rattle.job.specs.Clifford.{max_clifford_qubits, is_clifford_of}
use Rattle.job.specs.Grammar.{Kind, NoiseLine, Written, header_with}

-- ---- limits

abbrev pub max_qubits : ℕ
max_qubits = 256

abbrev pub max_outcomes : ℕ
max_outcomes = 1024

abbrev pub max_shots : ℕ
max_shots = 4096

abbrev pub max_elements : ℕ
max_elements = 64

-- every list on a line holds at most so many
abbrev pub max_members : ℕ
max_members = 31

abbrev pub max_edition : ℕ
max_edition = 2

-- ---- what the lines before say

pub record Context : Type 0 where
  -- whether there was a header, and its numbers (before it, those of no_header)
  pub begun : Bool
  pub header : Header
  -- how many outcomes are recorded: their ids are those below, and this is the next one
  pub recorded : ℕ
  -- how many element lines are due, and the sum of the weights so far where they have weights
  pub due : ℕ
  pub total : Option Float

-- the numbers of no header; without the field the edition is 1
abbrev pub no_header : Header
no_header = header_with 1 0 0 0

unfoldable pub no_context_of : Context
no_context_of = record { begun = false; header = no_header; recorded = 0; due = 0; total = none }

-- how many element lines follow
unfoldable pub element_lines_of : Kind → ℕ
element_lines_of (Kind.single P) = 0
element_lines_of (Kind.depolarizing qs) = 0
element_lines_of (Kind.uniform n) = n
element_lines_of (Kind.weighted n) = n

-- how many elements the distribution has: 1, 4^k - 1 or n
unfoldable pub kind_size : Kind → ℕ
kind_size (Kind.single P) = 1
kind_size (Kind.depolarizing qs) = 4 ^ length qs - 1
kind_size (Kind.uniform n) = n
kind_size (Kind.weighted n) = n

unfoldable pub first_total : Kind → Option Float
first_total (Kind.single P) = none
first_total (Kind.depolarizing qs) = none
first_total (Kind.uniform n) = none
first_total (Kind.weighted n) = some zero_float

-- weights are summed from the left in binary64
unfoldable pub next_total : Option Float → Option ℕ → Option Float
next_total none w = none
next_total (some t) none = some t
next_total (some t) (some w) = some (add binary64 t (float w))

-- o and r record an outcome
unfoldable pub records : Line → Bool
records (Line.unitary g qs) = false
records (Line.clifford qs t) = false
records (Line.pauli P) = false
records (Line.exponential P) = false
records (Line.controlled C T) = false
records (Line.permute s qs) = false
records (Line.measure P id) = true
records (Line.allocate id angle) = true
records (Line.conditional P ids par) = false
records (Line.reset qs) = false
records (Line.inject shot P) = false
records (Line.flip shot id) = false
records (Line.barrier qs) = false

-- the context after a line
unfoldable pub next : Context → Written → Context
next c (Written.header h) = record { begun = true; header = h; recorded = 0; due = 0; total = none }
next c (Written.line l) = record { begun = c.begun; header = c.header; recorded = cond (records l) (suc c.recorded) c.recorded; due = 0; total = none }
next c (Written.noise n) =
    record { begun = c.begun; header = c.header; recorded = c.recorded; due = element_lines_of n.kind; total = first_total n.kind }
next c (Written.element w P) =
    record { begun = c.begun; header = c.header; recorded = c.recorded; due = c.due - 1; total = next_total c.total w }

-- ---- tests on lists

unfoldable pub all_below : ℕ → List ℕ → Bool
all_below n [] = true
all_below n (q ∷ qs) = ltb q n && all_below n qs

unfoldable pub each_below_of : ℕ → List (List ℕ) → Bool
each_below_of n [] = true
each_below_of n (l ∷ ls) = all_below n l && each_below_of n ls

unfoldable pub each_short : List (List ℕ) → Bool
each_short [] = true
each_short (l ∷ ls) = leb (length l) max_members && each_short ls

-- no member twice
unfoldable pub distinct : List ℕ → Bool
distinct [] = true
distinct (q ∷ qs) = not (members qs q) && distinct qs

-- each of the places 0 to k-1 once
unfoldable pub is_permutation : ℕ → List ℕ → Bool
is_permutation k s = eqb (length s) k && all_below k s && distinct s

-- ---- the tests by their numbers

-- a number, and whether the line is refused by it
pub record Test : Type 0 where
  pub number : ℕ
  pub bad : Bool

-- a line is refused by a number where the test does not pass
abbrev pub test : ℕ → Bool → Test
test number passes = record { number = number; bad = not passes }

-- whether the element has a weight exactly where weights are due
unfoldable pub same_weight : Option ℕ → Option Float → Bool
same_weight none none = true
same_weight none (some t) = false
same_weight (some w) none = false
same_weight (some w) (some t) = true

-- 2: whether an element line is due, with or without a weight
unfoldable pub expected : Context → Written → Bool
expected c (Written.header h) = eqb c.due 0
expected c (Written.line l) = eqb c.due 0
expected c (Written.noise n) = eqb c.due 0
expected c (Written.element w P) = ltb 0 c.due && same_weight w c.total

-- whether a gate is one that the second edition adds
unfoldable pub is_second_gate : Gate → Bool
is_second_gate Gate.I = false
is_second_gate Gate.X = false
is_second_gate Gate.Y = false
is_second_gate Gate.Z = false
is_second_gate Gate.Hadamard = false
is_second_gate Gate.SqrtZ = false
is_second_gate Gate.SqrtZInv = false
is_second_gate Gate.SqrtX = false
is_second_gate Gate.SqrtXInv = false
is_second_gate Gate.SqrtY = false
is_second_gate Gate.SqrtYInv = false
is_second_gate Gate.ControlledX = false
is_second_gate Gate.ControlledZ = false
is_second_gate Gate.Swap = false
is_second_gate Gate.PrepareBell = false
is_second_gate Gate.ControlledY = true

-- whether a line's form is one that the second edition adds: ControlledY, a reset list, a barrier
unfoldable pub is_second_line : Line → Bool
is_second_line (Line.unitary g qs) = is_second_gate g
is_second_line (Line.clifford qs t) = false
is_second_line (Line.pauli P) = false
is_second_line (Line.exponential P) = false
is_second_line (Line.controlled C T) = false
is_second_line (Line.permute s qs) = false
is_second_line (Line.measure P id) = false
is_second_line (Line.allocate id angle) = false
is_second_line (Line.conditional P ids par) = false
is_second_line (Line.reset qs) = not (eqb (length qs) 1)
is_second_line (Line.inject shot P) = false
is_second_line (Line.flip shot id) = false
is_second_line (Line.barrier qs) = true

unfoldable pub is_second_of : Written → Bool
is_second_of (Written.header h) = false
is_second_of (Written.line l) = is_second_line l
is_second_of (Written.noise n) = false
is_second_of (Written.element w P) = false

-- 2: in a job of the first edition these are no forms. A line before any header is held to the first edition.
abbrev pub in_edition_of : Context → Written → Bool
in_edition_of c w = not (is_second_of w) || eqb c.header.edition 2

-- 2: form of a line (an element line's too), in the job's edition; the job ends before its n element lines (the job's last line)
abbrev pub form_test : Context → Bool → Written → Test
form_test c last w = test 2 (expected c w && not (last && ltb 0 (next c w).due) && in_edition_of c w)

-- 3: header missing, repeated, out of range
abbrev pub in_range : Header → Bool
in_range h = leb 1 h.qubits && leb h.qubits max_qubits && leb h.outcomes max_outcomes && leb 1 h.shots && leb h.shots max_shots

unfoldable pub header_fits_of : Context → Written → Bool
header_fits_of c (Written.header h) = not c.begun && in_range h
header_fits_of c (Written.line l) = c.begun
header_fits_of c (Written.noise n) = c.begun
header_fits_of c (Written.element w P) = c.begun

-- 23: the edition is neither 1 nor 2
abbrev pub known_edition : ℕ → Bool
known_edition edition = leb 1 edition && leb edition max_edition

-- 4: qubit not below qubits, in any of the lists
abbrev pub qubit_test : Context → List (List ℕ) → Test
qubit_test c lists = test 4 (each_below_of c.header.qubits lists)

-- 5: operand count or repeat; every list on the line holds at most 31
abbrev pub operand_test : Bool → List (List ℕ) → Test
operand_test fine lists = test 5 (fine && each_short lists)

-- 8: id of an `op=o` or `op=r` line not next, or not below outcomes
abbrev pub id_test : Context → ℕ → Test
id_test c id = test 8 (eqb id c.recorded && ltb id c.header.outcomes)

-- 9: outcome in an `op=f`, `op=t` or cond not yet recorded, however large
abbrev pub outcome_test : Context → List ℕ → Test
outcome_test c ids = test 9 (all_below c.recorded ids)

-- 10: shot not below shots
abbrev pub shot_test : Context → ℕ → Test
shot_test c shot = test 10 (ltb shot c.header.shots)

-- 20: control and target of an `op=k` line anticommute
abbrev pub commute_test : Context → SparsePauli → SparsePauli → Test
commute_test c C T = test 20 (not (anticommutes c.header.qubits (pauli_of C) (pauli_of T)))

-- the two lists of a Pauli
abbrev pub lists_of : SparsePauli → List (List ℕ)
lists_of P = P.x ∷ P.z ∷ []

-- 4 and 5 of a Pauli
abbrev pub pauli_tests : Context → SparsePauli → List Test → List Test
pauli_tests c P ts = qubit_test c (lists_of P) ∷ operand_test true (lists_of P) ∷ ts

-- The tests of each kind of line after 2 and 3, their numbers rising.
unfoldable pub line_tests : Context → Line → List Test
line_tests c (Line.unitary g qs) = qubit_test c (qs ∷ []) ∷ operand_test (eqb (length qs) (operands_of g) && distinct qs) (qs ∷ []) ∷ []
line_tests c (Line.clifford qs t) =
    qubit_test c (qs ∷ []) ∷ operand_test (leb (length qs) max_clifford_qubits && distinct qs) (qs ∷ []) ∷ test 7 (is_clifford_of (length qs) t) ∷ []
line_tests c (Line.pauli P) = pauli_tests c P []
line_tests c (Line.exponential P) = pauli_tests c P []
line_tests c (Line.controlled C T) = qubit_test c (lists_of C ++ lists_of T) ∷ operand_test true (lists_of C ++ lists_of T) ∷ commute_test c C T ∷ []
line_tests c (Line.permute s qs) = qubit_test c (qs ∷ []) ∷ operand_test (distinct qs) (s ∷ qs ∷ []) ∷ test 6 (is_permutation (length qs) s) ∷ []
line_tests c (Line.measure P id) = pauli_tests c P (id_test c id ∷ [])
line_tests c (Line.allocate id angle) = id_test c id ∷ []
line_tests c (Line.conditional P ids par) = qubit_test c (lists_of P) ∷ operand_test true (ids ∷ lists_of P) ∷ outcome_test c ids ∷ []
line_tests c (Line.reset qs) = qubit_test c (qs ∷ []) ∷ operand_test (distinct qs) (qs ∷ []) ∷ []
line_tests c (Line.inject shot P) = pauli_tests c P (shot_test c shot ∷ [])
line_tests c (Line.flip shot id) = outcome_test c (id ∷ []) ∷ shot_test c shot ∷ []
line_tests c (Line.barrier qs) = qubit_test c (qs ∷ []) ∷ operand_test (distinct qs) (qs ∷ []) ∷ []

-- the qubits of a kind of distribution, and whether its operands are fine
unfoldable pub kind_qubits : Kind → List (List ℕ)
kind_qubits (Kind.single P) = lists_of P
kind_qubits (Kind.depolarizing qs) = qs ∷ []
kind_qubits (Kind.uniform n) = []
kind_qubits (Kind.weighted n) = []

unfoldable pub kind_distinct : Kind → Bool
kind_distinct (Kind.single P) = true
kind_distinct (Kind.depolarizing qs) = distinct qs
kind_distinct (Kind.uniform n) = true
kind_distinct (Kind.weighted n) = true

-- 12: n not 1 to 64
unfoldable pub elements_fit : Kind → Bool
elements_fit (Kind.single P) = true
elements_fit (Kind.depolarizing qs) = true
elements_fit (Kind.uniform n) = leb 1 n && leb n max_elements
elements_fit (Kind.weighted n) = leb 1 n && leb n max_elements

unfoldable pub noise_tests : Context → NoiseLine → List Test
noise_tests c n =
    qubit_test c (kind_qubits n.kind)
    ∷ operand_test (kind_distinct n.kind) (n.condition.outcomes ∷ kind_qubits n.kind)
    ∷ outcome_test c n.condition.outcomes
    -- 11: p NaN or above 1
    ∷ test 11 (is_probability (float n.probability))
    ∷ test 12 (elements_fit n.kind)
    -- 21: the size written differs from the distribution's
    ∷ test 21 (eqb n.size (kind_size n.kind))
    ∷ []

-- 12: w below zero or not finite; at the last element line, total zero or not finite
unfoldable pub weight_fits : Option ℕ → Bool
weight_fits none = true
weight_fits (some w) = is_weight_of (float w)

unfoldable pub total_fits : Option Float → Bool
total_fits none = true
total_fits (some t) = is_total t

abbrev pub element_tests : Context → Option ℕ → SparsePauli → List Test
element_tests c w P = pauli_tests c P (test 12 (weight_fits w && (not (eqb c.due 1) || total_fits (next_total c.total w))) ∷ [])

unfoldable pub own_tests : Context → Written → List Test
own_tests c (Written.header h) = test 23 (known_edition h.edition) ∷ []
own_tests c (Written.line l) = line_tests c l
own_tests c (Written.noise n) = noise_tests c n
own_tests c (Written.element w P) = element_tests c w P

-- ---- the number of a line

-- the tests of a line in their order, and whether it is the job's last
abbrev pub tests : Context → Bool → Written → List Test
tests c last w = form_test c last w ∷ test 3 (header_fits_of c w) ∷ own_tests c w

-- the number of the first that is bad, and 0 where none is
unfoldable pub lowest : List Test → ℕ
lowest [] = 0
lowest (t ∷ ts) = let later = lowest ts in cond t.bad t.number later

-- the lowest number of a line; a line of no form has 2
unfoldable pub refusal_of : Context → Bool → Option Written → ℕ
refusal_of c last none = 2
refusal_of c last (some w) = lowest (tests c last w)
