-- Definitions. Conjugation, as in document 01, "Frames and lines": a unitary is given, up to a factor, as a sum of Paulis with coefficients a + bi,
-- a and b whole, or by its images, extended to products. Assumes nothing.
use Rattle.std.specs.Prelude.{◌≡◌, Bool, true, false, not, ◌&&◌, cond, List, [], ◌∷◌, ◌++◌, map, ℕ, zero, suc, ◌+◌, ◌*◌, ◌<◌, ◌≤◌, eqb, ℤ, pos, neg_ℤ, ◌+ℤ◌, ◌-ℤ◌, ◌*ℤ◌, length, get_or}
use Rattle.pauli.specs.Bits.{◌⊕◌, outside, bit}
use Rattle.pauli.specs.Pauli.{Pauli, identity, X_at, Y_at, Z_at, ◌∗◌, anticommutes}
use Rattle.pauli.specs.Gate.{Gate, operands_of}
use Rattle.job.specs.declared.Header.{Header}
use Rattle.job.specs.Line.{pauli_of, Line, Instruction}
use Rattle.job.specs.Clifford.{is_clifford_of}
use Rattle.job.specs.Checks.{all_below, distinct, is_permutation}
use Rattle.frames.specs.Forward.{State, setting_of, forward}

-- ---- a + bi

pub record Gaussian : Type 0 where
  pub re : ℤ
  pub im : ℤ

-- a number from 0 up
unfoldable pub whole : ℕ → Gaussian
whole a = record { re = pos a; im = pos 0 }

unfoldable pub plus : Gaussian → Gaussian → Gaussian
plus c d = record { re = c.re +ℤ d.re; im = c.im +ℤ d.im }

unfoldable pub times : Gaussian → Gaussian → Gaussian
times c d = record { re = c.re *ℤ d.re -ℤ c.im *ℤ d.im; im = c.re *ℤ d.im +ℤ c.im *ℤ d.re }

-- a - bi
unfoldable pub complex_conjugate : Gaussian → Gaussian
complex_conjugate c = record { re = c.re; im = neg_ℤ c.im }

-- i times c
unfoldable pub times_I : Gaussian → Gaussian
times_I c = record { re = neg_ℤ c.im; im = c.re }

-- i to the power k, times c
unfoldable pub times_I^ : ℕ → Gaussian → Gaussian
times_I^ zero c = c
times_I^ (suc k) c = times_I (times_I^ k c)

-- ---- products of Paulis with their phase

-- The phase of a product on one qubit, as a power of i. The four bits are the X and Z part of the first factor and of the second.
-- XY = iZ, YZ = iX, ZX = iY; the other way round it is -i; else 1.
unfoldable pub phase_one : Bool → Bool → Bool → Bool → ℕ
phase_one false false x z = 0
phase_one true false false false = 0
phase_one true false true false = 0
phase_one true false true true = 1
phase_one true false false true = 3
phase_one true true false false = 0
phase_one true true true true = 0
phase_one true true false true = 1
phase_one true true true false = 3
phase_one false true false false = 0
phase_one false true false true = 0
phase_one false true true false = 1
phase_one false true true true = 3

-- P stands for the product of its X, Y and Z over n qubits. The product of P and Q is i to this power times `P ∗ Q`.
unfoldable pub phase : ℕ → Pauli → Pauli → ℕ
phase zero P Q = 0
phase (suc n) P Q = phase_one (P.x n) (P.z n) (Q.x n) (Q.z n) + phase n P Q

-- ---- sums of Paulis with coefficients

pub record Term : Type 0 where
  pub coefficient : Gaussian
  pub pauli : Pauli

abbrev pub Sum : Type 0
Sum = List Term

unfoldable pub term_product : ℕ → Term → Term → Term
term_product n s t =
    record { coefficient = times_I^ (phase n s.pauli t.pauli) (times s.coefficient t.coefficient); pauli = s.pauli ∗ t.pauli }

-- U · W: each term of the one with each of the other
unfoldable pub product : ℕ → Sum → Sum → Sum
product n [] W = []
product n (t ∷ U) W = map (term_product n t) W ++ product n U W

-- the adjoint: coefficients are conjugated, and X, Y and Z are their own adjoints
unfoldable pub adjoint_term : Term → Term
adjoint_term t = record { coefficient = complex_conjugate t.coefficient; pauli = t.pauli }

abbrev pub adjoint : Sum → Sum
adjoint U = map adjoint_term U

-- P and R have the same parts on the first n qubits
unfoldable pub same : ℕ → Pauli → Pauli → Bool
same zero P R = true
same (suc n) P R = not (P.x n ⊕ R.x n) && not (P.z n ⊕ R.z n) && same n P R

-- The coefficient of R in a sum, once the terms with the same Pauli are added up. Two sums are equal if these are, for each R.
unfoldable pub coefficient_of : ℕ → Sum → Pauli → Gaussian
coefficient_of n [] R = whole 0
coefficient_of n (t ∷ U) R = plus (cond (same n t.pauli R) t.coefficient (whole 0)) (coefficient_of n U R)

-- i to the power k, times P
unfoldable pub phased : ℕ → Pauli → Term
phased k P = record { coefficient = times_I^ k (whole 1); pauli = P }

-- a Pauli is itself
abbrev pub pauli_sum : Pauli → Sum
pauli_sum P = phased 0 P ∷ []

-- U takes Q to Q': U · Q is Q' · U times 1, i, -1 or -i.
pub record Takes (n : ℕ) (U : Sum) (Q Q' : Pauli) : Type 0 where
  pub unit : ℕ
  pub equal : (R : Pauli) → coefficient_of n (product n U (pauli_sum Q)) R ≡ times_I^ unit (coefficient_of n (product n (pauli_sum Q') U) R)

-- U is a unitary up to a factor: U times its adjoint is a positive whole number times 1.
pub record IsUnitary (n : ℕ) (U : Sum) : Type 0 where
  pub factor : ℕ
  pub positive : 0 < factor
  pub equal : (R : Pauli) → coefficient_of n (product n U (adjoint U)) R ≡ cond (same n identity R) (whole factor) (whole 0)

-- ---- the unitaries, up to a factor

-- 1 + iP
abbrev pub exponential_sum : Pauli → Sum
exponential_sum P = phased 0 identity ∷ phased 1 P ∷ []

-- 1 - iP; its inverse is 1 + iP
abbrev pub sqrt_sum : Pauli → Sum
sqrt_sum P = phased 0 identity ∷ phased 3 P ∷ []

-- 1 + C + T - CT
abbrev pub controlled_sum : ℕ → Pauli → Pauli → Sum
controlled_sum n C T = phased 0 identity ∷ phased 0 C ∷ phased 0 T ∷ phased (2 + phase n C T) (C ∗ T) ∷ []

-- X + Z
abbrev pub hadamard_sum : ℕ → Sum
hadamard_sum a = phased 0 (X_at a) ∷ phased 0 (Z_at a) ∷ []

-- 1 + XX + YY + ZZ
abbrev pub swap_sum : ℕ → ℕ → Sum
swap_sum a b = phased 0 identity ∷ phased 0 (X_at a ∗ X_at b) ∷ phased 0 (Y_at a ∗ Y_at b) ∷ phased 0 (Z_at a ∗ Z_at b) ∷ []

-- the unitary of each gate on the operands a and b (a gate on one qubit has no b)
unfoldable pub gate_sum : ℕ → Gate → ℕ → ℕ → Sum
gate_sum n Gate.I a b = pauli_sum identity
gate_sum n Gate.X a b = pauli_sum (X_at a)
gate_sum n Gate.Y a b = pauli_sum (Y_at a)
gate_sum n Gate.Z a b = pauli_sum (Z_at a)
gate_sum n Gate.Hadamard a b = hadamard_sum a
gate_sum n Gate.SqrtZ a b = sqrt_sum (Z_at a)
gate_sum n Gate.SqrtZInv a b = exponential_sum (Z_at a)
gate_sum n Gate.SqrtX a b = sqrt_sum (X_at a)
gate_sum n Gate.SqrtXInv a b = exponential_sum (X_at a)
gate_sum n Gate.SqrtY a b = sqrt_sum (Y_at a)
gate_sum n Gate.SqrtYInv a b = exponential_sum (Y_at a)
gate_sum n Gate.ControlledX a b = controlled_sum n (Z_at a) (X_at b)
gate_sum n Gate.ControlledZ a b = controlled_sum n (Z_at a) (Z_at b)
gate_sum n Gate.Swap a b = swap_sum a b
-- PrepareBell is one half after the other: Hadamard on the first, then ControlledX.
gate_sum n Gate.PrepareBell a b = product n (controlled_sum n (Z_at a) (X_at b)) (hadamard_sum a)
gate_sum n Gate.ControlledY a b = controlled_sum n (Z_at a) (Y_at b)

-- ---- images, extended to products

-- f keeps products. On operand i it takes X to a Pauli that is as `isX i` says and Z to one that is as `isZ i` says; X and Z on every other
-- of the n qubits stay.
pub record Extends (n : ℕ) (qs : List ℕ) (isX isZ : ℕ → Pauli → Type 0) (f : Pauli → Pauli) : Type 0 where
  pub products : (P Q : Pauli) → f (P ∗ Q) ≡ f P ∗ f Q
  pub of_X : (i : ℕ) → i < length qs → isX i (f (X_at (get_or qs i 0)))
  pub of_Z : (i : ℕ) → i < length qs → isZ i (f (Z_at (get_or qs i 0)))
  pub other_X : (q : ℕ) → q < n → outside qs q ≡ true → f (X_at q) ≡ X_at q
  pub other_Z : (q : ℕ) → q < n → outside qs q ≡ true → f (Z_at q) ≡ Z_at q

-- P is row r of the table t on the operands qs, k in number: bit 2k × r + c of t is at column c, columns X then Z. It has no other parts.
pub record IsRow (qs : List ℕ) (t r : ℕ) (P : Pauli) : Type 0 where
  pub columns_X : (j : ℕ) → j < length qs → P.x (get_or qs j 0) ≡ bit t (2 * length qs * r + j)
  pub columns_Z : (j : ℕ) → j < length qs → P.z (get_or qs j 0) ≡ bit t (2 * length qs * r + (length qs + j))
  pub no_other_X : (q : ℕ) → outside qs q ≡ true → P.x q ≡ false
  pub no_other_Z : (q : ℕ) → outside qs q ≡ true → P.z q ≡ false

-- A Clifford is given by its images: rows 0 to k-1 are the images of X, the next k of Z.
abbrev pub ExtendsTable : ℕ → List ℕ → ℕ → (Pauli → Pauli) → Type 0
ExtendsTable n qs t = Extends n qs (IsRow qs t) (λ i. IsRow qs t (length qs + i))

-- A permutation is given by its places: X and Z on the qubit at place i go to X and Z on the qubit at place s_i.
abbrev pub ExtendsPlaces : ℕ → List ℕ → List ℕ → (Pauli → Pauli) → Type 0
ExtendsPlaces n s qs =
    Extends n qs (λ i P. P ≡ X_at (get_or qs (get_or s i 0) 0)) (λ i P. P ≡ Z_at (get_or qs (get_or s i 0) 0))

-- A sum takes X on operand i to a Pauli that is as `isX i` says and Z to one that is as `isZ i` says; X and Z on every other of the n qubits it
-- takes to themselves.
pub record TakesImages (n : ℕ) (qs : List ℕ) (isX isZ : ℕ → Pauli → Type 0) (U : Sum) : Type 0 where
  pub of_X : (i : ℕ) → i < length qs → (P : Pauli) × isX i P × Takes n U (X_at (get_or qs i 0)) P
  pub of_Z : (i : ℕ) → i < length qs → (P : Pauli) × isZ i P × Takes n U (Z_at (get_or qs i 0)) P
  pub other_X : (q : ℕ) → q < n → outside qs q ≡ true → Takes n U (X_at q) (X_at q)
  pub other_Z : (q : ℕ) → q < n → outside qs q ≡ true → Takes n U (Z_at q) (Z_at q)

-- the images of a table, and those of places
abbrev pub TakesTable : ℕ → List ℕ → ℕ → Sum → Type 0
TakesTable n qs t = TakesImages n qs (IsRow qs t) (λ i. IsRow qs t (length qs + i))

abbrev pub TakesPlaces : ℕ → List ℕ → List ℕ → Sum → Type 0
TakesPlaces n s qs = TakesImages n qs (λ i P. P ≡ X_at (get_or qs (get_or s i 0) 0)) (λ i P. P ≡ Z_at (get_or qs (get_or s i 0) 0))

-- P has no parts but on the n qubits
pub record Within (n : ℕ) (P : Pauli) : Type 0 where
  pub in_x : (i : ℕ) → n ≤ i → P.x i ≡ false
  pub in_z : (i : ℕ) → n ≤ i → P.z i ≡ false

-- f keeps the commutation of the Paulis on the n qubits
abbrev pub KeepsCommutation : ℕ → (Pauli → Pauli) → Type 0
KeepsCommutation n f = (P Q : Pauli) → Within n P → Within n Q → anticommutes n (f P) (f Q) ≡ anticommutes n P Q

-- ---- lines

-- Whether a line is a unitary, by tests 4 to 7: operands below n, as many as the gate takes, none twice; a Clifford's table; a permutation of
-- the places. And control and target commute.
unfoldable pub is_unitary_line : ℕ → Line → Bool
is_unitary_line n (Line.unitary g qs) = all_below n qs && distinct qs && eqb (length qs) (operands_of g)
is_unitary_line n (Line.clifford qs t) = all_below n qs && distinct qs && is_clifford_of (length qs) t
is_unitary_line n (Line.pauli P) = true
is_unitary_line n (Line.exponential P) = true
is_unitary_line n (Line.controlled C T) = not (anticommutes n (pauli_of C) (pauli_of T))
is_unitary_line n (Line.permute s qs) = all_below n qs && distinct qs && is_permutation (length qs) s
is_unitary_line n (Line.measure P id) = false
is_unitary_line n (Line.allocate id angle) = false
is_unitary_line n (Line.conditional P ids par) = false
is_unitary_line n (Line.reset qs) = false
is_unitary_line n (Line.inject shot P) = false
is_unitary_line n (Line.flip shot id) = false
is_unitary_line n (Line.barrier qs) = false

-- The line's unitary takes Q to Q'. Nothing is claimed of the other lines.
unfoldable pub Conjugates : ℕ → Line → Pauli → Pauli → Type 0
Conjugates n (Line.unitary g qs) Q Q' = Takes n (gate_sum n g (get_or qs 0 0) (get_or qs 1 0)) Q Q'
Conjugates n (Line.clifford qs t) Q Q' = (f : Pauli → Pauli) × ExtendsTable n qs t f × (f Q ≡ Q')
Conjugates n (Line.pauli P) Q Q' = Takes n (pauli_sum (pauli_of P)) Q Q'
Conjugates n (Line.exponential P) Q Q' = Takes n (exponential_sum (pauli_of P)) Q Q'
Conjugates n (Line.controlled C T) Q Q' = Takes n (controlled_sum n (pauli_of C) (pauli_of T)) Q Q'
Conjugates n (Line.permute s qs) Q Q' = (f : Pauli → Pauli) × ExtendsPlaces n s qs f × (f Q ≡ Q')
Conjugates n (Line.measure P id) Q Q' = ⊥
Conjugates n (Line.allocate id angle) Q Q' = ⊥
Conjugates n (Line.conditional P ids par) Q Q' = ⊥
Conjugates n (Line.reset qs) Q Q' = ⊥
Conjugates n (Line.inject shot P) Q Q' = ⊥
Conjugates n (Line.flip shot id) Q Q' = ⊥
Conjugates n (Line.barrier qs) Q Q' = ⊥

-- The line's unitary is one: its sum is a unitary up to a factor; of a Clifford and a permutation, which are given by images, every map that extends
-- these keeps commutation. Nothing is claimed of the other lines.
unfoldable pub HasUnitary : ℕ → Line → Type 0
HasUnitary n (Line.unitary g qs) = IsUnitary n (gate_sum n g (get_or qs 0 0) (get_or qs 1 0))
HasUnitary n (Line.clifford qs t) = (f : Pauli → Pauli) → ExtendsTable n qs t f → KeepsCommutation n f
HasUnitary n (Line.pauli P) = IsUnitary n (pauli_sum (pauli_of P))
HasUnitary n (Line.exponential P) = IsUnitary n (exponential_sum (pauli_of P))
HasUnitary n (Line.controlled C T) = IsUnitary n (controlled_sum n (pauli_of C) (pauli_of T))
HasUnitary n (Line.permute s qs) = (f : Pauli → Pauli) → ExtendsPlaces n s qs f → KeepsCommutation n f
HasUnitary n (Line.measure P id) = ⊥
HasUnitary n (Line.allocate id angle) = ⊥
HasUnitary n (Line.conditional P ids par) = ⊥
HasUnitary n (Line.reset qs) = ⊥
HasUnitary n (Line.inject shot P) = ⊥
HasUnitary n (Line.flip shot id) = ⊥
HasUnitary n (Line.barrier qs) = ⊥

-- Which lines of an accepted job are unitaries: u, c, p, e, k and m.
unfoldable pub is_unitary_kind : Line → Bool
is_unitary_kind (Line.unitary g qs) = true
is_unitary_kind (Line.clifford qs t) = true
is_unitary_kind (Line.pauli P) = true
is_unitary_kind (Line.exponential P) = true
is_unitary_kind (Line.controlled C T) = true
is_unitary_kind (Line.permute s qs) = true
is_unitary_kind (Line.measure P id) = false
is_unitary_kind (Line.allocate id angle) = false
is_unitary_kind (Line.conditional P ids par) = false
is_unitary_kind (Line.reset qs) = false
is_unitary_kind (Line.inject shot P) = false
is_unitary_kind (Line.flip shot id) = false
is_unitary_kind (Line.barrier qs) = false

-- Q' is Q conjugated by the line's unitary, phases dropped: the line has a unitary, which takes Q to Q', and on the n qubits to no other Pauli.
pub record IsConjugate (n : ℕ) (l : Line) (Q Q' : Pauli) : Type 0 where
  pub unitary : HasUnitary n l
  pub takes : Conjugates n l Q Q'
  pub alone : (R : Pauli) → Conjugates n l Q R → same n Q' R ≡ true

-- An instruction of a job with this header, if it is a unitary, takes every frame on the job's qubits, in every shot, to its conjugate by the unitary,
-- and the deltas stay. Of noise nothing is claimed.
unfoldable pub ConjugatesFrames : Header → Instruction → Type 0
ConjugatesFrames h (Instruction.line l) =
    is_unitary_kind l ≡ true → (shot : ℕ) (s : State) → Within h.qubits s.frame
    → IsConjugate h.qubits l s.frame (forward (setting_of h shot) l s).frame × ((forward (setting_of h shot) l s).deltas ≡ s.deltas)
ConjugatesFrames h (Instruction.noise n) = Unit {0}
