-- Theorems on conjugation: what the lines do to a frame is conjugation by the unitaries that document 01 gives, and these determine it. Nothing
-- here has to be believed.
use Rattle.std.specs.Prelude.{◌≡◌, refl, true, false, not, ◌&&◌, ◌||◌, cond, ◌↔◌, List, [], ◌∷◌, ℕ, ◌+◌, ◌*◌, ◌^◌, ◌<◌, length, get_or}
use Rattle.std.proofs.Common.{sym, ap, ap₂, ◌∙◌, true≢false, eq-eqb}
use Rattle.std.proofs.lemmas.Bool.{not-true}
use Rattle.pauli.specs.Pauli.{Pauli, identity, X_at, Y_at, Z_at, ◌∗◌, anticommutes}
use Rattle.pauli.specs.Gate.{Gate, operands_of, gate_with, conjugated}
use Rattle.pauli.proofs.Laws.Pairing.{anti_comm}
use Rattle.pauli.proofs.Laws.Changes.{cleared_more}
use Rattle.job.specs.declared.Header.{Header}
use Rattle.job.specs.Line.{pauli_of, Line, Instruction, Placed}
use Rattle.job.specs.Clifford.{is_clifford_of}
use Rattle.job.specs.Checks.{all_below, distinct, is_permutation}
use Rattle.job.specs.Job.{job_of, recorded_by, check_job}
use Rattle.job.specs.Sound.{UnitarySound, CliffordSound, PermuteSound, Every, LineSound, InstructionSound, InstructionsSound}
use Rattle.job.proofs.Theorems.{checked_sound}
use Rattle.frames.specs.Forward.{controlled_pauli, images_of, places_of, transformed, State, Setting, setting_of, forward, run}
use Rattle.frames.specs.Conjugation.{Sum, product, same, phased, pauli_sum, exponential_sum, controlled_sum, gate_sum, Takes, IsUnitary, IsRow, ExtendsTable, ExtendsPlaces, TakesTable, TakesPlaces, Within, KeepsCommutation, is_unitary_line, Conjugates, HasUnitary, is_unitary_kind, IsConjugate, ConjugatesFrames}
use Rattle.frames.proofs.Laws.Gaussian.{twice}
use Rattle.frames.proofs.Laws.Sums.{product_assoc}
use Rattle.frames.proofs.Laws.Products as Products
use Rattle.frames.proofs.Laws.Takes as Takings
use Rattle.frames.proofs.Laws.Unitary as Unitary
use Rattle.frames.proofs.Laws.Roots as Roots
use Rattle.frames.proofs.Laws.Controlled as Controlled
use Rattle.frames.proofs.Laws.Gates as Gates
use Rattle.frames.proofs.Laws.Generators as Generators
use Rattle.frames.proofs.Laws.Commutation.{generators_keep, keeps_generators, images_unique, images_commute}
use Rattle.frames.proofs.Laws.Clifford as Clifford
use Rattle.frames.proofs.Laws.Permutation as Permutation
use Rattle.frames.proofs.Laws.Taken.{images_taken}
use Rattle.frames.proofs.Laws.Lines.{tested, operands}
use Rattle.frames.proofs.Laws.Within.{line_within}

-- ---- lines

-- For every line that is a unitary, what `forward` does to every frame is what the unitary takes it to, and the deltas stay.
pub forward_conjugates : (c : Setting) (l : Line) → is_unitary_line c.qubits l ≡ true → (s : State)
    → Conjugates c.qubits l s.frame (forward c l s).frame × ((forward c l s).deltas ≡ s.deltas)
unfolding is_unitary_line Conjugates forward
forward_conjugates c (Line.unitary g qs) u s = (Gates.gate_takes c.qubits g _ _ (operands c.qubits g qs (tested _ qs _ u)) s.frame, refl)
forward_conjugates c (Line.clifford qs t) u s = ((transformed qs (images_of qs t), Clifford.clifford_extends c.qubits qs (tested _ qs _ u).once t, refl), refl)
forward_conjugates c (Line.pauli P) u s = (Roots.pauli_takes c.qubits (pauli_of P) s.frame, refl)
forward_conjugates c (Line.exponential P) u s = (Roots.exponential_takes c.qubits (pauli_of P) s.frame, refl)
forward_conjugates c (Line.controlled C T) u s =
    (Controlled.controlled_takes c.qubits (pauli_of C) (pauli_of T) (anti_comm c.qubits (pauli_of T) (pauli_of C) ∙ not-true _ u) s.frame, refl)
forward_conjugates c (Line.permute p qs) u s =
    let l = tested c.qubits qs (is_permutation (length qs) p) u in
    ((transformed qs (places_of qs p qs), Permutation.permutation_extends c.qubits p qs l.once (Permutation.test_permutes (length qs) p l.last).as_many, refl), refl)
forward_conjugates c (Line.measure P id) u s = absurd (true≢false (sym u))
forward_conjugates c (Line.allocate id angle) u s = absurd (true≢false (sym u))
forward_conjugates c (Line.conditional P ids par) u s = absurd (true≢false (sym u))
forward_conjugates c (Line.reset qs) u s = absurd (true≢false (sym u))
forward_conjugates c (Line.inject shot P) u s = absurd (true≢false (sym u))
forward_conjugates c (Line.flip shot id) u s = absurd (true≢false (sym u))
forward_conjugates c (Line.barrier qs) u s = absurd (true≢false (sym u))

-- What the tests of a job leave of a job's lines (`checked_sound` of crate job) are unitary lines: a gate,
pub sound_gate : (h : Header) (g : Gate) (qs : List ℕ) → UnitarySound h g qs → is_unitary_line h.qubits (Line.unitary g qs) ≡ true
unfolding is_unitary_line
sound_gate h g qs s = ap₂ ◌&&◌ (ap₂ ◌&&◌ s.operands.below s.operands.apart) (eq-eqb (length qs) (operands_of g) s.count)

-- a Clifford,
pub sound_clifford : (n : ℕ) (qs : List ℕ) (t : ℕ) → CliffordSound n qs t → is_unitary_line n (Line.clifford qs t) ≡ true
unfolding is_unitary_line
sound_clifford n qs t s = ap₂ ◌&&◌ (ap₂ ◌&&◌ s.operands.below s.operands.apart) s.table

-- and a permutation. (A Pauli and an exponential always are, and a controlled Pauli where control and target commute.)
pub sound_permutation : (n : ℕ) (s qs : List ℕ) → PermuteSound n s qs → is_unitary_line n (Line.permute s qs) ≡ true
unfolding is_unitary_line
sound_permutation n s qs e = ap₂ ◌&&◌ (ap₂ ◌&&◌ e.operands.below e.operands.apart) e.places

-- ---- the second edition

-- ControlledY is the controlled Pauli of Z and Y,
pub controlled_Y_is : (n a b : ℕ) → a < n → b < n → (F : Pauli) → conjugated Gate.ControlledY a b F ≡ controlled_pauli n (Z_at a) (Y_at b) F
unfolding gate_with
controlled_Y_is n a b h k F = sym (Gates.controlled_ZY n a b h k F)

-- and does to every frame what SqrtZInv on the target, ControlledX and SqrtZ on the target do, one after another.
pub controlled_Y_composed : (c : Setting) (a b : ℕ) (s : State)
    → run c (Line.unitary Gate.SqrtZInv (b ∷ []) ∷ Line.unitary Gate.ControlledX (a ∷ b ∷ []) ∷ Line.unitary Gate.SqrtZ (b ∷ []) ∷ []) s
    ≡ forward c (Line.unitary Gate.ControlledY (a ∷ b ∷ [])) s
unfolding run forward gate_with
controlled_Y_composed c a b s = ap (λ F. record { frame = F; deltas = s.deltas }) (Gates.controlled_Y_composed a b s.frame)

-- A reset list is its single resets, one after another.
pub reset_singly : (c : Setting) (q : ℕ) (qs : List ℕ) (s : State)
    → forward c (Line.reset (q ∷ qs)) s ≡ forward c (Line.reset qs) (forward c (Line.reset (q ∷ [])) s)
unfolding forward
reset_singly c q qs s = ap (λ F. record { frame = F; deltas = s.deltas }) (cleared_more q s.frame qs)

-- ---- products of Paulis

module _ (n : ℕ) where
  -- The product of sums of Paulis, by which a unitary is given, is associative with its phases,
  pub product_associative : (U M W : Sum) → product n (product n U M) W ≡ product n U (product n M W)
  product_associative = product_assoc n

  -- 1 changes nothing,
  pub one_unit : (U : Sum) → (product n (pauli_sum identity) U ≡ U) × (product n U (pauli_sum identity) ≡ U)
  one_unit U = (Products.one_product n U, Products.product_one n U)

  -- a Pauli's square is 1,
  pub pauli_square : (P : Pauli) → product n (pauli_sum P) (pauli_sum P) ≡ pauli_sum identity
  pauli_square = Products.pauli_square n

  -- PQ is QP where the two commute and -QP where they anticommute,
  pub pauli_swap : (P Q : Pauli) → product n (pauli_sum P) (pauli_sum Q) ≡ product n (phased (cond (anticommutes n P Q) 2 0) Q ∷ []) (pauli_sum P)
  unfolding twice
  pauli_swap = Products.pauli_swap n

  -- Paulis that share no qubit are put side by side,
  pub apart_product : (P Q : Pauli) → ((i : ℕ) → i < n → (P.x i || P.z i) && (Q.x i || Q.z i) ≡ false) → product n (pauli_sum P) (pauli_sum Q) ≡ pauli_sum (P ∗ Q)
  apart_product = Products.apart_product n

  -- and Y is iXZ.
  pub Y_is_iXZ : (q : ℕ) → q < n → pauli_sum (Y_at q) ≡ product n (phased 1 (X_at q) ∷ []) (pauli_sum (Z_at q))
  Y_is_iXZ = Products.Y_is_iXZ n

-- ---- the sums

-- Each gate's sum is a unitary up to a factor, where its operands are as the line's test wants them.
pub gate_unitary : (n : ℕ) (g : Gate) (qs : List ℕ) → is_unitary_line n (Line.unitary g qs) ≡ true → IsUnitary n (gate_sum n g (get_or qs 0 0) (get_or qs 1 0))
unfolding is_unitary_line
gate_unitary n g qs u = Gates.gate_unitary n g _ _ (operands n g qs (tested n qs _ u))

-- So is a Pauli,
pub pauli_unitary : (n : ℕ) (P : Pauli) → IsUnitary n (pauli_sum P)
pauli_unitary = Roots.pauli_unitary

-- an exponential,
pub exponential_unitary : (n : ℕ) (P : Pauli) → IsUnitary n (exponential_sum P)
exponential_unitary = Roots.exponential_unitary

-- and a controlled Pauli whose control and target commute;
pub controlled_unitary : (n : ℕ) (C T : Pauli) → anticommutes n C T ≡ false → IsUnitary n (controlled_sum n C T)
controlled_unitary n C T e = Controlled.controlled_unitary n C T (anti_comm n T C ∙ e)

-- if the two anticommute it is no unitary.
pub anticommuting_refused : (n : ℕ) (C T : Pauli) → anticommutes n C T ≡ true → IsUnitary n (controlled_sum n C T) → ⊥
anticommuting_refused n C T e = Controlled.anticommuting_refused n C T (anti_comm n T C ∙ e)

-- What a unitary takes a Pauli to is determined on the n qubits,
pub takes_unique : (n : ℕ) (U : Sum) → IsUnitary n U → (Q Q₁ Q₂ : Pauli) → Takes n U Q Q₁ → Takes n U Q Q₂ → same n Q₁ Q₂ ≡ true
takes_unique n U u Q Q₁ Q₂ = Unitary.takes_unique u

-- it keeps products,
pub takes_∗ : (n : ℕ) (U : Sum) (P P' Q Q' : Pauli) → Takes n U P P' → Takes n U Q Q' → Takes n U (P ∗ Q) (P' ∗ Q')
takes_∗ n U P P' Q Q' = Takings.takes_∗ n

-- and it keeps commutation.
pub takes_commutes : (n : ℕ) (U : Sum) → IsUnitary n U → (P P' Q Q' : Pauli) → Takes n U P P' → Takes n U Q Q' → anticommutes n P' Q' ≡ anticommutes n P Q
takes_commutes n U u P P' Q Q' = Unitary.takes_commutes u

-- ---- Cliffords and permutations

-- Two maps that keep products and agree on X and Z of each of the n qubits agree on every Pauli on the n qubits.
pub products_agree : (n : ℕ) (f g : Pauli → Pauli) → ((P Q : Pauli) → f (P ∗ Q) ≡ f P ∗ f Q) → ((P Q : Pauli) → g (P ∗ Q) ≡ g P ∗ g Q)
    → ((q : ℕ) → q < n → f (X_at q) ≡ g (X_at q)) → ((q : ℕ) → q < n → f (Z_at q) ≡ g (Z_at q)) → (P : Pauli) → Within n P → f P ≡ g P
products_agree = Generators.products_agree

-- The map of a Clifford line extends its table: X on operand i goes to row i, Z to row k + i, and the other qubits stay.
pub clifford_extends : (n : ℕ) (qs : List ℕ) (t : ℕ) → distinct qs ≡ true → ExtendsTable n qs t (transformed qs (images_of qs t))
clifford_extends n qs t d = Clifford.clifford_extends n qs d t

-- The map of a permutation line extends its places.
pub permutation_extends : (n : ℕ) (s qs : List ℕ) → distinct qs ≡ true → length s ≡ length qs → ExtendsPlaces n s qs (transformed qs (places_of qs s qs))
permutation_extends n s qs d = Permutation.permutation_extends n s qs d

-- So a unitary with the images of a Clifford line, whatever sum it is, takes every frame on the n qubits to what the line makes of it, and to no other
-- Pauli there.
pub clifford_taken : (c : Setting) (qs : List ℕ) (t : ℕ) → is_unitary_line c.qubits (Line.clifford qs t) ≡ true
    → (U : Sum) → IsUnitary c.qubits U → TakesTable c.qubits qs t U → (s : State) → Within c.qubits s.frame
    → Takes c.qubits U s.frame (forward c (Line.clifford qs t) s).frame
    × ((R : Pauli) → Takes c.qubits U s.frame R → same c.qubits (forward c (Line.clifford qs t) s).frame R ≡ true)
unfolding is_unitary_line forward
clifford_taken c qs t test U u images s w =
    let once = (tested c.qubits qs (is_clifford_of (length qs) t) test).once in
    let taken =
    images_taken c.qubits U (transformed qs (images_of qs t)) qs (IsRow qs t) (λ i. IsRow qs t (length qs + i))
    (λ i P Q p q. Clifford.row_is qs once t i P p ∙ sym (Clifford.row_is qs once t i Q q))
    (λ i P Q p q. Clifford.row_is qs once t (length qs + i) P p ∙ sym (Clifford.row_is qs once t (length qs + i) Q q))
    (clifford_extends c.qubits qs t once) images s.frame w in
    (taken, λ R r. takes_unique c.qubits U u s.frame _ R taken r)

-- The same of a permutation line.
pub permutation_taken : (c : Setting) (p qs : List ℕ) → is_unitary_line c.qubits (Line.permute p qs) ≡ true
    → (U : Sum) → IsUnitary c.qubits U → TakesPlaces c.qubits p qs U → (s : State) → Within c.qubits s.frame
    → Takes c.qubits U s.frame (forward c (Line.permute p qs) s).frame
    × ((R : Pauli) → Takes c.qubits U s.frame R → same c.qubits (forward c (Line.permute p qs) s).frame R ≡ true)
unfolding is_unitary_line forward
permutation_taken c p qs test U u images s w =
    let l = tested c.qubits qs (is_permutation (length qs) p) test in
    let taken =
    images_taken c.qubits U (transformed qs (places_of qs p qs)) qs _ _ (λ i P Q a b. a ∙ sym b) (λ i P Q a b. a ∙ sym b)
    (permutation_extends c.qubits p qs l.once (Permutation.test_permutes (length qs) p l.last).as_many) images s.frame w in
    (taken, λ R r. takes_unique c.qubits U u s.frame _ R taken r)

-- A table passes test 7 exactly where it has no bits from 4k² up and the map that extends it keeps commutation: 7 refuses no Clifford.
pub clifford_test : (n : ℕ) (qs : List ℕ) (t : ℕ) → all_below n qs ≡ true → distinct qs ≡ true → (f : Pauli → Pauli) → ExtendsTable n qs t f
    → (is_clifford_of (length qs) t ≡ true) ↔ ((t < 2 ^ (4 * (length qs * length qs))) × KeepsCommutation n f)
clifford_test n qs t b d f e = (
  λ c. let r = Clifford.test_rows (length qs) t c in (r.0, generators_keep n qs b d _ _ f (Clifford.table_onto n qs d t f e) r.1),
  λ k. Clifford.rows_test (length qs) t k.0 (keeps_generators n qs b d _ _ f (Clifford.table_onto n qs d t f e) k.1),
)

-- A list of as many places as there are operands passes test 6 exactly where the map that extends it keeps commutation.
pub permutation_test : (n : ℕ) (s qs : List ℕ) → all_below n qs ≡ true → distinct qs ≡ true → length s ≡ length qs → all_below (length qs) s ≡ true
    → (f : Pauli → Pauli) → ExtendsPlaces n s qs f → (is_permutation (length qs) s ≡ true) ↔ KeepsCommutation n f
permutation_test n s qs b d l b' f e = (
  λ p. generators_keep n qs b d _ _ f (Permutation.places_onto n s qs d l b' f e) (Permutation.once_commutes (length qs) s l b' (Permutation.test_permutes (length qs) s p).once),
  λ k. Permutation.permutes_test (length qs) s (record { as_many = l; below = b'; once = Permutation.commutes_once (length qs) s l b' (keeps_generators n qs b d _ _ f (Permutation.places_onto n s qs d l b' f e) k) }),
)

-- ---- all lines

-- A line that is a unitary by its tests has a unitary.
pub line_unitary : (n : ℕ) (l : Line) → is_unitary_line n l ≡ true → HasUnitary n l
unfolding is_unitary_line HasUnitary
line_unitary n (Line.unitary g qs) u = gate_unitary n g qs u
line_unitary n (Line.clifford qs t) u =
    λ f e. let l = tested n qs (is_clifford_of (length qs) t) u in ((clifford_test n qs t l.below l.once f e).0 l.last).1
line_unitary n (Line.pauli P) u = pauli_unitary n (pauli_of P)
line_unitary n (Line.exponential P) u = exponential_unitary n (pauli_of P)
line_unitary n (Line.controlled C T) u = controlled_unitary n (pauli_of C) (pauli_of T) (not-true _ u)
line_unitary n (Line.permute s qs) u =
    λ f e.
    let l = tested n qs (is_permutation (length qs) s) u in
    let r = Permutation.test_permutes (length qs) s l.last in
    (permutation_test n s qs l.below l.once r.as_many r.below f e).0 l.last
line_unitary n (Line.measure P id) u = absurd (true≢false (sym u))
line_unitary n (Line.allocate id angle) u = absurd (true≢false (sym u))
line_unitary n (Line.conditional P ids par) u = absurd (true≢false (sym u))
line_unitary n (Line.reset qs) u = absurd (true≢false (sym u))
line_unitary n (Line.inject shot P) u = absurd (true≢false (sym u))
line_unitary n (Line.flip shot id) u = absurd (true≢false (sym u))
line_unitary n (Line.barrier qs) u = absurd (true≢false (sym u))

-- What a unitary line takes a Pauli on the n qubits to is determined on them: with `forward_conjugates`, it is what `forward` makes of it.
pub conjugation_unique : (n : ℕ) (l : Line) → is_unitary_line n l ≡ true → (Q Q₁ Q₂ : Pauli) → Within n Q → Conjugates n l Q Q₁ → Conjugates n l Q Q₂
    → same n Q₁ Q₂ ≡ true
unfolding is_unitary_line Conjugates
conjugation_unique n (Line.unitary g qs) u Q Q₁ Q₂ w a b = takes_unique n _ (gate_unitary n g qs u) Q Q₁ Q₂ a b
conjugation_unique n (Line.clifford qs t) u Q Q₁ Q₂ w (f, a, p) (g, b, q) =
    let l = tested n qs (is_clifford_of (length qs) t) u in
    images_unique n qs l.below l.once _ _ f g (Clifford.table_onto n qs l.once t f a) (Clifford.table_onto n qs l.once t g b) Q Q₁ Q₂ w p q
conjugation_unique n (Line.pauli P) u Q Q₁ Q₂ w a b = takes_unique n _ (pauli_unitary n (pauli_of P)) Q Q₁ Q₂ a b
conjugation_unique n (Line.exponential P) u Q Q₁ Q₂ w a b = takes_unique n _ (exponential_unitary n (pauli_of P)) Q Q₁ Q₂ a b
conjugation_unique n (Line.controlled C T) u Q Q₁ Q₂ w a b = takes_unique n _ (controlled_unitary n (pauli_of C) (pauli_of T) (not-true _ u)) Q Q₁ Q₂ a b
conjugation_unique n (Line.permute s qs) u Q Q₁ Q₂ w (f, a, p) (g, b, q) =
    let l = tested n qs (is_permutation (length qs) s) u in
    let r = Permutation.test_permutes (length qs) s l.last in
    images_unique n qs l.below l.once _ _ f g (Permutation.places_onto n s qs l.once r.as_many r.below f a) (Permutation.places_onto n s qs l.once r.as_many r.below g b) Q Q₁ Q₂ w p q
conjugation_unique n (Line.measure P id) u Q Q₁ Q₂ w a b = absurd a
conjugation_unique n (Line.allocate id angle) u Q Q₁ Q₂ w a b = absurd a
conjugation_unique n (Line.conditional P ids par) u Q Q₁ Q₂ w a b = absurd a
conjugation_unique n (Line.reset qs) u Q Q₁ Q₂ w a b = absurd a
conjugation_unique n (Line.inject shot P) u Q Q₁ Q₂ w a b = absurd a
conjugation_unique n (Line.flip shot id) u Q Q₁ Q₂ w a b = absurd a
conjugation_unique n (Line.barrier qs) u Q Q₁ Q₂ w a b = absurd a

-- A unitary line keeps the commutation of the Paulis on the n qubits.
pub conjugation_commutes : (n : ℕ) (l : Line) → is_unitary_line n l ≡ true → (P P' Q Q' : Pauli) → Within n P → Within n Q → Conjugates n l P P' → Conjugates n l Q Q'
    → anticommutes n P' Q' ≡ anticommutes n P Q
unfolding is_unitary_line Conjugates
conjugation_commutes n (Line.unitary g qs) u P P' Q Q' w w' a b = takes_commutes n _ (gate_unitary n g qs u) P P' Q Q' a b
conjugation_commutes n (Line.clifford qs t) u P P' Q Q' w w' (f, a, p) (g, b, q) =
    let l = tested n qs (is_clifford_of (length qs) t) u in
    images_commute n qs l.below l.once _ _ f g (Clifford.table_onto n qs l.once t f a) (Clifford.table_onto n qs l.once t g b) (Clifford.test_rows (length qs) t l.last).1 P P' Q Q' w w' p q
conjugation_commutes n (Line.pauli R) u P P' Q Q' w w' a b = takes_commutes n _ (pauli_unitary n (pauli_of R)) P P' Q Q' a b
conjugation_commutes n (Line.exponential R) u P P' Q Q' w w' a b = takes_commutes n _ (exponential_unitary n (pauli_of R)) P P' Q Q' a b
conjugation_commutes n (Line.controlled C T) u P P' Q Q' w w' a b = takes_commutes n _ (controlled_unitary n (pauli_of C) (pauli_of T) (not-true _ u)) P P' Q Q' a b
conjugation_commutes n (Line.permute s qs) u P P' Q Q' w w' (f, a, p) (g, b, q) =
    let l = tested n qs (is_permutation (length qs) s) u in
    let r = Permutation.test_permutes (length qs) s l.last in
    images_commute n qs l.below l.once _ _ f g (Permutation.places_onto n s qs l.once r.as_many r.below f a) (Permutation.places_onto n s qs l.once r.as_many r.below g b) (Permutation.once_commutes (length qs) s r.as_many r.below r.once) P P' Q Q' w w' p q
conjugation_commutes n (Line.measure R id) u P P' Q Q' w w' a b = absurd a
conjugation_commutes n (Line.allocate id angle) u P P' Q Q' w w' a b = absurd a
conjugation_commutes n (Line.conditional R ids par) u P P' Q Q' w w' a b = absurd a
conjugation_commutes n (Line.reset qs) u P P' Q Q' w w' a b = absurd a
conjugation_commutes n (Line.inject shot R) u P P' Q Q' w w' a b = absurd a
conjugation_commutes n (Line.flip shot id) u P P' Q Q' w w' a b = absurd a
conjugation_commutes n (Line.barrier qs) u P P' Q Q' w w' a b = absurd a

-- ---- accepted jobs

-- A sound line of a unitary kind is a unitary line.
pub sound_unitary : (h : Header) (r : ℕ) (l : Line) → LineSound h r l → is_unitary_kind l ≡ true → is_unitary_line h.qubits l ≡ true
unfolding LineSound is_unitary_kind is_unitary_line
sound_unitary h r (Line.unitary g qs) o u = sound_gate h g qs o
sound_unitary h r (Line.clifford qs t) o u = sound_clifford h.qubits qs t o
sound_unitary h r (Line.pauli P) o u = refl
sound_unitary h r (Line.exponential P) o u = refl
sound_unitary h r (Line.controlled C T) o u = ap not o.commute
sound_unitary h r (Line.permute s qs) o u = sound_permutation h.qubits s qs o
sound_unitary h r (Line.measure P id) o u = u
sound_unitary h r (Line.allocate id angle) o u = u
sound_unitary h r (Line.conditional P ids par) o u = u
sound_unitary h r (Line.reset qs) o u = u
sound_unitary h r (Line.inject shot P) o u = u
sound_unitary h r (Line.flip shot id) o u = u
sound_unitary h r (Line.barrier qs) o u = u

-- What a sound line makes of a frame on the job's qubits is a frame on them,
pub sound_within : (h : Header) (r : ℕ) (l : Line) → LineSound h r l → (shot : ℕ) (s : State) → Within h.qubits s.frame
    → Within h.qubits (forward (setting_of h shot) l s).frame
sound_within h r l o shot s w = line_within h r shot l o s w

-- and, where the line is of a unitary kind, it is the frame's conjugate by the line's unitary.
pub sound_conjugates : (h : Header) (r : ℕ) (l : Line) → LineSound h r l → is_unitary_kind l ≡ true
    → (shot : ℕ) (s : State) → Within h.qubits s.frame → IsConjugate h.qubits l s.frame (forward (setting_of h shot) l s).frame
sound_conjugates h r l o kind shot s w =
    let u = sound_unitary h r l o kind in
    let c = (forward_conjugates (setting_of h shot) l u s).0 in
    record { unitary = line_unitary h.qubits l u; takes = c; alone = λ R k. conjugation_unique h.qubits l u s.frame _ R w c k }

-- of an instruction
instruction_conjugates : (h : Header) (r : ℕ) (i : Instruction) → InstructionSound h r i → ConjugatesFrames h i
unfolding InstructionSound ConjugatesFrames
instruction_conjugates h r (Instruction.line l) o =
    λ kind shot s w. (sound_conjugates h r l o kind shot s w, (forward_conjugates (setting_of h shot) l (sound_unitary h r l o kind) s).1)
instruction_conjugates h r (Instruction.noise n) o = tt

instructions_conjugate : (h : Header) (r : ℕ) (is : List Placed) → InstructionsSound h r is → Every (λ (i : Placed). ConjugatesFrames h i.instruction) is
unfolding InstructionsSound
instructions_conjugate h r [] o = tt
instructions_conjugate h r (i ∷ is) o =
    (instruction_conjugates h r i.instruction o.0, instructions_conjugate h (r + recorded_by i.instruction) is o.1)

-- Demand 2: for every job that passes the checks, each unitary line's effect on a frame is conjugation, phases dropped. Each of its instructions that is
-- u, c, p, e, k or m has a unitary and takes every frame on the job's qubits to its conjugate by it.
-- (`frames_within` of crate draws: every frame of a run is one on the job's qubits.)
pub job_conjugates : (job : List ℕ) → (check_job job).number ≡ 0
    → Every (λ (i : Placed). ConjugatesFrames (job_of job).header i.instruction) (job_of job).instructions
job_conjugates job passes = instructions_conjugate (job_of job).header 0 (job_of job).instructions (checked_sound job passes).instructions
