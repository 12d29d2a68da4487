-- How often two lists meet, modulo 2, a member at a time, by marks; and commutation of two Paulis by their lists. Laws. Assumes nothing.
use Rattle.std.specs.Prelude.{ℕ, ◌+◌, ◌<◌, ◌≤◌, ◌≡◌, refl, Bool, true, false, not, ◌||◌, List, eqb, length, get_or, set, drop}
use Rattle.std.proofs.Common.{arith, sym, ap, ap₂, ◌∙◌, eqb-true, drop_of_length-le, length-set, get_or-set_same, get_or-set_other}
use Rattle.std.specs.Bool.{beq}
use Rattle.std.proofs.lemmas.Bool.{eqb-false}
use Rattle.pauli.specs.Bits.{◌⊕◌, sum_over, members}
use Rattle.pauli.specs.Pauli.{anticommutes}
use Rattle.pauli.proofs.Laws.Parity.{parity_comm}
use Rattle.text.specs.List.{is_rising_of}
use Rattle.text.proofs.Laws.Pieces.{step}
use Rattle.job.specs.Line.{SparsePauli, pauli_of}
use Rattle.job.specs.Checks.{all_below}
use Rattle.job.proofs.Laws.Lists.{sum_over_members}
use Rattle.job.proofs.Laws.Rising.{members_nil, members_cons}
use Rattle.check_values.specs.Marks.{Unmarked, MarksOf}

-- ---- marks

-- of the numbers below count, which have a mark, the members before the i-th are marked
pub record MarkedTo (count : ℕ) (l : List ℕ) (i : ℕ) (marks : List Bool) : Type 0 where
  pub size : length marks ≡ count
  pub is : (q : ℕ) → q < count → (get_or marks q false || members (drop i l) q) ≡ members l q

pub none_marked : {marks : List Bool} (l : List ℕ) → Unmarked marks → MarkedTo (length marks) l 0 marks
none_marked l u = record { size = refl; is = λ q h. ap (λ (b : Bool). b || members l q) (u.is q h) }

pub next_marked : {count : ℕ} {marks marked : List Bool} (l : List ℕ) (i : ℕ) → i < length l → MarkedTo count l i marks → marked ≡ set marks (get_or l i 0) true
    → MarkedTo count l (i + 1) marked
next_marked {count} {marks} l i within m written = rw written (record { size = length-set marks n true ∙ m.size; is = λ q h. at q h (eqb q n) refl })
  where
    n : ℕ
    n = get_or l i 0

    rest : ℕ → Bool
    rest q = members (drop (i + 1) l) q

    before : (q : ℕ) → q < count → (get_or marks q false || (eqb q n || rest q)) ≡ members l q
    before q h =
        ap (λ (b : Bool). get_or marks q false || b) (sym (ap (λ (k : List ℕ). members k q) (step l i within) ∙ members_cons n (drop (i + 1) l) q)) ∙ m.is q h

    always : (b : Bool) → (b || true) ≡ true
    always true = refl
    always false = refl

    at : (q : ℕ) → q < count → (e : Bool) → eqb q n ≡ e → (get_or (set marks n true) q false || rest q) ≡ members l q
    at q h true e =
        let p : q ≡ n = eqb-true q n e in
        let here : get_or (set marks n true) n false ≡ true = get_or-set_same marks n true false (omega (arith, m.size)) in
        ap (λ (b : Bool). b || rest q) (ap (λ (k : ℕ). get_or (set marks n true) k false) p ∙ here) ∙ sym (always (get_or marks q false)) ∙ rw e at (before q h)
    at q h false e = ap (λ (b : Bool). b || rest q) (get_or-set_other marks n q true false (eqb-false q n e)) ∙ rw e at (before q h)

pub all_marked : {count : ℕ} {marks : List Bool} (l : List ℕ) (i : ℕ) → length l ≤ i → MarkedTo count l i marks → MarksOf marks l
all_marked {marks = marks} l i past m =
    record {
      is = λ q h.
          sym (or_none _) ∙ ap (λ (b : Bool). get_or marks q false || b) (sym (rw (drop_of_length-le l past) (members_nil q))) ∙ m.is q (omega (arith, m.size));
    }
  where
    or_none : (b : Bool) → (b || false) ≡ b
    or_none true = refl
    or_none false = refl

-- ---- the sum over one list of the members of the other

-- what was counted up to the place i of a list, with what is in the set from there on, is what is in the set
abbrev pub Counted : List ℕ → List ℕ → Bool → ℕ → Type 0
Counted l m odd i = sum_over l (members m) ≡ (odd ⊕ sum_over (drop i l) (members m))

flip : (o s t : Bool) → (o ⊕ (s ⊕ t)) ≡ (not (beq o s) ⊕ t)
unfolding ◌⊕◌
flip true true true = refl
flip true true false = refl
flip true false t = refl
flip false true t = refl
flip false false t = refl

pub next_counted : (l m : List ℕ) (odd : Bool) (i : ℕ) → i < length l → Counted l m odd i → Counted l m (not (beq odd (members m (get_or l i 0)))) (i + 1)
unfolding sum_over
next_counted l m odd i within e = e ∙ rw (step l i within) (flip odd (members m (get_or l i 0)) (sum_over (drop (i + 1) l) (members m)))

pub all_counted : (l m : List ℕ) (odd : Bool) (i : ℕ) → length l ≤ i → Counted l m odd i → odd ≡ sum_over l (members m)
unfolding sum_over ◌⊕◌
all_counted l m odd i past e = sym (e ∙ rw (drop_of_length-le l past) (none odd))
  where
    none : (o : Bool) → (o ⊕ false) ≡ o
    none true = refl
    none false = refl

-- ---- commutation

-- of two Paulis whose lists rise and are below n
pub anticommutes_listed : (n : ℕ) (C T : SparsePauli) → is_rising_of C.x ≡ true → all_below n C.x ≡ true → is_rising_of C.z ≡ true → all_below n C.z ≡ true
    → (sum_over C.x (members T.z) ⊕ sum_over C.z (members T.x)) ≡ anticommutes n (pauli_of C) (pauli_of T)
unfolding anticommutes pauli_of
anticommutes_listed n C T rx bx rz bz =
    ap₂ ◌⊕◌
    (sum_over_members n (members T.z) C.x rx bx ∙ parity_comm n (members T.z) (members C.x))
    (sum_over_members n (members T.x) C.z rz bz ∙ parity_comm n (members T.x) (members C.z))
