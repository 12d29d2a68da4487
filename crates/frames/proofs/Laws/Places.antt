-- Lists of operands by their places: operands of a distinct list differ, each qubit is at a place or outside, and what lies on the places is put
-- on the operands so that commutation stays. Assumes nothing.
use Rattle.std.specs.Prelude.{◌≡◌, Bool, true, false, not, ◌&&◌, List, [], ◌∷◌, ℕ, zero, suc, ◌<◌, eqb, length, get_or}
use Rattle.std.proofs.Math.Path.{refl, sym, fun_ext}
use Rattle.std.proofs.Common.{ap, ap₂, ◌∙◌, true≢false, not-suc-le-zero, arith, eq-eqb, ne_eqb}
use Rattle.std.proofs.Math.Decide.{ℕ_discrete}
use Rattle.std.proofs.lemmas.Bool.{not-true, not-false}
use Rattle.text.proofs.Laws.Values.{both}
use Rattle.pauli.specs.Bits.{Bits, ◌⊕◌, ◌∩◌, ◌△◌, none, only, given, outside, members, parity}
use Rattle.pauli.specs.Pauli.{Pauli, X_at, Z_at, anticommutes}
use Rattle.pauli.proofs.Laws.F2.{f2, ⊕_left_comm}
use Rattle.pauli.proofs.Laws.Parity.{△_at, given_at, only_here, only_off, parity_△, parity_given, parity_none, parity_only, parity_△_right, parity_given_right, parity_only_right}
use Rattle.pauli.proofs.Laws.Gates.{pauli_path}
use Rattle.job.specs.Checks.{all_below, distinct}
use Rattle.job.proofs.Laws.Lists.{below_first, below_at, member_at, at_member, distinct_first, distinct_at}
use Rattle.frames.specs.Forward.{placed}

-- ---- numbers on a list

pub outside_cons : (r : ℕ) (rs : List ℕ) (q : ℕ) → outside (r ∷ rs) q ≡ true → (q ≡ r → ⊥) × (outside rs q ≡ true)
unfolding outside
outside_cons r rs q e =
    let s : (not (eqb q r) ≡ true) × (outside rs q ≡ true) = both (not (eqb q r)) (outside rs q) e in
    (λ p. true≢false (sym s.0 ∙ ap not (eq-eqb q r p)), s.1)

-- a number that is on the list is at a place
pub record PlaceOf (qs : List ℕ) (q : ℕ) : Type 0 where
  pub place : ℕ
  pub inside : place < length qs
  pub there : get_or qs place 0 ≡ q

pub place_of : (qs : List ℕ) (q : ℕ) → outside qs q ≡ false → PlaceOf qs q
unfolding members
place_of qs q e = let p = at_member qs q (ap not e) in record { place = p.0; inside = p.1; there = p.2 }

-- every number is outside the list or at a place
pub where_is : {A : Type 0} (qs : List ℕ) (q : ℕ) → (outside qs q ≡ true → A) → (PlaceOf qs q → A) → A
where_is {A} qs q off on = go (outside qs q) refl
  where
    go : (b : Bool) → outside qs q ≡ b → A
    go true e = off e
    go false e = on (place_of qs q e)

pub at_place : (qs : List ℕ) (i : ℕ) → i < length qs → outside qs (get_or qs i 0) ≡ false
unfolding members
at_place qs i h = not-true _ (member_at qs i h)

-- ---- distinct lists

pub record Distinct (q : ℕ) (qs : List ℕ) : Type 0 where
  pub first : outside qs q ≡ true
  pub rest : distinct qs ≡ true

pub distinct_cons : (q : ℕ) (qs : List ℕ) → distinct (q ∷ qs) ≡ true → Distinct q qs
unfolding members
distinct_cons q qs e = let d = distinct_first q qs e in record { first = not-false _ d.0; rest = d.1 }

-- the equality of operands can be seen from their places
pub places_eqb : (qs : List ℕ) → distinct qs ≡ true → (i j : ℕ) → i < length qs → j < length qs → eqb (get_or qs i 0) (get_or qs j 0) ≡ eqb i j
places_eqb qs d i j hi hj = go (ℕ_discrete i j)
  where
    go : Dec (i ≡ j) → eqb (get_or qs i 0) (get_or qs j 0) ≡ eqb i j
    go (yes e) = eq-eqb (get_or qs i 0) (get_or qs j 0) (ap (λ k. get_or qs k 0) e) ∙ sym (eq-eqb i j e)
    go (no ne) = ne_eqb (get_or qs i 0) (get_or qs j 0) (λ e. ne (distinct_at qs d i j hi hj e)) ∙ sym (ne_eqb i j ne)

-- and a list whose places differ is distinct
pub places_distinct : (qs : List ℕ) → ((i j : ℕ) → i < length qs → j < length qs → get_or qs i 0 ≡ get_or qs j 0 → i ≡ j) → distinct qs ≡ true
unfolding distinct members
places_distinct [] h = refl
places_distinct (q ∷ qs) h = ap₂ ◌&&◌ (ap (λ b. not (not b)) first) (places_distinct qs rest)
  where
    first : outside qs q ≡ true
    first =
        where_is qs q (λ e. e)
        (λ p. let z : 0 ≡ suc p.place = h 0 (suc p.place) (omega arith) (omega (arith, p.inside)) (sym p.there) in absurd (omega (arith, z)))

    rest : (i j : ℕ) → i < length qs → j < length qs → get_or qs i 0 ≡ get_or qs j 0 → i ≡ j
    rest i j hi hj e = let s : suc i ≡ suc j = h (suc i) (suc j) (omega (arith, hi)) (omega (arith, hj)) e in omega (arith, s)

-- ---- what lies on the places, put on the operands

pub placed_off : (s : Bits) (qs : List ℕ) (q : ℕ) → outside qs q ≡ true → placed s qs q ≡ false
unfolding placed
placed_off s [] q e = unfold none in refl
placed_off s (r ∷ rs) q e =
    let o = outside_cons r rs q e in
    △_at (given (s 0) (only r)) (placed (λ j. s (suc j)) rs) q
    ∙ ap₂ ◌⊕◌ (given_at (s 0) (only r) q ∙ ap (λ b. s 0 && b) (only_off r q o.0)) (placed_off (λ j. s (suc j)) rs q o.1)
    ∙ simp f2

pub placed_at : (s : Bits) (qs : List ℕ) → distinct qs ≡ true → (i : ℕ) → i < length qs → placed s qs (get_or qs i 0) ≡ s i
unfolding placed
placed_at s [] d i h = absurd (not-suc-le-zero h)
placed_at s (q ∷ qs) d zero h =
    △_at (given (s 0) (only q)) (placed (λ j. s (suc j)) qs) q
    ∙ ap₂ ◌⊕◌ (given_at (s 0) (only q) q ∙ ap (λ b. s 0 && b) (only_here q)) (placed_off (λ j. s (suc j)) qs q (distinct_cons q qs d).first)
    ∙ simp f2
placed_at s (q ∷ qs) d (suc i) h =
    △_at (given (s 0) (only q)) (placed (λ j. s (suc j)) qs) (get_or qs i 0)
    ∙ ap₂ ◌⊕◌ (given_at (s 0) (only q) (get_or qs i 0) ∙ ap (λ b. s 0 && b) (only_off q (get_or qs i 0) apart))
    (placed_at (λ j. s (suc j)) qs (distinct_cons q qs d).rest i (omega arith))
    ∙ simp f2
  where
    apart : get_or qs i 0 ≡ q → ⊥
    apart e = true≢false (sym (distinct_cons q qs d).first ∙ ap (outside qs) (sym e) ∙ at_place qs i (omega arith))

parity_shift : (n : ℕ) (s : Bits) → parity (suc n) s ≡ s 0 ⊕ parity n (λ i. s (suc i))
unfolding parity
parity_shift zero s = refl
parity_shift (suc n) s = ap (λ b. s (suc n) ⊕ b) (parity_shift n s) ∙ ⊕_left_comm (s (suc n)) (s 0) (parity n (λ i. s (suc i)))

-- one operand more
placed_step : (n q : ℕ) (a b : Bool) (s t : Bits) → q < n → s q ≡ false → t q ≡ false
    → parity n ((given a (only q) △ s) ∩ (given b (only q) △ t)) ≡ (a && b) ⊕ parity n (s ∩ t)
placed_step n q a b s t h es et =
    simp (f2, parity_△, parity_△_right, parity_given, parity_given_right, parity_only n q (only q) h, parity_only n q t h, parity_only_right n q s h, only_here q, es, et)

pub parity_placed : (n : ℕ) (qs : List ℕ) → all_below n qs ≡ true → distinct qs ≡ true → (s t : Bits)
    → parity n (placed s qs ∩ placed t qs) ≡ parity (length qs) (s ∩ t)
unfolding placed ◌∩◌
parity_placed n [] b d s t = parity_none n none ∙ unfold parity in refl
parity_placed n (q ∷ qs) b d s t =
    placed_step n q (s 0) (t 0) (placed (λ j. s (suc j)) qs) (placed (λ j. t (suc j)) qs) (below_at n (q ∷ qs) b 0 (omega arith))
    (placed_off _ qs q (distinct_cons q qs d).first) (placed_off _ qs q (distinct_cons q qs d).first)
    ∙ ap (λ r. (s 0 && t 0) ⊕ r) (parity_placed n qs (below_first n q qs b).1 (distinct_cons q qs d).rest (λ j. s (suc j)) (λ j. t (suc j)))
    ∙ sym (parity_shift (length qs) (s ∩ t))

-- a Pauli on the places, put on the operands
unfoldable pub on_qubits : List ℕ → Pauli → Pauli
on_qubits qs P = record { x = placed P.x qs; z = placed P.z qs }

pub anti_on_qubits : (n : ℕ) (qs : List ℕ) → all_below n qs ≡ true → distinct qs ≡ true → (P Q : Pauli)
    → anticommutes n (on_qubits qs P) (on_qubits qs Q) ≡ anticommutes (length qs) P Q
unfolding anticommutes on_qubits
anti_on_qubits n qs b d P Q = ap₂ ◌⊕◌ (parity_placed n qs b d P.x Q.z) (parity_placed n qs b d P.z Q.x)

-- what is on the places only, and read there
pub by_places : (qs : List ℕ) → distinct qs ≡ true → (s t : Bits) → ((i : ℕ) → i < length qs → s (get_or qs i 0) ≡ t i)
    → ((q : ℕ) → outside qs q ≡ true → s q ≡ false) → s ≡ placed t qs
by_places qs d s t on off =
    fun_ext
    (λ q. where_is qs q (λ e. off q e ∙ sym (placed_off t qs q e))
    (λ p. sym (ap s p.there) ∙ on p.place p.inside ∙ sym (placed_at t qs d p.place p.inside) ∙ ap (placed t qs) p.there))

module _ (qs : List ℕ) (d : distinct qs ≡ true) (i : ℕ) (h : i < length qs) where
  -- X and Z on a place are X and Z on its operand
  only_at : only (get_or qs i 0) ≡ placed (only i) qs
  only_at = by_places qs d (only (get_or qs i 0)) (only i) here off
    where
      here : (j : ℕ) → j < length qs → only (get_or qs i 0) (get_or qs j 0) ≡ only i j
      here j g = unfold only in places_eqb qs d j i g h

      off : (q : ℕ) → outside qs q ≡ true → only (get_or qs i 0) q ≡ false
      off q e = only_off (get_or qs i 0) q (λ p. true≢false (sym e ∙ ap (outside qs) p ∙ at_place qs i h))

  none_at : none ≡ placed none qs
  none_at = by_places qs d none none (λ j g. unfold none in refl) (λ q e. unfold none in refl)

  pub X_on : on_qubits qs (X_at i) ≡ X_at (get_or qs i 0)
  unfolding on_qubits X_at
  X_on = sym (pauli_path only_at none_at)

  pub Z_on : on_qubits qs (Z_at i) ≡ Z_at (get_or qs i 0)
  unfolding on_qubits Z_at
  Z_on = sym (pauli_path none_at only_at)
