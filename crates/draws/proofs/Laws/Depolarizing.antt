-- Laws: the elements of a depolarizing distribution are all Paulis on its qubits but the identity, each once. Assumes nothing.
use Rattle.std.specs.Prelude.{◌≡◌, Bool, true, false, cond, ◌&&◌, ◌||◌, List, [], ◌∷◌, eqb, get_or}
use Rattle.std.proofs.Math.Path.{refl, sym, ap, fun_ext}
use Rattle.std.proofs.Common.{◌∙◌, pow-suc, add-one, arith, lit<, eqb-true}
use Rattle.std.proofs.Math.Bool.{and-false}
use Prim.Native.Nat.{ℕ, zero, suc, ◌+◌, ◌-◌, ◌*◌, ◌/◌, ◌%◌, ◌^◌, ◌<◌}
use Rattle.std.proofs.Math.Nat.{zero-div}
use Rattle.std.proofs.Math.ListN.{length}
use Rattle.std.proofs.lemmas.Bool.{eqb-false}
use Rattle.pauli.specs.Bits.{Bits, none, members, bit}
use Rattle.pauli.specs.Pauli.{Pauli, identity}
use Rattle.pauli.proofs.Laws.Parity.{at_or_off}
use Rattle.pauli.proofs.Laws.Gates.{pauli_path}
use Rattle.job.specs.Line.{pauli_of, Distribution, size_of}
use Rattle.job.specs.Checks.{distinct}
use Rattle.job.proofs.Laws.Sizes.{four}
use Rattle.draws.specs.Draws.{selected, depolarizing_element_of}
use Rattle.draws.proofs.Laws.Elements.{members_nil, members_cons, members_rising, selected_cons, bit_first, bit_later, element_x, element_z}

-- ---- a number by its bits

same_parity : (v w : ℕ) → eqb (v % 2) 1 ≡ eqb (w % 2) 1 → v % 2 ≡ w % 2
same_parity v w e = go (eqb (v % 2) 1) refl
  where
    go : (b : Bool) → eqb (v % 2) 1 ≡ b → v % 2 ≡ w % 2
    go true p = eqb-true (v % 2) 1 p ∙ sym (eqb-true (w % 2) 1 (sym e ∙ p))
    go false p =
        let nv : (v % 2 ≡ 1 → ⊥) = eqb-false (v % 2) 1 p in
        let nw : (w % 2 ≡ 1 → ⊥) = eqb-false (w % 2) 1 (sym e ∙ p) in
        omega (arith, nv, nw)

pub same_bits : (n v w : ℕ) → v < 2 ^ n → w < 2 ^ n → ((j : ℕ) → j < n → bit v j ≡ bit w j) → v ≡ w
same_bits zero v w a b e = omega arith
same_bits (suc n) v w a b e =
    let low : v % 2 ≡ w % 2 = same_parity v w (sym (bit_first v) ∙ e 0 (omega arith) ∙ bit_first w) in
    let high : v / 2 ≡ w / 2 =
    same_bits n (v / 2) (w / 2) (omega arith) (omega arith) (λ j h. bit_later v 1 j ∙ e (1 + j) (omega arith) ∙ sym (bit_later w 1 j)) in
    omega arith

no_bit : (j : ℕ) → bit 0 j ≡ false
unfolding bit
no_bit j = rw (zero-div (2 ^ j))

-- ---- each once

-- the X part of the qubit at place j / 2, and for an odd j its Z part
unfoldable part_at : List ℕ → Pauli → ℕ → Bool
part_at qs P j = cond (eqb (j % 2) 1) (P.z (get_or qs (j / 2) 0)) (P.x (get_or qs (j / 2) 0))

identity_part : (qs : List ℕ) (j : ℕ) → part_at qs identity j ≡ false
unfolding part_at identity none
identity_part qs j = go (eqb (j % 2) 1)
  where
    go : (b : Bool) → cond b false false ≡ false
    go true = refl
    go false = refl

module _ (qs : List ℕ) (d : distinct qs ≡ true) where
  -- the bits of e + 1 below 2k are the parts of the Pauli
  part_bit : (e j : ℕ) → j < 2 * length qs → bit (e + 1) j ≡ part_at qs (pauli_of (depolarizing_element_of qs e)) j
  unfolding part_at
  part_bit e j h = go (eqb (j % 2) 1) refl
    where
      P : Pauli
      P = pauli_of (depolarizing_element_of qs e)

      go : (b : Bool) → eqb (j % 2) 1 ≡ b → bit (e + 1) j ≡ cond b (P.z (get_or qs (j / 2) 0)) (P.x (get_or qs (j / 2) 0))
      go true p =
          let odd : j % 2 ≡ 1 = eqb-true (j % 2) 1 p in
          let place : j ≡ 2 * (j / 2) + 1 = omega arith in
          ap (bit (e + 1)) place ∙ sym (element_z qs e d (j / 2) (omega arith))
      go false p =
          let even : (j % 2 ≡ 1 → ⊥) = eqb-false (j % 2) 1 p in
          let place : j ≡ 2 * (j / 2) = omega (arith, even) in
          ap (bit (e + 1)) place ∙ sym (element_x qs e d (j / 2) (omega arith))

  below_power : (e : ℕ) → e < size_of (Distribution.depolarizing qs) → e + 1 < 2 ^ (2 * length qs)
  unfolding size_of
  below_power e h = rw (four (length qs)) (omega arith)

  -- elements that are one Pauli are one
  pub element_once : (e f : ℕ) → e < size_of (Distribution.depolarizing qs) → f < size_of (Distribution.depolarizing qs)
      → pauli_of (depolarizing_element_of qs e) ≡ pauli_of (depolarizing_element_of qs f) → e ≡ f
  element_once e f a b same =
      let bits : (j : ℕ) → j < 2 * length qs → bit (e + 1) j ≡ bit (f + 1) j =
      λ j h. part_bit e j h ∙ ap (λ (P : Pauli). part_at qs P j) same ∙ sym (part_bit f j h) in
      let sums : e + 1 ≡ f + 1 = same_bits (2 * length qs) (e + 1) (f + 1) (below_power e a) (below_power f b) bits in
      omega arith

  -- none is the identity
  pub element_some : (e : ℕ) → e < size_of (Distribution.depolarizing qs) → pauli_of (depolarizing_element_of qs e) ≡ identity → ⊥
  element_some e a same =
      let bits : (j : ℕ) → j < 2 * length qs → bit (e + 1) j ≡ bit 0 j =
      λ j h. part_bit e j h ∙ ap (λ (P : Pauli). part_at qs P j) same ∙ identity_part qs j ∙ sym (no_bit j) in
      let sum : e + 1 ≡ 0 = same_bits (2 * length qs) (e + 1) 0 (below_power e a) (omega (arith, below_power e a)) bits in
      omega arith

-- ---- all of them

-- 0 or 1
abbrev digit : Bool → ℕ
digit b = cond b 1 0

digit_below : (b : Bool) → digit b < 2
digit_below true = lit< tt
digit_below false = lit< tt

digit_set : (b : Bool) → eqb (digit b) 1 ≡ b
digit_set true = refl
digit_set false = refl

-- the number whose bits are the parts on the listed qubits
unfoldable code_of : Bits → Bits → List ℕ → ℕ
code_of x z [] = 0
code_of x z (q ∷ qs) = digit (x q) + 2 * digit (z q) + 4 * code_of x z qs

code_below : (x z : Bits) (qs : List ℕ) → code_of x z qs < 4 ^ length qs
unfolding code_of
code_below x z [] = lit< tt
code_below x z (q ∷ qs) = rw (pow-suc 4 (length qs)) (omega (arith, code_below x z qs, digit_below (x q), digit_below (z q)))

-- one more qubit
member_given : (s : Bits) (q : ℕ) (qs : List ℕ) (i : ℕ) → (s q && eqb i q) || (members qs i && s i) ≡ members (q ∷ qs) i && s i
member_given s q qs i =
    at_or_off (λ j b. (s q && b) || (members qs j && s j) ≡ (b || members qs j) && s j) q
    (here (s q) (members qs q)) (λ j. off (s q) (members qs j && s j)) i
    ∙ ap (λ (b : Bool). b && s i) (sym (members_cons q qs i))
  where
    here : (a m : Bool) → (a && true) || (m && a) ≡ a
    here true m = refl
    here false m = and-false m

    off : (a b : Bool) → (a && false) || b ≡ b
    off true b = refl
    off false b = refl

-- the qubits that the code selects, and half the code
code_x : (x z : Bits) (qs : List ℕ) (i : ℕ) → members (selected (code_of x z qs) qs) i ≡ members qs i && x i
unfolding code_of
code_x x z [] i = unfold selected in rw (members_nil i)
code_x x z (q ∷ qs) i =
    let v = digit (x q) + 2 * digit (z q) + 4 * code_of x z qs in
    let low : v % 2 ≡ digit (x q) = omega (arith, digit_below (x q)) in
    let high : v / 4 ≡ code_of x z qs = omega (arith, digit_below (x q), digit_below (z q)) in
    selected_cons v q qs i ∙ rw (low, high, digit_set (x q), code_x x z qs i) (member_given x q qs i)

code_z : (x z : Bits) (qs : List ℕ) (i : ℕ) → members (selected (code_of x z qs / 2) qs) i ≡ members qs i && z i
unfolding code_of
code_z x z [] i = unfold selected in rw (members_nil i)
code_z x z (q ∷ qs) i =
    let v = digit (x q) + 2 * digit (z q) + 4 * code_of x z qs in
    let low : v / 2 % 2 ≡ digit (z q) = omega (arith, digit_below (x q), digit_below (z q)) in
    let high : v / 2 / 4 ≡ code_of x z qs / 2 = omega (arith, digit_below (x q), digit_below (z q)) in
    selected_cons (v / 2) q qs i ∙ rw (low, high, digit_set (z q), code_z x z qs i) (member_given z q qs i)

-- the Pauli of a number's bits: an element's of its number and 1, and the identity of 0
abbrev picked : List ℕ → ℕ → Pauli
picked qs v = record { x = members (selected v qs); z = members (selected (v / 2) qs) }

element_picked : (qs : List ℕ) (e : ℕ) → pauli_of (depolarizing_element_of qs e) ≡ picked qs (e + 1)
unfolding pauli_of depolarizing_element_of
element_picked qs e = pauli_path (members_rising (selected (e + 1) qs)) (members_rising (selected ((e + 1) / 2) qs))

selected_zero : (qs : List ℕ) → selected 0 qs ≡ []
unfolding selected
selected_zero [] = refl
selected_zero (q ∷ qs) = selected_zero qs

picked_zero : (qs : List ℕ) → picked qs 0 ≡ identity
unfolding identity none
picked_zero qs = rw (selected_zero qs) (pauli_path (fun_ext members_nil) (fun_ext members_nil))

module _ (qs : List ℕ) (P : Pauli) (on : (q : ℕ) → members qs q ≡ false → (P.x q ≡ false) × (P.z q ≡ false)) where
  supported : (s : Bits) → ((q : ℕ) → members qs q ≡ false → s q ≡ false) → (i : ℕ) → members qs i && s i ≡ s i
  supported s off i = go (members qs i) refl
    where
      go : (b : Bool) → members qs i ≡ b → b && s i ≡ s i
      go true e = refl
      go false e = sym (off i e)

  picked_code : picked qs (code_of P.x P.z qs) ≡ P
  picked_code =
      pauli_path (fun_ext (λ i. code_x P.x P.z qs i ∙ supported P.x (λ q m. (on q m).0) i))
      (fun_ext (λ i. code_z P.x P.z qs i ∙ supported P.z (λ q m. (on q m).1) i))

  -- each Pauli on the qubits but the identity is an element
  pub element_every : (P ≡ identity → ⊥) → (e : ℕ) × (e < size_of (Distribution.depolarizing qs)) × (pauli_of (depolarizing_element_of qs e) ≡ P)
  unfolding size_of
  element_every some = go (code_of P.x P.z qs) refl
    where
      go : (v : ℕ) → code_of P.x P.z qs ≡ v → (e : ℕ) × (e < 4 ^ length qs - 1) × (pauli_of (depolarizing_element_of qs e) ≡ P)
      go zero c = absurd (some (sym picked_code ∙ ap (picked qs) c ∙ picked_zero qs))
      go (suc e) c = (e, omega (arith, code_below P.x P.z qs), element_picked qs e ∙ ap (picked qs) (add-one e ∙ sym c) ∙ picked_code)
