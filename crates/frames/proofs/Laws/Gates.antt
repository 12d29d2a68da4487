-- Each gate's rule for frames is conjugation by its unitary. Hadamard's X + Z is X (1 - iY), and Swap's 1 + XX + YY + ZZ is 1 + C + T - CT for
-- C = XX and T = YY. Assumes nothing.
use Rattle.std.specs.Prelude.{◌≡◌, Bool, true, ◌&&◌, cond, [], ◌∷◌}
use Rattle.std.proofs.Math.Path.{refl, ap, ap₂, fun_ext}
use Rattle.std.proofs.Common.{sym, ◌∙◌, subst, true≢false, not-suc-le-zero, arith}
use Rattle.std.proofs.Math.Bool.{false}
use Prim.Native.Nat.{ℕ, zero, suc, ◌+◌, ◌<◌, ◌≤◌}
use Rattle.std.proofs.Math.Decide.{ℕ_discrete}
use Rattle.pauli.specs.Bits.{Bits, ◌⊕◌, ◌△◌, none, only, added}
use Rattle.pauli.specs.Pauli.{Pauli, identity, X_at, Y_at, Z_at, ◌∗◌, anticommutes}
use Rattle.pauli.specs.Gate.{Gate, operands_of, swap_XZ, add_xto_Z, add_zto_X, controlled_X, controlled_Z, controlled_Y, swap_rows_of, prepare_bell, gate_with, conjugated}
use Rattle.pauli.proofs.Laws.Parity.{at_or_off, only_here, only_off, △_at, added_is, bitwise}
use Rattle.pauli.proofs.Laws.Pairing.{pairing, anti_comm, anti_X, anti_Z}
use Rattle.pauli.proofs.Laws.Gates.{pauli_path, swap_XZ_is, add_xto_Z_is, add_zto_X_is, controlled_X_is, controlled_Z_is, controlled_Y_is, swap_rows_is}
use Rattle.pauli.proofs.Laws.Group.{group, X_Z, when_∗, when_⊕}
use Rattle.frames.specs.Forward.{exponentiate, controlled_pauli}
use Rattle.frames.specs.Conjugation.{phase_one, phase, term_product, product, phased, pauli_sum, sqrt_sum, controlled_sum, hadamard_sum, swap_sum, gate_sum, Takes, IsUnitary}
use Rattle.frames.proofs.Laws.Terms.{phased_term, phased_term_add, phased_term_four, phased_as_term, ⊙_one, ⊙_phasedTerm, pauli_⊙}
use Rattle.frames.proofs.Laws.Takes.{product_takes}
use Rattle.frames.proofs.Laws.Unitary.{product_unitary}
use Rattle.frames.proofs.Laws.Roots.{pauli_takes, pauli_unitary, exponential_takes, exponential_unitary, sqrt_takes, sqrt_unitary}
use Rattle.frames.proofs.Laws.Controlled.{controlled_takes, controlled_unitary}

-- ---- how many members a set has below n

count_one : Bool → ℕ
count_one b = cond b 1 0

count : ℕ → Bits → ℕ
count zero s = 0
count (suc n) s = count_one (s n) + count n s

count_off : (n q : ℕ) → n ≤ q → count n (only q) ≡ 0
unfolding count count_one
count_off zero q h = refl
count_off (suc n) q h = ap₂ ◌+◌ (ap count_one (only_off q n (λ (e : n ≡ q). omega arith))) (count_off n q (omega arith))

count_only : (n q : ℕ) → q < n → count n (only q) ≡ 1
count_only zero q h = absurd (not-suc-le-zero h)
count_only (suc n) q h = step (ℕ_discrete n q) (count_only n q)
  where
    step : Dec (n ≡ q) → (q < n → count n (only q) ≡ 1) → count (suc n) (only q) ≡ 1
    step (yes e) ih = unfold count count_one in (ap₂ ◌+◌ (ap (λ i. count_one (only q i)) e ∙ ap count_one (only_here q)) (ap (λ i. count i (only q)) e ∙ count_off q q (omega arith)))
    step (no ne) ih = unfold count count_one in (ap₂ ◌+◌ (ap count_one (only_off q n ne)) (ih (omega (arith, ne))))

-- sets that share no member
count_△ : (n : ℕ) (s t : Bits) → ((i : ℕ) → s i && t i ≡ false) → count n (s △ t) ≡ count n s + count n t
unfolding count count_one ◌⊕◌
count_△ zero s t h = refl
count_△ (suc n) s t h = rw (△_at s t n, count_△ n s t h) (both (s n) (t n) (h n))
  where
    both : (a b : Bool) → a && b ≡ false → count_one (a ⊕ b) + (count n s + count n t) ≡ count_one a + count n s + (count_one b + count n t)
    both true true e = absurd (true≢false e)
    both true false e = omega arith
    both false b e = omega arith

-- X's before Y's on the same qubits have the phase i for each
phase_count : (n : ℕ) (s : Bits) (P Q : Pauli) → ((i : ℕ) → P.x i ≡ s i) → ((i : ℕ) → P.z i ≡ false) → ((i : ℕ) → Q.x i ≡ s i) → ((i : ℕ) → Q.z i ≡ s i)
    → phase n P Q ≡ count n s
unfolding phase count
phase_count zero s P Q px pz qx qz = refl
phase_count (suc n) s P Q px pz qx qz = rw (px n, pz n, qx n, qz n) (ap₂ ◌+◌ (xy (s n)) (phase_count n s P Q px pz qx qz))
  where
    xy : (b : Bool) → phase_one b false b b ≡ count_one b
    xy true = unfold phase_one count_one in refl
    xy false = unfold phase_one count_one in refl

phased_four : (P : Pauli) → phased 4 P ≡ phased 0 P
phased_four P = phased_as_term 4 P ∙ phased_term_four _

-- ---- Hadamard

module _ (n a : ℕ) (h : a < n) where
  phase_XY : phase n (X_at a) (Y_at a) ≡ 1
  unfolding X_at Y_at none
  phase_XY = phase_count n (only a) (X_at a) (Y_at a) (λ i. refl) (λ i. refl) (λ i. refl) (λ i. refl) ∙ count_only n a h

  -- X + Z is X (1 - iY)
  hadamard_is : product n (pauli_sum (X_at a)) (sqrt_sum (Y_at a)) ≡ hadamard_sum a
  unfolding product
  hadamard_is = ap₂ (λ s t. s ∷ t ∷ []) (⊙_one n _) (ap (λ t. term_product n (phased 0 (X_at a)) t) (phased_as_term 3 (Y_at a)) ∙ ⊙_phasedTerm n 3 _ _ ∙ ap (phased_term 3) XY ∙ phased_term_add 3 1 _ ∙ phased_term_four _)
    where
      XY : term_product n (phased 0 (X_at a)) (phased 0 (Y_at a)) ≡ phased_term 1 (phased 0 (Z_at a))
      XY = pauli_⊙ n (X_at a) (Y_at a) ∙ ap₂ phased phase_XY (simp (← X_Z, group)) ∙ phased_as_term 1 (Z_at a)

ruleset rows = (pairing, swap_XZ_is, add_xto_Z_is, add_zto_X_is, controlled_X_is, controlled_Z_is, controlled_Y_is, swap_rows_is)

module _ (n a : ℕ) (h : a < n) (Q : Pauli) where
  exponentiate_X : exponentiate n (X_at a) Q ≡ add_zto_X a Q
  unfolding exponentiate
  exponentiate_X = simp rows

  exponentiate_Y : exponentiate n (Y_at a) Q ≡ swap_XZ a Q
  unfolding exponentiate
  exponentiate_Y = simp rows

  exponentiate_Z : exponentiate n (Z_at a) Q ≡ add_xto_Z a Q
  unfolding exponentiate
  exponentiate_Z = simp rows

  hadamard_takes : Takes n (hadamard_sum a) Q (swap_XZ a Q)
  hadamard_takes =
      subst (λ U. Takes n U Q (swap_XZ a Q)) (hadamard_is n a h)
      (product_takes n (rw (← exponentiate_Y) (sqrt_takes n (Y_at a) Q)) (pauli_takes n (X_at a) (swap_XZ a Q)))

hadamard_unitary : (n a : ℕ) → a < n → IsUnitary n (hadamard_sum a)
hadamard_unitary n a h =
    subst (IsUnitary n) (hadamard_is n a h) (product_unitary n (pauli_sum (X_at a)) (sqrt_sum (Y_at a)) (pauli_unitary n (X_at a)) (sqrt_unitary n (Y_at a)))

-- ---- gates of two qubits

added_here : (s : Bits) (q : ℕ) (t : Bool) → added s q t q ≡ s q ⊕ t
added_here s q t = ap (λ (u : Bits). u q) (added_is s q t) ∙ simp (bitwise, only_here)

-- the Z row of ControlledX between SqrtZInv and SqrtZ on the target
row_composed : (x z : Bits) (a b : ℕ)
    → added (added (added z b (x b)) a (added z b (x b) b)) b (added x b (x a) b) ≡ added (added z b (x a)) a (x b ⊕ z b)
row_composed x z a b = rw (added_here z b (x b), added_here x b (x a)) (simp added_is (fun_ext (λ i. simp bitwise)))

pub controlled_Y_composed : (a b : ℕ) (Q : Pauli) → add_xto_Z b (controlled_X a b (add_xto_Z b Q)) ≡ controlled_Y a b Q
unfolding add_xto_Z controlled_X controlled_Y
controlled_Y_composed a b Q = pauli_path refl (row_composed Q.x Q.z a b)

Y_x : (b i : ℕ) → (Y_at b).x i ≡ only b i
unfolding Y_at
Y_x b i = refl

Y_z : (b i : ℕ) → (Y_at b).z i ≡ only b i
unfolding Y_at
Y_z b i = refl

∗_z : (P Q : Pauli) (i : ℕ) → (P ∗ Q).z i ≡ P.z i ⊕ Q.z i
unfolding ◌∗◌ ◌△◌
∗_z P Q i = refl

module _ (n a b : ℕ) (h : a < n) (k : b < n) where
  controlled_ZX : (Q : Pauli) → controlled_pauli n (Z_at a) (X_at b) Q ≡ controlled_X a b Q
  unfolding controlled_pauli
  controlled_ZX Q = simp rows

  controlled_ZZ : (Q : Pauli) → controlled_pauli n (Z_at a) (Z_at b) Q ≡ controlled_Z a b Q
  unfolding controlled_pauli
  controlled_ZZ Q = simp rows

  pub controlled_ZY : (Q : Pauli) → controlled_pauli n (Z_at a) (Y_at b) Q ≡ controlled_Y a b Q
  unfolding controlled_pauli
  controlled_ZY Q = simp rows

  controlled_XX_YY : (Q : Pauli) → controlled_pauli n (X_at a ∗ X_at b) (Y_at a ∗ Y_at b) Q ≡ swap_rows_of a b Q
  unfolding controlled_pauli
  controlled_XX_YY Q = simp (pairing, swap_rows_is, ← X_Z, when_∗, when_⊕, group)

  module _ (ne : a ≡ b → ⊥) where
    X_with_Z : anticommutes n (X_at b) (Z_at a) ≡ false
    unfolding Z_at
    X_with_Z = anti_X n b (Z_at a) k ∙ only_off a b (λ e. ne (sym e))

    Z_with_Z : anticommutes n (Z_at b) (Z_at a) ≡ false
    unfolding Z_at none
    Z_with_Z = anti_Z n b (Z_at a) k

    Y_with_Z : anticommutes n (Y_at b) (Z_at a) ≡ false
    unfolding Z_at
    Y_with_Z = anti_comm n (Y_at b) (Z_at a) ∙ simp (pairing, Y_x, only_off b a ne)

    YY_with_XX : anticommutes n (Y_at a ∗ Y_at b) (X_at a ∗ X_at b) ≡ false
    YY_with_XX = anti_comm n (Y_at a ∗ Y_at b) (X_at a ∗ X_at b) ∙ simp (pairing, ∗_z, Y_z, only_here, only_off a b (λ e. ne (sym e)), only_off b a ne)

    apart : (i : ℕ) → only a i && only b i ≡ false
    unfolding only
    apart = at_or_off (λ i e. e && only b i ≡ false) a (only_off b a ne) (λ i. refl)

    phase_XX_YY : phase n (X_at a ∗ X_at b) (Y_at a ∗ Y_at b) ≡ 2
    unfolding X_at Y_at none ◌∗◌ ◌△◌ ◌⊕◌
    phase_XX_YY =
        phase_count n (only a △ only b) (X_at a ∗ X_at b) (Y_at a ∗ Y_at b) (λ i. refl) (λ i. refl) (λ i. refl) (λ i. refl)
        ∙ count_△ n (only a) (only b) apart
        ∙ ap₂ ◌+◌ (count_only n a h) (count_only n b k)

    -- ZZ is -XX YY
    swap_is : controlled_sum n (X_at a ∗ X_at b) (Y_at a ∗ Y_at b) ≡ swap_sum a b
    swap_is =
        ap (λ t. phased 0 identity ∷ phased 0 (X_at a ∗ X_at b) ∷ phased 0 (Y_at a ∗ Y_at b) ∷ t ∷ [])
        (ap₂ (λ (k : ℕ) P. phased (2 + k) P) phase_XX_YY (simp (← X_Z, group)) ∙ phased_four _)

    controlled_X_takes : (Q : Pauli) → Takes n (controlled_sum n (Z_at a) (X_at b)) Q (controlled_X a b Q)
    controlled_X_takes Q =
        subst (Takes n (controlled_sum n (Z_at a) (X_at b)) Q) (controlled_ZX Q) (controlled_takes n (Z_at a) (X_at b) X_with_Z Q)

    controlled_X_unitary : IsUnitary n (controlled_sum n (Z_at a) (X_at b))
    controlled_X_unitary = controlled_unitary n (Z_at a) (X_at b) X_with_Z

    controlled_Z_takes : (Q : Pauli) → Takes n (controlled_sum n (Z_at a) (Z_at b)) Q (controlled_Z a b Q)
    controlled_Z_takes Q =
        subst (Takes n (controlled_sum n (Z_at a) (Z_at b)) Q) (controlled_ZZ Q) (controlled_takes n (Z_at a) (Z_at b) Z_with_Z Q)

    controlled_Y_takes : (Q : Pauli) → Takes n (controlled_sum n (Z_at a) (Y_at b)) Q (controlled_Y a b Q)
    controlled_Y_takes Q =
        subst (Takes n (controlled_sum n (Z_at a) (Y_at b)) Q) (controlled_ZY Q) (controlled_takes n (Z_at a) (Y_at b) Y_with_Z Q)

    swap_takes : (Q : Pauli) → Takes n (swap_sum a b) Q (swap_rows_of a b Q)
    swap_takes Q =
        subst (λ U. Takes n U Q (swap_rows_of a b Q)) swap_is
        (subst (Takes n _ Q) (controlled_XX_YY Q) (controlled_takes n (X_at a ∗ X_at b) (Y_at a ∗ Y_at b) YY_with_XX Q))

    swap_unitary : IsUnitary n (swap_sum a b)
    swap_unitary = subst (IsUnitary n) swap_is (controlled_unitary n (X_at a ∗ X_at b) (Y_at a ∗ Y_at b) YY_with_XX)

-- ---- all gates

-- The operands are below n, and different where there are two.
pub record GateOperands (n : ℕ) (g : Gate) (a b : ℕ) : Type 0 where
  pub first : a < n
  pub second : operands_of g ≡ 2 → b < n
  pub different : operands_of g ≡ 2 → a ≡ b → ⊥

-- Each gate's unitary takes every frame to the frame that the gate's rule gives.
pub gate_takes : (n : ℕ) (g : Gate) (a b : ℕ) → GateOperands n g a b → (Q : Pauli) → Takes n (gate_sum n g a b) Q (conjugated g a b Q)
unfolding gate_sum gate_with prepare_bell operands_of
gate_takes n Gate.I a b o Q = pauli_takes n identity Q
gate_takes n Gate.X a b o Q = pauli_takes n (X_at a) Q
gate_takes n Gate.Y a b o Q = pauli_takes n (Y_at a) Q
gate_takes n Gate.Z a b o Q = pauli_takes n (Z_at a) Q
gate_takes n Gate.Hadamard a b o Q = hadamard_takes n a o.first Q
gate_takes n Gate.SqrtZ a b o Q = rw (← exponentiate_Z n a o.first Q) (sqrt_takes n (Z_at a) Q)
gate_takes n Gate.SqrtZInv a b o Q = rw (← exponentiate_Z n a o.first Q) (exponential_takes n (Z_at a) Q)
gate_takes n Gate.SqrtX a b o Q = rw (← exponentiate_X n a o.first Q) (sqrt_takes n (X_at a) Q)
gate_takes n Gate.SqrtXInv a b o Q = rw (← exponentiate_X n a o.first Q) (exponential_takes n (X_at a) Q)
gate_takes n Gate.SqrtY a b o Q = rw (← exponentiate_Y n a o.first Q) (sqrt_takes n (Y_at a) Q)
gate_takes n Gate.SqrtYInv a b o Q = rw (← exponentiate_Y n a o.first Q) (exponential_takes n (Y_at a) Q)
gate_takes n Gate.ControlledX a b o Q = controlled_X_takes n a b o.first (o.second refl) (o.different refl) Q
gate_takes n Gate.ControlledZ a b o Q = controlled_Z_takes n a b o.first (o.second refl) (o.different refl) Q
gate_takes n Gate.Swap a b o Q = swap_takes n a b o.first (o.second refl) (o.different refl) Q
gate_takes n Gate.PrepareBell a b o Q =
    product_takes n (hadamard_takes n a o.first Q) (controlled_X_takes n a b o.first (o.second refl) (o.different refl) (swap_XZ a Q))
gate_takes n Gate.ControlledY a b o Q = controlled_Y_takes n a b o.first (o.second refl) (o.different refl) Q

pub gate_unitary : (n : ℕ) (g : Gate) (a b : ℕ) → GateOperands n g a b → IsUnitary n (gate_sum n g a b)
unfolding gate_sum operands_of
gate_unitary n Gate.I a b o = pauli_unitary n identity
gate_unitary n Gate.X a b o = pauli_unitary n (X_at a)
gate_unitary n Gate.Y a b o = pauli_unitary n (Y_at a)
gate_unitary n Gate.Z a b o = pauli_unitary n (Z_at a)
gate_unitary n Gate.Hadamard a b o = hadamard_unitary n a o.first
gate_unitary n Gate.SqrtZ a b o = sqrt_unitary n (Z_at a)
gate_unitary n Gate.SqrtZInv a b o = exponential_unitary n (Z_at a)
gate_unitary n Gate.SqrtX a b o = sqrt_unitary n (X_at a)
gate_unitary n Gate.SqrtXInv a b o = exponential_unitary n (X_at a)
gate_unitary n Gate.SqrtY a b o = sqrt_unitary n (Y_at a)
gate_unitary n Gate.SqrtYInv a b o = exponential_unitary n (Y_at a)
gate_unitary n Gate.ControlledX a b o = controlled_X_unitary n a b o.first (o.second refl) (o.different refl)
gate_unitary n Gate.ControlledZ a b o = controlled_unitary n (Z_at a) (Z_at b) (Z_with_Z n a b o.first (o.second refl) (o.different refl))
gate_unitary n Gate.Swap a b o = swap_unitary n a b o.first (o.second refl) (o.different refl)
gate_unitary n Gate.PrepareBell a b o =
    product_unitary n (controlled_sum n (Z_at a) (X_at b)) (hadamard_sum a)
    (controlled_X_unitary n a b o.first (o.second refl) (o.different refl))
    (hadamard_unitary n a o.first)
gate_unitary n Gate.ControlledY a b o = controlled_unitary n (Z_at a) (Y_at b) (Y_with_Z n a b o.first (o.second refl) (o.different refl))
