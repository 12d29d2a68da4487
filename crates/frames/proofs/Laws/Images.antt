-- A map that is given by images extended to products: `transformed` is one, it is the only one, and it keeps commutation exactly where the images
-- commute as the generators do. Then what a Clifford's table and a permutation's places say of it. Assumes nothing.
use Rattle.std.specs.Prelude.{◌≡◌, refl, Bool, ◌&&◌, List, [], ◌∷◌, ℕ, zero, suc, ◌<◌, length, get_or}
use Rattle.std.proofs.Common.{sym, ap, ◌∙◌, true≢false, not-suc-le-zero, arith}
use Rattle.std.proofs.Math.Path.{fun_ext}
use Rattle.std.proofs.Math.Bool.{true, false}
use Rattle.pauli.specs.Bits.{Bits, ◌⊕◌, ◌∩◌, ◌△◌, only, given, outside}
use Rattle.pauli.specs.Pauli.{Pauli, identity, X_at, Z_at, ◌∗◌, when, cleared}
use Rattle.pauli.proofs.Laws.F2.{f2}
use Rattle.pauli.proofs.Laws.Parity.{bitwise, at_or_off, only_here, only_off}
use Rattle.pauli.proofs.Laws.Gates.{pauli_path}
use Rattle.pauli.proofs.Laws.Group.{group, when_⊕}
use Rattle.job.specs.Checks.{distinct}
use Rattle.frames.specs.Forward.{Image, image_sum, transformed}
use Rattle.frames.specs.Conjugation.{Extends}
use Rattle.frames.proofs.Laws.Places.{at_place, outside_cons, distinct_cons}
use Rattle.frames.proofs.Laws.Generators.{KeepsProducts, of_X, of_Z}

-- ---- the images by the places of the operands

unfoldable pub images_by : (ℕ → Pauli) → (ℕ → Pauli) → List ℕ → List Image
images_by X Z [] = []
images_by X Z (q ∷ qs) = record { qubit = q; of_X = X 0; of_Z = Z 0 } ∷ images_by (λ i. X (suc i)) (λ i. Z (suc i)) qs

-- X where u and Z where v, on the qubit q
abbrev part : ℕ → Bool → Bool → Pauli
part q u v = when u (X_at q) ∗ when v (Z_at q)

module _ (q i : ℕ) (u v : Bool) where
  part_x : (part q u v).x i ≡ u && only q i
  unfolding ◌∗◌ when X_at Z_at
  part_x = simp bitwise

  part_z : (part q u v).z i ≡ v && only q i
  unfolding ◌∗◌ when X_at Z_at
  part_z = simp bitwise

sum_cons : (X Z : ℕ → Pauli) (q : ℕ) (qs : List ℕ) (F : Pauli)
    → image_sum (images_by X Z (q ∷ qs)) F ≡ when (F.x q) (X 0) ∗ when (F.z q) (Z 0) ∗ image_sum (images_by (λ i. X (suc i)) (λ i. Z (suc i)) qs) F
unfolding image_sum images_by
sum_cons X Z q qs F = refl

sum_nil : (X Z : ℕ → Pauli) (F : Pauli) → image_sum (images_by X Z []) F ≡ identity
unfolding image_sum images_by
sum_nil X Z F = refl

ruleset sums = (f2, group, sum_cons, part_x, part_z)

sum_off : (X Z : ℕ → Pauli) (qs : List ℕ) (q : ℕ) (u v : Bool) → outside qs q ≡ true → image_sum (images_by X Z qs) (part q u v) ≡ identity
sum_off X Z [] q u v e = sum_nil X Z (part q u v)
sum_off X Z (r ∷ qs) q u v e =
    let s = outside_cons r qs q e in
    simp (sums, only_off q r (λ p. s.0 (sym p)), sum_off (λ i. X (suc i)) (λ i. Z (suc i)) qs q u v s.1)

sum_at : (X Z : ℕ → Pauli) (qs : List ℕ) → distinct qs ≡ true → (i : ℕ) → i < length qs → (u v : Bool)
    → image_sum (images_by X Z qs) (part (get_or qs i 0) u v) ≡ when u (X i) ∗ when v (Z i)
sum_at X Z [] d i h u v = absurd (not-suc-le-zero h)
sum_at X Z (q ∷ qs) d zero h u v = simp (sums, only_here, sum_off (λ i. X (suc i)) (λ i. Z (suc i)) qs q u v (distinct_cons q qs d).first)
sum_at X Z (q ∷ qs) d (suc i) h u v =
    simp (
      sums,
      only_off (get_or qs i 0) q (λ p. true≢false (sym (distinct_cons q qs d).first ∙ ap (outside qs) p ∙ at_place qs i (omega arith))),
      sum_at (λ i. X (suc i)) (λ i. Z (suc i)) qs (distinct_cons q qs d).rest i (omega arith) u v,
    )

-- ---- the parts on the operands are taken away, the others stay

cleared_bit : (qs : List ℕ) (q : ℕ) (c b : Bool) → outside qs q ≡ b → (i : ℕ) → (c && only q i) && outside qs i ≡ b && (c && only q i)
unfolding only
cleared_bit qs q c b e = at_or_off (λ i d. (c && d) && outside qs i ≡ b && (c && d)) q (simp (f2, e)) (λ i. simp f2)

cleared_part : (qs : List ℕ) (q : ℕ) (u v b : Bool) → outside qs q ≡ b → cleared qs (part q u v) ≡ when b (part q u v)
unfolding cleared when ◌∩◌ given
cleared_part qs q u v b e = pauli_path (fun_ext (row u (λ i. part_x q i u v))) (fun_ext (row v (λ i. part_z q i u v)))
  where
    row : (c : Bool) {s : Bits} → ((i : ℕ) → s i ≡ c && only q i) → (i : ℕ) → s i && outside qs i ≡ b && s i
    row c h i = ap (λ d. d && outside qs i) (h i) ∙ cleared_bit qs q c b e i ∙ ap (λ d. b && d) (sym (h i))

cleared_∗ : (qs : List ℕ) (P Q : Pauli) → cleared qs (P ∗ Q) ≡ cleared qs P ∗ cleared qs Q
unfolding cleared ◌∗◌
cleared_∗ qs P Q = pauli_path (fun_ext (λ i. simp bitwise)) (fun_ext (λ i. simp bitwise))

∗_x : (P Q : Pauli) (i : ℕ) → (P ∗ Q).x i ≡ P.x i ⊕ Q.x i
unfolding ◌∗◌ ◌△◌
∗_x P Q i = refl

∗_z : (P Q : Pauli) (i : ℕ) → (P ∗ Q).z i ≡ P.z i ⊕ Q.z i
unfolding ◌∗◌ ◌△◌
∗_z P Q i = refl

sum_∗ : (X Z : ℕ → Pauli) (qs : List ℕ) (P Q : Pauli) → image_sum (images_by X Z qs) (P ∗ Q) ≡ image_sum (images_by X Z qs) P ∗ image_sum (images_by X Z qs) Q
sum_∗ X Z [] P Q = simp (group, sum_nil)
sum_∗ X Z (q ∷ qs) P Q = simp (group, sum_cons, ∗_x, ∗_z, when_⊕, sum_∗ (λ i. X (suc i)) (λ i. Z (suc i)) qs P Q)

-- ---- `transformed` extends its images

module _ (X Z : ℕ → Pauli) (qs : List ℕ) where
  transformed_∗ : KeepsProducts (transformed qs (images_by X Z qs))
  unfolding transformed
  transformed_∗ P Q = simp (group, cleared_∗ qs P Q, sum_∗ X Z qs P Q)

  transformed_at : distinct qs ≡ true → (i : ℕ) → i < length qs → (u v : Bool)
      → transformed qs (images_by X Z qs) (part (get_or qs i 0) u v) ≡ when u (X i) ∗ when v (Z i)
  unfolding transformed
  transformed_at d i h u v = simp (group, cleared_part qs (get_or qs i 0) u v false (at_place qs i h), sum_at X Z qs d i h u v)

  transformed_off : (q : ℕ) (u v : Bool) → outside qs q ≡ true → transformed qs (images_by X Z qs) (part q u v) ≡ part q u v
  unfolding transformed
  transformed_off q u v e = simp (group, cleared_part qs q u v true e, sum_off X Z qs q u v e)

  pub transformed_extends : (n : ℕ) → distinct qs ≡ true → Extends n qs (λ i P. P ≡ X i) (λ i P. P ≡ Z i) (transformed qs (images_by X Z qs))
  transformed_extends n d =
      record {
        products = transformed_∗;
        of_X = λ i h. simp group at (transformed_at d i h true false);
        of_Z = λ i h. simp group at (transformed_at d i h false true);
        other_X = λ q h e. simp group at (transformed_off q true false e);
        other_Z = λ q h e. simp group at (transformed_off q false true e);
      }

-- ---- other words for the same images

pub extends_as : {n : ℕ} {qs : List ℕ} {f : Pauli → Pauli} (isX isZ isX' isZ' : ℕ → Pauli → Type 0)
    → ((i : ℕ) → i < length qs → (P : Pauli) → isX i P → isX' i P) → ((i : ℕ) → i < length qs → (P : Pauli) → isZ i P → isZ' i P)
    → Extends n qs isX isZ f → Extends n qs isX' isZ' f
extends_as {n} {qs} {f} isX isZ isX' isZ' x z e =
    record {
      products = e.products;
      of_X = λ i h. x i h (f (X_at (get_or qs i 0))) (e.of_X i h);
      of_Z = λ i h. z i h (f (Z_at (get_or qs i 0))) (e.of_Z i h);
      other_X = e.other_X;
      other_Z = e.other_Z;
    }
