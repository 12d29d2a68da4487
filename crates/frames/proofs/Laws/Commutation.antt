-- Maps that extend images which lie on the operands: there is one on the Paulis of n qubits, and it keeps commutation exactly where the images,
-- by their places, commute as the generators do. Assumes nothing.
use Rattle.std.specs.Prelude.{◌≡◌, true, false, List, ℕ, ◌<◌, eqb, length, get_or}
use Rattle.std.proofs.Common.{sym, ap, ap₂, ◌∙◌}
use Rattle.std.proofs.Math.Path.{subst}
use Rattle.pauli.specs.Bits.{none, only}
use Rattle.pauli.specs.Pauli.{Pauli, X_at, Z_at, anticommutes}
use Rattle.pauli.proofs.Laws.Pairing.{anti_comm, anti_X, anti_Z, anti_X_right, anti_Z_right}
use Rattle.job.specs.Checks.{all_below, distinct}
use Rattle.job.proofs.Laws.Lists.{below_at}
use Rattle.frames.specs.Conjugation.{same, Extends, Within, KeepsCommutation}
use Rattle.frames.proofs.Laws.Same.{same_self}
use Rattle.frames.proofs.Laws.Places.{where_is, placed_off, on_qubits, anti_on_qubits, X_on, Z_on}
use Rattle.frames.proofs.Laws.Generators.{products_agree, Generator, of_X, of_Z, within_X, within_Z, commutation_kept}

-- the images of X and Z on k places commute as the generators do
pub record CommuteAsGenerators (k : ℕ) (to_x to_z : ℕ → Pauli) : Type 0 where
  pub X_X : (i j : ℕ) → i < k → j < k → anticommutes k (to_x i) (to_x j) ≡ false
  pub Z_Z : (i j : ℕ) → i < k → j < k → anticommutes k (to_z i) (to_z j) ≡ false
  pub X_Z : (i j : ℕ) → i < k → j < k → anticommutes k (to_x i) (to_z j) ≡ eqb i j

-- X and Z on k places do
module _ (k i j : ℕ) (h : i < k) where
  pub places_X_X : anticommutes k (X_at i) (X_at j) ≡ false
  unfolding X_at none
  places_X_X = anti_X k i (X_at j) h

  pub places_Z_Z : anticommutes k (Z_at i) (Z_at j) ≡ false
  unfolding Z_at none
  places_Z_Z = anti_Z k i (Z_at j) h

  pub places_X_Z : anticommutes k (X_at i) (Z_at j) ≡ eqb i j
  unfolding Z_at only
  places_X_Z = anti_X k i (Z_at j) h

-- the images are given on the places, and put on the operands
abbrev pub ExtendsOnto : ℕ → List ℕ → (ℕ → Pauli) → (ℕ → Pauli) → (Pauli → Pauli) → Type 0
ExtendsOnto n qs to_x to_z = Extends n qs (λ i P. P ≡ on_qubits qs (to_x i)) (λ i P. P ≡ on_qubits qs (to_z i))

module _ (n : ℕ) (qs : List ℕ) (b : all_below n qs ≡ true) (d : distinct qs ≡ true) (to_x to_z : ℕ → Pauli) where
  -- ---- there is one

  pub extension_unique : (f g : Pauli → Pauli) → ExtendsOnto n qs to_x to_z f → ExtendsOnto n qs to_x to_z g → (P : Pauli) → Within n P → f P ≡ g P
  extension_unique f g e e' =
      products_agree n f g e.products e'.products
      (λ q h. where_is qs q (λ o. e.other_X q h o ∙ sym (e'.other_X q h o))
      (λ p. subst (λ r. f (X_at r) ≡ g (X_at r)) p.there (e.of_X p.place p.inside ∙ sym (e'.of_X p.place p.inside))))
      (λ q h. where_is qs q (λ o. e.other_Z q h o ∙ sym (e'.other_Z q h o))
      (λ p. subst (λ r. f (Z_at r) ≡ g (Z_at r)) p.there (e.of_Z p.place p.inside ∙ sym (e'.of_Z p.place p.inside))))

  -- ---- images that commute as the generators do

  -- a generator on the places, and its image there
  data Pair : Pauli → Pauli → Type 0 where
    pair_X : (i : ℕ) → i < length qs → Pair (X_at i) (to_x i)
    pair_Z : (i : ℕ) → i < length qs → Pair (Z_at i) (to_z i)

  pair_kept : CommuteAsGenerators (length qs) to_x to_z → (A B A' B' : Pauli) → Pair A B → Pair A' B' → anticommutes (length qs) B B' ≡ anticommutes (length qs) A A'
  pair_kept c A B A' B' (pair_X i h) (pair_X j h') = c.X_X i j h h' ∙ sym (places_X_X (length qs) i j h)
  pair_kept c A B A' B' (pair_X i h) (pair_Z j h') = c.X_Z i j h h' ∙ sym (places_X_Z (length qs) i j h)
  pair_kept c A B A' B' (pair_Z i h) (pair_X j h') =
      anti_comm (length qs) (to_z i) (to_x j) ∙ c.X_Z j i h' h ∙ sym (places_X_Z (length qs) j i h') ∙ anti_comm (length qs) (X_at j) (Z_at i)
  pair_kept c A B A' B' (pair_Z i h) (pair_Z j h') = c.Z_Z i j h h' ∙ sym (places_Z_Z (length qs) i j h)

  module _ (f : Pauli → Pauli) (e : ExtendsOnto n qs to_x to_z f) where
    -- G is A, put on the operands, and its image is B, put on the operands
    record Lies (A B G : Pauli) : Type 0 where
      source : on_qubits qs A ≡ G
      image : f G ≡ on_qubits qs B

    lies_X : (i : ℕ) → i < length qs → Lies (X_at i) (to_x i) (X_at (get_or qs i 0))
    lies_X i h = record { source = X_on qs d i h; image = e.of_X i h }

    lies_Z : (i : ℕ) → i < length qs → Lies (Z_at i) (to_z i) (Z_at (get_or qs i 0))
    lies_Z i h = record { source = Z_on qs d i h; image = e.of_Z i h }

    -- a generator lies on the operands, or it lies outside and stays
    data Kind (G : Pauli) : Type 0 where
      operand : (A B : Pauli) → Pair A B → Lies A B G → Kind G
      other : f G ≡ G → ((A : Pauli) → anticommutes n (on_qubits qs A) G ≡ false) → Kind G

    kind_of : (G : Pauli) → Generator n G → Kind G
    kind_of G (of_X q h) =
        where_is qs q (λ o. other (e.other_X q h o) (λ A. unfold on_qubits in (anti_X_right n q (on_qubits qs A) h ∙ placed_off A.z qs q o)))
        (λ p. subst (λ r. Kind (X_at r)) p.there (operand _ _ (pair_X p.place p.inside) (lies_X p.place p.inside)))
    kind_of G (of_Z q h) =
        where_is qs q (λ o. other (e.other_Z q h o) (λ A. unfold on_qubits in (anti_Z_right n q (on_qubits qs A) h ∙ placed_off A.x qs q o)))
        (λ p. subst (λ r. Kind (Z_at r)) p.there (operand _ _ (pair_Z p.place p.inside) (lies_Z p.place p.inside)))

    kinds_kept : CommuteAsGenerators (length qs) to_x to_z → (G H : Pauli) → Kind G → Kind H → anticommutes n (f G) (f H) ≡ anticommutes n G H
    kinds_kept c G H (operand A B p g) (operand A' B' p' h) =
        ap₂ (anticommutes n) g.image h.image
        ∙ anti_on_qubits n qs b d B B'
        ∙ pair_kept c A B A' B' p p'
        ∙ sym (anti_on_qubits n qs b d A A')
        ∙ ap₂ (anticommutes n) g.source h.source
    kinds_kept c G H (operand A B p g) (other h o) =
        ap₂ (anticommutes n) g.image h ∙ o B ∙ sym (o A) ∙ ap (λ P. anticommutes n P H) g.source
    kinds_kept c G H (other g o) (operand A B p h) =
        ap₂ (anticommutes n) g h.image
        ∙ anti_comm n G (on_qubits qs B)
        ∙ o B
        ∙ sym (anti_comm n G (on_qubits qs A) ∙ o A)
        ∙ ap (anticommutes n G) h.source
    kinds_kept c G H (other g o) (other h o') = ap₂ (anticommutes n) g h

    pub generators_keep : CommuteAsGenerators (length qs) to_x to_z → KeepsCommutation n f
    generators_keep c = commutation_kept n f e.products (λ G H g h. kinds_kept c G H (kind_of G g) (kind_of H h))

    -- ---- and back: how the images commute can be read off the operands' X and Z

    module _ (k : KeepsCommutation n f) where
      read : {A B A' B' G H : Pauli} → Lies A B G → Lies A' B' H → Within n G → Within n H → anticommutes (length qs) B B' ≡ anticommutes (length qs) A A'
      read {A} {B} {A'} {B'} {G} {H} g h w w' =
          sym (anti_on_qubits n qs b d B B')
          ∙ sym (ap₂ (anticommutes n) g.image h.image)
          ∙ k G H w w'
          ∙ sym (ap₂ (anticommutes n) g.source h.source)
          ∙ anti_on_qubits n qs b d A A'

      in_X : (i : ℕ) → i < length qs → Within n (X_at (get_or qs i 0))
      in_X i h = within_X n (get_or qs i 0) (below_at n qs b i h)

      in_Z : (i : ℕ) → i < length qs → Within n (Z_at (get_or qs i 0))
      in_Z i h = within_Z n (get_or qs i 0) (below_at n qs b i h)

      pub keeps_generators : CommuteAsGenerators (length qs) to_x to_z
      keeps_generators =
          record {
            X_X = λ i j h h'. read (lies_X i h) (lies_X j h') (in_X i h) (in_X j h') ∙ places_X_X (length qs) i j h;
            Z_Z = λ i j h h'. read (lies_Z i h) (lies_Z j h') (in_Z i h) (in_Z j h') ∙ places_Z_Z (length qs) i j h;
            X_Z = λ i j h h'. read (lies_X i h) (lies_Z j h') (in_X i h) (in_Z j h') ∙ places_X_Z (length qs) i j h;
          }

  -- ---- what two maps with these images give

  module _ (f g : Pauli → Pauli) (e : ExtendsOnto n qs to_x to_z f) (e' : ExtendsOnto n qs to_x to_z g) where
    pub images_unique : (Q Q₁ Q₂ : Pauli) → Within n Q → f Q ≡ Q₁ → g Q ≡ Q₂ → same n Q₁ Q₂ ≡ true
    images_unique Q Q₁ Q₂ w p q = ap₂ (same n) (sym p) (sym q ∙ sym (extension_unique f g e e' Q w)) ∙ same_self n (f Q)

    pub images_commute : CommuteAsGenerators (length qs) to_x to_z → (P P' Q Q' : Pauli) → Within n P → Within n Q → f P ≡ P' → g Q ≡ Q'
        → anticommutes n P' Q' ≡ anticommutes n P Q
    images_commute c P P' Q Q' w w' p q =
        ap₂ (anticommutes n) (sym p) (sym q ∙ sym (extension_unique f g e e' Q w')) ∙ generators_keep f e c P Q w w'
