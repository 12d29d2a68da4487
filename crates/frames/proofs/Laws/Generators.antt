-- X and Z on the n qubits generate the Paulis that have no other parts: a map that keeps products is determined by what it does to them, and it
-- keeps commutation where it keeps that of each two of them. Assumes nothing.
use Rattle.std.specs.Prelude.{◌≡◌, refl, Bool, true, false, not, ◌&&◌, [], ◌∷◌, ℕ, zero, suc, ◌<◌, ◌≤◌, eqb}
use Rattle.std.proofs.Math.Path.{sym, ap, ap₂, fun_ext}
use Rattle.std.proofs.Common.{◌∙◌, subst, arith, eq-eqb}
use Rattle.std.proofs.Math.Decide.{ℕ_discrete}
use Rattle.pauli.specs.Bits.{Bits, ◌⊕◌, ◌∩◌, ◌△◌, only, none, given, outside}
use Rattle.pauli.specs.Pauli.{Pauli, identity, X_at, Z_at, ◌∗◌, when, cleared, anticommutes}
use Rattle.pauli.proofs.Laws.F2.{f2}
use Rattle.pauli.proofs.Laws.Parity.{at_or_off, only_off}
use Rattle.pauli.proofs.Laws.Gates.{pauli_path}
use Rattle.pauli.proofs.Laws.Group.{group, ∗_self}
use Rattle.pauli.proofs.Laws.Pairing.{anti_comm, anti_∗_right, anti_identity_right}
use Rattle.frames.specs.Conjugation.{Within}

-- ---- one qubit after another

within_nothing : (P : Pauli) → Within 0 P → identity ≡ P
unfolding identity none
within_nothing P w = pauli_path (fun_ext (λ i. sym (w.in_x i (omega arith)))) (fun_ext (λ i. sym (w.in_z i (omega arith))))

-- the parts on the qubit q, and the others
split : (q : ℕ) (P : Pauli) → when (P.x q) (X_at q) ∗ (when (P.z q) (Z_at q) ∗ cleared (q ∷ []) P) ≡ P
unfolding when ◌∗◌ X_at Z_at cleared ◌△◌ given none only ◌∩◌ outside
split q P =
    pauli_path
    (fun_ext (at_or_off (λ i e. (P.x q && e) ⊕ ((P.z q && false) ⊕ (P.x i && (not e && true))) ≡ P.x i) q (simp f2) (λ i. simp f2)))
    (fun_ext (at_or_off (λ i e. (P.x q && false) ⊕ ((P.z q && e) ⊕ (P.z i && (not e && true))) ≡ P.z i) q (simp f2) (λ i. simp f2)))

row_cleared : (n : ℕ) (s : Bits) → ((i : ℕ) → suc n ≤ i → s i ≡ false) → (i : ℕ) → n ≤ i → (s ∩ outside (n ∷ [])) i ≡ false
unfolding ◌∩◌ outside
row_cleared n s w i h = go (ℕ_discrete i n)
  where
    go : Dec (i ≡ n) → s i && (not (eqb i n) && true) ≡ false
    go (yes e) = rw (eq-eqb i n e) (simp f2)
    go (no ne) = rw (w i (omega (arith, ne)))

within_cleared : (n : ℕ) (P : Pauli) → Within (suc n) P → Within n (cleared (n ∷ []) P)
unfolding cleared
within_cleared n P w = record { in_x = row_cleared n P.x w.in_x; in_z = row_cleared n P.z w.in_z }

-- What holds of 1, and with P of X P and Z P for X and Z on each qubit, holds of each Pauli on the n qubits.
pub from_generators : (Φ : Pauli → Type 0) (n : ℕ) → Φ identity → ((q : ℕ) → q < n → (P : Pauli) → Φ P → Φ (X_at q ∗ P))
    → ((q : ℕ) → q < n → (P : Pauli) → Φ P → Φ (Z_at q ∗ P)) → (P : Pauli) → Within n P → Φ P
from_generators Φ zero o x z P w = subst Φ (within_nothing P w) o
from_generators Φ (suc n) o x z P w =
    subst Φ (split n P)
    (given_X (P.x n)
    (given_Z (P.z n)
    (from_generators Φ n o (λ q h. x q (omega (arith, h))) (λ q h. z q (omega (arith, h))) (cleared (n ∷ []) P) (within_cleared n P w))))
  where
    given_X : (b : Bool) {R : Pauli} → Φ R → Φ (when b (X_at n) ∗ R)
    given_X true {R} p = subst Φ (simp group) (x n (omega arith) R p)
    given_X false {R} p = subst Φ (simp group) p

    given_Z : (b : Bool) {R : Pauli} → Φ R → Φ (when b (Z_at n) ∗ R)
    given_Z true {R} p = subst Φ (simp group) (z n (omega arith) R p)
    given_Z false {R} p = subst Φ (simp group) p

-- ---- maps that keep products

abbrev pub KeepsProducts : (Pauli → Pauli) → Type 0
KeepsProducts f = (P Q : Pauli) → f (P ∗ Q) ≡ f P ∗ f Q

pub keeps_identity : (f : Pauli → Pauli) → KeepsProducts f → f identity ≡ identity
keeps_identity f k = ap f (sym (∗_self identity)) ∙ k identity identity ∙ ∗_self (f identity)

-- Two maps that keep products and agree on X and Z of each of the n qubits agree on every Pauli on the n qubits.
pub products_agree : (n : ℕ) (f g : Pauli → Pauli) → KeepsProducts f → KeepsProducts g
    → ((q : ℕ) → q < n → f (X_at q) ≡ g (X_at q)) → ((q : ℕ) → q < n → f (Z_at q) ≡ g (Z_at q)) → (P : Pauli) → Within n P → f P ≡ g P
products_agree n f g kf kg ex ez =
    from_generators (λ P. f P ≡ g P) n (keeps_identity f kf ∙ sym (keeps_identity g kg))
    (λ q h P e. kf (X_at q) P ∙ ap₂ ◌∗◌ (ex q h) e ∙ sym (kg (X_at q) P))
    (λ q h P e. kf (Z_at q) P ∙ ap₂ ◌∗◌ (ez q h) e ∙ sym (kg (Z_at q) P))

-- X or Z on one of the n qubits
pub data Generator (n : ℕ) : Pauli → Type 0 where
  of_X : (q : ℕ) → q < n → Generator n (X_at q)
  of_Z : (q : ℕ) → q < n → Generator n (Z_at q)

module _ (n : ℕ) (f : Pauli → Pauli) (k : KeepsProducts f) (on-generators : (G H : Pauli) → Generator n G → Generator n H → anticommutes n (f G) (f H) ≡ anticommutes n G H) where
  -- f keeps the commutation of P and R
  Kept : Pauli → Pauli → Type 0
  Kept P R = anticommutes n (f P) (f R) ≡ anticommutes n P R

  -- in the second argument, and in the first
  kept_identity : (P : Pauli) → Kept P identity
  unfolding Kept
  kept_identity P = ap (anticommutes n (f P)) (keeps_identity f k) ∙ anti_identity_right n (f P) ∙ sym (anti_identity_right n P)

  kept_∗ : (P Q R : Pauli) → Kept P Q → Kept P R → Kept P (Q ∗ R)
  unfolding Kept
  kept_∗ P Q R a b = ap (anticommutes n (f P)) (k Q R) ∙ anti_∗_right n (f P) (f Q) (f R) ∙ ap₂ ◌⊕◌ a b ∙ sym (anti_∗_right n P Q R)

  kept_comm : (P Q : Pauli) → Kept P Q → Kept Q P
  unfolding Kept
  kept_comm P Q e = anti_comm n (f Q) (f P) ∙ e ∙ anti_comm n P Q

  kept_generator : (G : Pauli) → Generator n G → (P : Pauli) → Within n P → Kept G P
  unfolding Kept
  kept_generator G g =
      from_generators (Kept G) n (kept_identity G)
      (λ q h P e. kept_∗ G (X_at q) P (on-generators G (X_at q) g (of_X q h)) e)
      (λ q h P e. kept_∗ G (Z_at q) P (on-generators G (Z_at q) g (of_Z q h)) e)

  pub commutation_kept : (P Q : Pauli) → Within n P → Within n Q → anticommutes n (f P) (f Q) ≡ anticommutes n P Q
  unfolding Kept
  commutation_kept P Q p q =
      from_generators (Kept P) n (kept_identity P)
      (λ r h R e. kept_∗ P (X_at r) R (kept_comm (X_at r) P (kept_generator (X_at r) (of_X r h) P p)) e)
      (λ r h R e. kept_∗ P (Z_at r) R (kept_comm (Z_at r) P (kept_generator (Z_at r) (of_Z r h) P p)) e)
      Q q

-- ---- X and Z on a qubit lie within n

only_within : (n q : ℕ) → q < n → (i : ℕ) → n ≤ i → only q i ≡ false
only_within n q h i g = only_off q i (λ (e : i ≡ q). omega (arith, e))

pub within_X : (n q : ℕ) → q < n → Within n (X_at q)
unfolding X_at none
within_X n q h = record { in_x = only_within n q h; in_z = λ i g. refl }

pub within_Z : (n q : ℕ) → q < n → Within n (Z_at q)
unfolding Z_at none
within_Z n q h = record { in_x = λ i g. refl; in_z = only_within n q h }
