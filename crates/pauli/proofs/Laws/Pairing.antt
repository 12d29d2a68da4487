-- The pairing of Paulis, `anticommutes`, is symmetric and linear in each argument; what a frame reads off single X, Y and Z. Assumes nothing.
use Rattle.std.specs.Prelude.{◌≡◌, Bool, false, ◌&&◌, List, ℕ, ◌<◌}
use Rattle.std.proofs.Common.{◌∙◌}
use Rattle.pauli.specs.Bits.{◌⊕◌}
use Rattle.pauli.specs.Pauli.{Pauli, identity, X_at, Z_at, Y_at, ◌∗◌, when, anticommutes, cleared}
use Rattle.pauli.proofs.Laws.F2.{f2}
use Rattle.pauli.proofs.Laws.Parity.{parity_comm, parity_△, parity_given, parity_none, parity_only, parity_△_right, parity_given_right, parity_none_right, parity_only_right, ∩_assoc}

ruleset bilinear = (f2, parity_△, parity_given, parity_none, parity_only, parity_△_right, parity_given_right, parity_none_right, parity_only_right)

pub anti_comm : (n : ℕ) (P Q : Pauli) → anticommutes n P Q ≡ anticommutes n Q P
unfolding anticommutes
anti_comm n P Q = simp (f2, parity_comm)

module _ (n : ℕ) where
  pub anti_∗ : (P Q R : Pauli) → anticommutes n (P ∗ Q) R ≡ anticommutes n P R ⊕ anticommutes n Q R
  unfolding anticommutes ◌∗◌
  anti_∗ P Q R = simp bilinear

  pub anti_when : (b : Bool) (P R : Pauli) → anticommutes n (when b P) R ≡ b && anticommutes n P R
  unfolding anticommutes when
  anti_when b P R = simp bilinear

  pub anti_identity : (R : Pauli) → anticommutes n identity R ≡ false
  unfolding anticommutes identity
  anti_identity R = simp bilinear

  pub anti_X : (q : ℕ) (R : Pauli) → q < n → anticommutes n (X_at q) R ≡ R.z q
  unfolding anticommutes X_at
  anti_X q R h = simp bilinear

  pub anti_Z : (q : ℕ) (R : Pauli) → q < n → anticommutes n (Z_at q) R ≡ R.x q
  unfolding anticommutes Z_at
  anti_Z q R h = simp bilinear

  pub anti_Y : (q : ℕ) (R : Pauli) → q < n → anticommutes n (Y_at q) R ≡ R.x q ⊕ R.z q
  unfolding anticommutes Y_at
  anti_Y q R h = simp bilinear

  pub anti_∗_right : (R P Q : Pauli) → anticommutes n R (P ∗ Q) ≡ anticommutes n R P ⊕ anticommutes n R Q
  anti_∗_right R P Q = simp (anti_comm n R, anti_∗)

  pub anti_when_right : (R : Pauli) (b : Bool) (P : Pauli) → anticommutes n R (when b P) ≡ b && anticommutes n R P
  anti_when_right R b P = simp (anti_comm n R, anti_when)

  pub anti_identity_right : (R : Pauli) → anticommutes n R identity ≡ false
  anti_identity_right R = anti_comm n R identity ∙ anti_identity R

  pub anti_X_right : (q : ℕ) (R : Pauli) → q < n → anticommutes n R (X_at q) ≡ R.z q
  anti_X_right q R h = anti_comm n R (X_at q) ∙ anti_X q R h

  pub anti_Z_right : (q : ℕ) (R : Pauli) → q < n → anticommutes n R (Z_at q) ≡ R.x q
  anti_Z_right q R h = anti_comm n R (Z_at q) ∙ anti_Z q R h

  pub anti_Y_right : (q : ℕ) (R : Pauli) → q < n → anticommutes n R (Y_at q) ≡ R.x q ⊕ R.z q
  anti_Y_right q R h = anti_comm n R (Y_at q) ∙ anti_Y q R h

  -- taking parts away is its own adjoint
  pub anti_cleared : (qs : List ℕ) (P R : Pauli) → anticommutes n (cleared qs P) R ≡ anticommutes n P (cleared qs R)
  unfolding anticommutes cleared
  anti_cleared qs P R = simp ∩_assoc

-- Expands a pairing of products as a polynomial mod 2.
pub ruleset pairing = (f2, anti_∗, anti_when, anti_identity, anti_X, anti_Z, anti_Y, anti_∗_right, anti_when_right, anti_identity_right, anti_X_right, anti_Z_right, anti_Y_right)
