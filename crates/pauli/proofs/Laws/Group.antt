-- Paulis up to their phase are a commutative group in which each is its own inverse. Assumes nothing.
use Rattle.std.specs.Prelude.{◌≡◌, Bool, true, false, ℕ}
use Rattle.std.proofs.Math.Path.{fun_ext}
use Rattle.pauli.specs.Bits.{Bits, ◌⊕◌, ◌△◌, none, given}
use Rattle.pauli.specs.Pauli.{Pauli, identity, X_at, Y_at, Z_at, ◌∗◌, when}
use Rattle.pauli.proofs.Laws.Parity.{bitwise}
use Rattle.pauli.proofs.Laws.Gates.{pauli_path}

△_comm : (s t : Bits) → s △ t ≡ t △ s
△_comm s t = fun_ext (λ i. simp bitwise)

△_assoc : (s t u : Bits) → (s △ t) △ u ≡ s △ (t △ u)
△_assoc s t u = fun_ext (λ i. simp bitwise)

△_self : (s : Bits) → s △ s ≡ none
△_self s = fun_ext (λ i. simp bitwise)

none_△ : (s : Bits) → none △ s ≡ s
none_△ s = fun_ext (λ i. simp bitwise)

given_true : (s : Bits) → given true s ≡ s
given_true s = fun_ext (λ i. simp bitwise)

given_false : (s : Bits) → given false s ≡ none
given_false s = fun_ext (λ i. simp bitwise)

pub ∗_comm : (P Q : Pauli) → P ∗ Q ≡ Q ∗ P
unfolding ◌∗◌
∗_comm P Q = pauli_path (△_comm P.x Q.x) (△_comm P.z Q.z)

pub ∗_assoc : (P Q R : Pauli) → (P ∗ Q) ∗ R ≡ P ∗ (Q ∗ R)
unfolding ◌∗◌
∗_assoc P Q R = pauli_path (△_assoc P.x Q.x R.x) (△_assoc P.z Q.z R.z)

pub ∗_self : (P : Pauli) → P ∗ P ≡ identity
unfolding ◌∗◌ identity
∗_self P = pauli_path (△_self P.x) (△_self P.z)

pub identity_∗ : (P : Pauli) → identity ∗ P ≡ P
unfolding ◌∗◌ identity
identity_∗ P = pauli_path (none_△ P.x) (none_△ P.z)

pub ∗_identity : (P : Pauli) → P ∗ identity ≡ P
∗_identity P = simp (∗_comm, identity_∗)

pub ∗_left_comm : (P Q R : Pauli) → P ∗ (Q ∗ R) ≡ Q ∗ (P ∗ R)
∗_left_comm P Q R = simp (← ∗_assoc, ∗_comm P Q)

pub ∗_self_left : (P Q : Pauli) → P ∗ (P ∗ Q) ≡ Q
∗_self_left P Q = simp (← ∗_assoc, ∗_self, identity_∗)

pub when_true : (P : Pauli) → when true P ≡ P
unfolding when
when_true P = pauli_path (given_true P.x) (given_true P.z)

pub when_false : (P : Pauli) → when false P ≡ identity
unfolding when identity
when_false P = pauli_path (given_false P.x) (given_false P.z)

pub when_∗ : (b : Bool) (P Q : Pauli) → when b (P ∗ Q) ≡ when b P ∗ when b Q
unfolding when ◌∗◌
when_∗ b P Q = pauli_path (fun_ext (λ i. simp bitwise)) (fun_ext (λ i. simp bitwise))

pub when_⊕ : (a b : Bool) (P : Pauli) → when (a ⊕ b) P ≡ when a P ∗ when b P
unfolding when ◌∗◌
when_⊕ a b P = pauli_path (fun_ext (λ i. simp bitwise)) (fun_ext (λ i. simp bitwise))

pub X_Z : (q : ℕ) → X_at q ∗ Z_at q ≡ Y_at q
unfolding X_at Z_at Y_at ◌∗◌
X_Z q = pauli_path (fun_ext (λ i. simp bitwise)) (fun_ext (λ i. simp bitwise))

-- Sorts a product of Paulis, and takes out what stands twice.
pub ruleset group = (∗_comm, ∗_assoc, ∗_left_comm, ∗_self, ∗_self_left, identity_∗, ∗_identity, when_true, when_false)
