-- Definitions. Paulis up to their phase, as document 01 has them: the qubits with an X part and the qubits with a Z part; Y has both. Assumes nothing.
use Rattle.std.specs.Prelude.{Bool, List, ℕ}
use Rattle.pauli.specs.Bits.{Bits, ◌⊕◌, ◌∩◌, ◌△◌, none, only, given, added, outside, parity}

infixl 40 ◌∗◌
pub record Pauli : Type 0 where
  pub x : Bits
  pub z : Bits

unfoldable pub identity : Pauli
identity = record { x = none; z = none }

-- X, Z and Y on one qubit
unfoldable pub X_at : ℕ → Pauli
X_at q = record { x = only q; z = none }

unfoldable pub Z_at : ℕ → Pauli
Z_at q = record { x = none; z = only q }

unfoldable pub Y_at : ℕ → Pauli
Y_at q = record { x = only q; z = only q }

-- the product, up to its phase
unfoldable pub ◌∗◌ : Pauli → Pauli → Pauli
P ∗ Q = record { x = P.x △ Q.x; z = P.z △ Q.z }

-- the Pauli where b is true, and else the identity
unfoldable pub when : Bool → Pauli → Pauli
when b P = record { x = given b P.x; z = given b P.z }

-- X parts of the first on Z parts of the second, plus the reverse, are odd in number (over n qubits)
unfoldable pub anticommutes : ℕ → Pauli → Pauli → Bool
anticommutes n P Q = parity n (P.x ∩ Q.z) ⊕ parity n (P.z ∩ Q.x)

-- without its parts on the listed qubits
unfoldable pub cleared : List ℕ → Pauli → Pauli
cleared qs P = record { x = P.x ∩ outside qs; z = P.z ∩ outside qs }

-- with x and z added to its parts on q
unfoldable pub added_at : ℕ → Bool → Bool → Pauli → Pauli
added_at q x z P = record { x = added P.x q x; z = added P.z q z }
