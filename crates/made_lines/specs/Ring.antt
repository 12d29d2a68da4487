-- Definitions: kinds by their places in the ring. Assumes nothing.
use Rattle.std.specs.Prelude.{◌≡◌, true, ℕ, ◌<◌, length, get_or, drop}
use Rattle.job.specs.declared.Header.{Header}
use Rattle.made_lines.specs.declared.Kind.{Kind}
use Rattle.made_lines.specs.declared.Kind.TheVariants as kind
use Rattle.made.specs.Making.{Entry, always_stands, unitary, ring, first_standing}

-- the place of a kind
abbrev pub index_of : Kind → ℕ
index_of kind.Unitary = 0
index_of kind.Clifford = 1
index_of kind.Pauli = 2
index_of kind.Exponential = 3
index_of kind.Controlled = 4
index_of kind.Permute = 5
index_of kind.Conditional = 6
index_of kind.Reset = 7
index_of kind.Injection = 8
index_of kind.Single = 9
index_of kind.Depolarizing = 10
index_of kind.Uniform = 11
index_of kind.Weighted = 12
index_of kind.Flip = 13
index_of kind.Measure = 14
index_of kind.Allocate = 15
index_of kind.Barrier = 16

-- the kind of a place; past the last u
abbrev pub entry_at : Header → ℕ → ℕ → Entry
entry_at h recorded place = get_or (ring h recorded) place (always_stands (unitary h recorded))

-- a kind of the ring that can stand here
pub record Stands (h : Header) (recorded place : ℕ) : Type 0 where
  pub within : place < length (ring h recorded)
  pub stands : (entry_at h recorded place).stands ≡ true

-- the kind that is made where the k-th was chosen
pub record StandsFor (h : Header) (recorded k place : ℕ) : Type 0 where
  pub stands : Stands h recorded place
  pub made : first_standing h recorded (drop k (ring h recorded)) ≡ (entry_at h recorded place).made
