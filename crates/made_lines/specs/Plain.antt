-- Definitions: what was put of a line that is a Pauli. Assumes nothing.
use Rattle.std.specs.Prelude.{◌≡◌, List, [], ◌∷◌, ◌++◌, ℕ}
use Rattle.text.specs.Bytes.{LF, bytes}
use Rattle.text.specs.List.{list_text}
use Rattle.job.specs.Line.{SparsePauli}
use Rattle.writer.specs.Placed.{Puts}
use Rattle.made.specs.Choice.{Chosen}
use Rattle.made_fields.specs.declared.Making.{Making}

-- the bytes up to a Pauli, its two lists, and the LF
pub record PauliLineIs (name : List ℕ) (c : Chosen SparsePauli) (m r : Making) (out after : List ℕ) : Type 0 where
  pub puts : Puts m.at (name ++ (list_text c.value.x ++ (bytes " z=" ++ (list_text c.value.z ++ LF ∷ [])))) out after r.at
  pub recorded : r.recorded ≡ m.recorded
  pub state : r.state ≡ c.state
