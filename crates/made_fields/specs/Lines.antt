-- Definitions: what was put of a made instruction, by the definitions of made. Assumes nothing.
use Rattle.std.specs.Prelude.{◌≡◌, List, ◌++◌, ℕ, ◌+◌, ◌^◌, ◌≤◌, ◌<◌}
use Rattle.text.specs.Bytes.{bytes, unlines}
use Rattle.text.specs.List.{list_text}
use Rattle.job.specs.declared.Header.{Header}
use Rattle.job.specs.Line.{SparsePauli}
use Rattle.writer.specs.Placed.{Puts}
use Rattle.made.specs.Choice.{Chosen}
use Rattle.made.specs.Making.{Made}
use Rattle.made_fields.specs.declared.Making.{Making}

-- the bytes up to a value, and the text of the value, were put: at most so many bytes
pub record FieldIs (most at : ℕ) (name value out after : List ℕ) (next : ℕ) : Type 0 where
  pub puts : Puts at (name ++ value) out after next
  pub near : next ≤ at + most

-- a part of an instruction's text, of at most so many bytes, which leaves the stream in this state
pub record PartIs (most : ℕ) (text : List ℕ) (behind : ℕ) (m r : Making) (out after : List ℕ) : Type 0 where
  pub puts : Puts m.at text out after r.at
  pub recorded : r.recorded ≡ m.recorded
  pub state : r.state ≡ behind
  pub near : r.at ≤ m.at + most

-- the bytes up to a Pauli, and its two lists
pub record PauliIs (name : List ℕ) (c : Chosen SparsePauli) (m r : Making) (out after : List ℕ) : Type 0 where
  pub puts : Puts m.at (name ++ (list_text c.value.x ++ (bytes " z=" ++ list_text c.value.z))) out after r.at
  pub recorded : r.recorded ≡ m.recorded
  pub state : r.state ≡ c.state
  pub near : r.at ≤ m.at + 400

-- a made instruction
pub record MadeIs (c : Chosen Made) (m r : Making) (out after : List ℕ) : Type 0 where
  pub puts : Puts m.at (unlines c.value.texts) out after r.at
  pub recorded : r.recorded ≡ c.value.recorded
  pub state : r.state ≡ c.state

-- a header's numbers, outcomes recorded, and a place that has numbers behind it for any instruction
pub record Ready (h : Header) (m : Making) : Type 0 where
  pub some_qubits : 0 < h.qubits
  pub qubits : h.qubits ≤ 256
  pub some_shots : 0 < h.shots
  pub shots : h.shots ≤ 4096
  pub outcomes : h.outcomes ≤ 1024
  pub recorded : m.recorded ≤ h.outcomes
  pub room : m.at + 3000 < 2 ^ 64
