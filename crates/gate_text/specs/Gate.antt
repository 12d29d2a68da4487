-- A gate line that is known to have its form: what stands at its places, and what the code says of it. Definitions. Assumes nothing.
use Rattle.std.specs.Prelude.{ℕ, ◌≤◌, ◌≡◌, List, length, get_or, drop}
use Rattle.std.proofs.Math.Option.{some}
use Rattle.text.specs.Bytes.{bytes}
use Rattle.text.specs.List.{list_Q}
use Rattle.text.specs.Template.{Value, values_of, number_at, list_at_of}
use Rattle.gate_text.specs.declared.Operands.{Operands}
use Rattle.gate_text.specs.declared.Gate.{Gate}

-- ---- operands

-- a list stands from a place to the line's end
pub record ListThere (line : List ℕ) (from : ℕ) : Type 0 where
  pub within : from ≤ length line
  pub members : List ℕ
  pub is : list_Q (drop from line) ≡ some members

-- its first two members, 0 where there is none, and how many it has, where they are no more
pub record OperandsRead (line : List ℕ) (from : ℕ) (r : Operands) : Type 0 where
  pub first : (qs : List ℕ) → list_Q (drop from line) ≡ some qs → r.first.0 ≡ get_or qs 0 0
  pub second : (qs : List ℕ) → list_Q (drop from line) ≡ some qs → r.second.0 ≡ get_or qs 1 0
  pub count : (qs : List ℕ) → list_Q (drop from line) ≡ some qs → length qs ≤ 2 → r.count ≡ length qs

-- ---- the line

unfoldable pub gate_template : List ℕ
unfolding bytes
gate_template = bytes "op=u g=N q=Q"

-- the bytes by which a line that has a form is known to be a gate line: `o`, and `u` behind `op=`
pub record GateBytes (text : List ℕ) : Type 0 where
  pub first : get_or text 0 0 ≡ 111
  pub letter : get_or text 3 0 ≡ 117

-- the line has the form of a gate line
pub record GateLine (line : List ℕ) : Type 0 where
  pub values : List Value
  pub reads : values_of gate_template line ≡ some values

-- its values
pub record GateRead (line : List ℕ) (r : Gate) : Type 0 where
  pub code : (vs : List Value) → values_of gate_template line ≡ some vs → r.code ≡ number_at 0 vs
  pub first : (vs : List Value) → values_of gate_template line ≡ some vs → r.first.0 ≡ get_or (list_at_of 0 vs) 0 0
  pub second : (vs : List Value) → values_of gate_template line ≡ some vs → r.second.0 ≡ get_or (list_at_of 0 vs) 1 0
  pub count : (vs : List Value) → values_of gate_template line ≡ some vs → length (list_at_of 0 vs) ≤ 2 → r.count ≡ length (list_at_of 0 vs)
