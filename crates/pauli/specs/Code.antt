-- Gates by their codes, also above 15, where no code has a gate, and by the names in src/. Assumes nothing.
use Rattle.std.proofs.Math.Option.{Option, none, some}
use Rattle.std.specs.Prelude.{ℕ, Option as CodeOption, None, Some}
use Rattle.pauli.specs.Pauli.{Pauli}
use Rattle.pauli.specs.Gate.{Gate, operands_of}
use Rattle.pauli.specs.declared.Gate.{Gate as GateName}
use Rattle.pauli.specs.declared.Gate.TheVariants as name

-- what a code's gate does; no gate, no change
unfoldable pub by_gate : (Gate → ℕ → ℕ → Pauli → Pauli) → Option Gate → ℕ → ℕ → Pauli → Pauli
by_gate action none a b F = F
by_gate action (some g) a b F = action g a b F

-- how many qubits a code's gate takes; no gate, none
unfoldable pub operand_count_of : Option Gate → ℕ
operand_count_of none = 0
operand_count_of (some g) = operands_of g

-- the gate of a name in src/
unfoldable pub gate_named : GateName → Gate
gate_named name.I = Gate.I
gate_named name.X = Gate.X
gate_named name.Y = Gate.Y
gate_named name.Z = Gate.Z
gate_named name.Hadamard = Gate.Hadamard
gate_named name.SqrtZ = Gate.SqrtZ
gate_named name.SqrtZInv = Gate.SqrtZInv
gate_named name.SqrtX = Gate.SqrtX
gate_named name.SqrtXInv = Gate.SqrtXInv
gate_named name.SqrtY = Gate.SqrtY
gate_named name.SqrtYInv = Gate.SqrtYInv
gate_named name.ControlledX = Gate.ControlledX
gate_named name.ControlledZ = Gate.ControlledZ
gate_named name.Swap = Gate.Swap
gate_named name.PrepareBell = Gate.PrepareBell
gate_named name.ControlledY = Gate.ControlledY

-- the gate of a name, or none
unfoldable pub named_or_none : CodeOption GateName → Option Gate
named_or_none None = none
named_or_none (Some g) = some (gate_named g)
