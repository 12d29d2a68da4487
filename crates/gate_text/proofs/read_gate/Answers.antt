-- `gate_text::read_gate` meets its contract. Assumes nothing.
use native.Mathlib.Omega.{arith}
use mathlib.Core.Path.{refl}
use Rattle.gate_text.specs.Laws.Digits.{number_there, number_read}
use Rattle.gate_text.specs.Laws.Gate.{code_there, operands_there, gate_read}
use Rattle.gate_text.proofs.read_gate.Goals as goal

pub read_digits-code-requires : goal.read_digits-code-requires
read_digits-code-requires c = number_there (code_there c.requires) (omega arith)

pub read_operands-operands-requires : goal.read_operands-operands-requires
read_operands-operands-requires c =
    let there = c.requires in
    operands_there there (number_read (code_there there) (omega arith) c.read_digits-code.ensures)

pub returns : goal.returns
returns c =
    let code = number_read (code_there c.requires) (omega arith) c.read_digits-code.ensures in
    gate_read code c.read_operands-operands.ensures _ refl refl refl refl
