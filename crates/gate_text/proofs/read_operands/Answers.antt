-- `gate_text::read_operands` meets its contract. Assumes nothing.
use native.Mathlib.Omega.{arith}
use mathlib.Core.Path.{refl}
use Rattle.gate_text.specs.Laws.Digits.{number_there, number_read}
use Rattle.gate_text.specs.Laws.Operands.{first_there, list_behind, operands_one, operands_two}
use Rattle.gate_text.proofs.read_operands.Goals as goal

pub read_digits-first-requires : goal.read_digits-first-requires
read_digits-first-requires c = number_there (first_there c.requires) (omega arith)

pub returns-then-first-line : goal.returns-then-first-line
returns-then-first-line c =
    let there = c.requires in
    operands_one there (number_read (first_there there) (omega arith) c.read_digits-first.ensures) c.if-first-line.true _ refl refl refl

pub read_digits-second-requires : goal.read_digits-second-requires
read_digits-second-requires c =
    let there = c.requires in
    let first = number_read (first_there there) (omega arith) c.read_digits-first.ensures in
    number_there (first_there (list_behind there first (omega (arith, first.within)))) (omega arith)

pub returns : goal.returns
returns c =
    let there = c.requires in
    let first = number_read (first_there there) (omega arith) c.read_digits-first.ensures in
    let behind = first_there (list_behind there first (omega (arith, first.within))) in
    operands_two there first (omega (arith, first.within)) (number_read behind (omega arith) c.read_digits-second.ensures) _ refl refl refl
