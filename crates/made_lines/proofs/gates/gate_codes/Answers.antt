-- `made_lines::gates::gate_codes` meets its contract. Assumes nothing.
use Rattle.made_lines.specs.Laws.Gates.{codes_one, codes_second, codes_first}
use Rattle.made_lines.proofs.gates.gate_codes.Goals as goal

pub returns-then-h-eq1 : goal.returns-then-h-eq1
returns-then-h-eq1 c = codes_one _ c.if-h-eq1.true

pub returns-then-h-eq-SECOND_EDITION : goal.returns-then-h-eq-SECOND_EDITION
returns-then-h-eq-SECOND_EDITION c = codes_second _ c.if-h-eq1.false c.if-h-eq-SECOND_EDITION.true

pub returns : goal.returns
returns c = codes_first _ c.if-h-eq1.false c.if-h-eq-SECOND_EDITION.false
