-- `made_lines::ring_length` meets its contract. Assumes nothing.
use Rattle.made_lines.specs.Laws.Standing.{ring_second, ring_first}
use Rattle.made_lines.proofs.ring_length.Goals as goal

pub returns-then-h-eq-SECOND_EDITION : goal.returns-then-h-eq-SECOND_EDITION
returns-then-h-eq-SECOND_EDITION c = λ recorded. ring_second _ recorded c.if-h-eq-SECOND_EDITION.true

pub returns : goal.returns
returns c = λ recorded. ring_first _ recorded c.if-h-eq-SECOND_EDITION.false
