-- `made_lines::standing_last` meets its contract. Assumes nothing.
use Rattle.made_lines.specs.Laws.Standing.{barrier_stands, none_stands}
use Rattle.made_lines.proofs.standing_last.Goals as goal

pub returns-then-h-eq-SECOND_EDITION : goal.returns-then-h-eq-SECOND_EDITION
returns-then-h-eq-SECOND_EDITION c = λ recorded. barrier_stands _ recorded c.if-h-eq-SECOND_EDITION.true

pub returns : goal.returns
returns c = λ recorded. none_stands _ recorded c.if-h-eq-SECOND_EDITION.false
