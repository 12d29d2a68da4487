-- `made_lines::gates::suited_tables` meets its contract. Assumes nothing.
use Rattle.made_lines.specs.Laws.Cliffords.{first_six, first_seven, first_eight}
use Rattle.made_lines.proofs.gates.suited_tables.Goals as goal

pub returns-then-n-eq1 : goal.returns-then-n-eq1
returns-then-n-eq1 c = (first_six _ c.if-n-eq1.true).count

pub returns-then-n-lt5 : goal.returns-then-n-lt5
returns-then-n-lt5 c = (first_seven _ c.requires c.if-n-eq1.false c.if-n-lt5.true).count

pub returns : goal.returns
returns c = (first_eight _ c.if-n-lt5.false).count
