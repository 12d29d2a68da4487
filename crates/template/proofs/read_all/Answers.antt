-- `template::read_all` meets its contract. Assumes nothing.
use Rattle.template.specs.Laws.Reading.{from_start, whole_read}
use Rattle.template.proofs.read_all.Goals as goal

pub returns-in-Some : goal.returns-in-Some
returns-in-Some c = whole_read (from_start c.start.ensures c.in-Some.ensures)

pub returns-in-None : goal.returns-in-None
returns-in-None c = whole_read (from_start c.start.ensures c.in-None.ensures)
