-- `check_lines::header::edition_in` meets its contract. Assumes nothing.
use Rattle.check_lines.proofs.header.edition_in.Goals as goal

pub returns : goal.returns
returns c = rw (c.number.ensures, c.number-2.ensures, c.number-3.ensures, c.number-4.ensures)
