-- `check_lines::header::header_in` meets its contract. Assumes nothing.
use Rattle.check_lines.proofs.header.header_in.Goals as goal

pub returns : goal.returns
returns c = rw (c.number.ensures, c.number-2.ensures, c.number-3.ensures)
