-- `kundatrezo::kundatrezo_line` meets its contract. Assumes nothing.
use Rattle.kundatrezo.proofs.kundatrezo_line.Goals as goal

pub returns : goal.returns
returns c = c.line_part.ensures
