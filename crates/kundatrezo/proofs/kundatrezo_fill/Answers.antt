-- `kundatrezo::kundatrezo_fill` meets its contract. Assumes nothing.
use Rattle.kundatrezo.proofs.kundatrezo_fill.Goals as goal

pub returns : goal.returns
returns c = c.fill.ensures
