-- `kundatrezo::kundatrezo_make` meets its contract. Assumes nothing.
use Rattle.kundatrezo.proofs.kundatrezo_make.Goals as goal

pub returns : goal.returns
returns c = c.make.ensures
