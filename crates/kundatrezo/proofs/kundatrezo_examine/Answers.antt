-- `kundatrezo::kundatrezo_examine` meets its contract. Assumes nothing.
use Rattle.kundatrezo.proofs.kundatrezo_examine.Goals as goal

pub returns : goal.returns
returns c = c.examine.ensures
