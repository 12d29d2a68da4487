-- `kundatrezo::kundatrezo_correlation` meets its contract. Assumes nothing.
use Rattle.kundatrezo.proofs.kundatrezo_correlation.Goals as goal

pub returns : goal.returns
returns c = c.correlation.ensures
