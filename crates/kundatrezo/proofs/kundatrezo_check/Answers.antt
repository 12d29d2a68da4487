-- `kundatrezo::kundatrezo_check` meets its contract. Assumes nothing.
use Rattle.kundatrezo.proofs.kundatrezo_check.Goals as goal

pub returns : goal.returns
returns c = c.check.ensures
