-- `kundatrezo::kundatrezo_by_outcome` meets its contract. Assumes nothing.
use Rattle.kundatrezo.proofs.kundatrezo_by_outcome.Goals as goal

pub returns : goal.returns
returns c = c.by_outcome.ensures
