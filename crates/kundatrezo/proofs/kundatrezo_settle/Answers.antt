-- `kundatrezo::kundatrezo_settle` meets its contract. Assumes nothing.
use Rattle.kundatrezo.proofs.kundatrezo_settle.Goals as goal

pub returns : goal.returns
returns c = c.settle.ensures
