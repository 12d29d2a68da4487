-- `kundatrezo::kundatrezo_settle_shared` meets its contract. Assumes nothing.
use Rattle.kundatrezo.proofs.kundatrezo_settle_shared.Goals as goal

pub returns : goal.returns
returns c = c.settle_shared.ensures
