-- `kundatrezo::kundatrezo_walk` meets its contract. Assumes nothing.
use Rattle.kundatrezo.proofs.kundatrezo_walk.Goals as goal

pub returns : goal.returns
returns c = c.walk.ensures
