-- `kundatrezo::kundatrezo_by_shot` meets its contract. Assumes nothing.
use Rattle.kundatrezo.proofs.kundatrezo_by_shot.Goals as goal

pub returns : goal.returns
returns c = c.by_shot.ensures
