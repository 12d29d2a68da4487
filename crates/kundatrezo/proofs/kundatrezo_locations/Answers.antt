-- `kundatrezo::kundatrezo_locations` meets its contract. Assumes nothing.
use Rattle.kundatrezo.proofs.kundatrezo_locations.Goals as goal

pub returns : goal.returns
returns c = c.locations.ensures
