-- `kundatrezo::kundatrezo_run_shared` meets its contract. Assumes nothing.
use Rattle.kundatrezo.proofs.kundatrezo_run_shared.Goals as goal

pub returns : goal.returns
returns c = c.run_shared.ensures
