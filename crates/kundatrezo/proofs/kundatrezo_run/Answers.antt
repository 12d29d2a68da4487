-- `kundatrezo::kundatrezo_run` meets its contract. Assumes nothing.
use Rattle.kundatrezo.proofs.kundatrezo_run.Goals as goal

pub returns : goal.returns
returns c = (_, c.run.ensures)
