-- `kundatrezo::kundatrezo_run_totals` meets its contract. Assumes nothing.
use Rattle.kundatrezo.proofs.kundatrezo_run_totals.Goals as goal

pub returns : goal.returns
returns c = c.run.ensures
