-- `kundatrezo::kundatrezo_annotate` meets its contract. Assumes nothing.
use Rattle.kundatrezo.proofs.kundatrezo_annotate.Goals as goal

pub returns : goal.returns
returns c = c.annotate.ensures
