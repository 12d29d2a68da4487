-- `kundatrezo::kundatrezo_fault_table` meets its contract. Assumes nothing.
use Rattle.kundatrezo.proofs.kundatrezo_fault_table.Goals as goal

pub returns : goal.returns
returns c = c.fault_table.ensures
