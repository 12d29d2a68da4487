-- `noise::words::is_fault` meets its contract.
use Rattle.noise.proofs.words.is_fault.Goals as goal

pub returns : goal.returns
returns c = rw c.unit.ensures
