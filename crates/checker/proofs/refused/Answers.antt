-- `checker::refused` meets its contract. Assumes nothing.
use Rattle.checker.proofs.refused.Goals as goal

pub returns : goal.returns
returns c = c.refused.ensures
