-- `checker::check` meets its contract. Assumes nothing.
use Rattle.checker.proofs.check.Goals as goal

pub returns : goal.returns
returns c = c.examine.ensures.answers
