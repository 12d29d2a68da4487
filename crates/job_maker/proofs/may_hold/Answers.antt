-- `job_maker::may_hold` meets its contract. Assumes nothing.
use Rattle.job_maker.proofs.may_hold.Goals as goal

pub returns : goal.returns
returns c = c.in_range.ensures
