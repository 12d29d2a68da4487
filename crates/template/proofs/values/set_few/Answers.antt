-- `template::values::set_few` meets its contract. Assumes nothing.
use Rattle.template.specs.Laws.Fields.{few_put}
use Rattle.template.proofs.values.set_few.Goals as goal

pub returns : goal.returns
returns c = few_put _ _ _ _ _ _ c.requires.0 c.requires.1 c.max-most.ensures
