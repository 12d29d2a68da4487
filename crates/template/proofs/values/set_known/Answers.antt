-- `template::values::set_known` meets its contract. Assumes nothing.
use Rattle.template.specs.Laws.Fields.{known_put}
use Rattle.template.proofs.values.set_known.Goals as goal

pub returns : goal.returns
returns c = known_put _ _ c.requires.0 c.requires.1 _ c.known_list-known.ensures
