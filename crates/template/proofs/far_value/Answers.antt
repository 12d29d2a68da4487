-- `template::far_value` meets its contract. Assumes nothing.
use Rattle.template.specs.Laws.Reading.{in_bounds}
use Rattle.template.proofs.far_value.Goals as goal

pub returns-clause-at_in_bounds : goal.returns-clause-at_in_bounds
returns-clause-at_in_bounds c = in_bounds c.value_to.ensures
