-- `reader::far_field` meets its contract. Assumes nothing.
use mathlib.Core.Path.{refl}
use mathlib.Core.List.{[]}
use Rattle.template.specs.Laws.Reading.{stops, then_next, in_bounds}
use Rattle.reader.proofs.far_field.Goals as goal

pub returns-in_err-named-clause-read : goal.returns-in_err-named-clause-read
returns-in_err-named-clause-read c = rw c.from_residual.ensures (stops _ (c.in_err-named.ensures.by_index _))

pub far_value-requires : goal.far_value-requires
far_value-requires c = (((c.in_ok-named.ensures.by_index []).read _ refl).within, c.requires.2, c.requires.3)

pub returns-clause-read : goal.returns-clause-read
returns-clause-read c = then_next (c.in_ok-named.ensures.by_index _) c.far_value.ensures.read_next

pub returns-clause-at_in_bounds : goal.returns-clause-at_in_bounds
returns-clause-at_in_bounds c = in_bounds c.far_value.ensures.read_next
