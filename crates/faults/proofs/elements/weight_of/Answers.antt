-- `faults::elements::weight_of` meets its contract.
use Rattle.faults.specs.Laws.Line.{unweighted, with_weight}
use Rattle.faults.specs.Laws.Line.{weight_bits}
use Rattle.faults.proofs.elements.weight_of.Goals as goal

pub returns-else-weighted : goal.returns-else-weighted
returns-else-weighted c = unweighted _ _ _ c.if-weighted.false

pub float_from_bits-result : goal.float_from_bits-result
float_from_bits-result c = rw (weight_bits _ (c.requires c.if-weighted.true)) tt

pub returns-then-weighted : goal.returns-then-weighted
returns-then-weighted c = with_weight _ _ _ c.if-weighted.true
