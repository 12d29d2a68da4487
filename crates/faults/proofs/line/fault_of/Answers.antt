-- `faults::line::fault_of` meets its contract.
use mathlib.Core.Path.{ap}
use Rattle.job.specs.Float.{float}
use Rattle.faults.specs.Laws.Line.{probability_bits, fault_held}
use Rattle.faults.proofs.line.fault_of.Goals as goal

pub float_from_bits-result : goal.float_from_bits-result
float_from_bits-result c = rw (c.number.ensures, probability_bits _ c.requires) tt

pub returns : goal.returns
returns c = fault_held (ap float c.number.ensures) c.distribution_of.ensures c.correlation_of.ensures c.condition_of.ensures
