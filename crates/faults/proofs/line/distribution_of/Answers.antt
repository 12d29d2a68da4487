-- `faults::line::distribution_of` meets its contract: by the form.
use Rattle.faults.specs.Laws.Line.{kind_depolarizing, kind_uniform, kind_weighted, kind_single}
use Rattle.faults.proofs.line.distribution_of.Goals as goal

pub returns-in-Depolarizing : goal.returns-in-Depolarizing
returns-in-Depolarizing c = λ vs n h. kind_depolarizing _ c.count.ensures (rw c.in-Depolarizing.is at h)

pub returns-in-Uniform : goal.returns-in-Uniform
returns-in-Uniform c = λ vs n h. kind_uniform _ c.number.ensures (rw c.in-Uniform.is at h)

pub returns-in-Weighted : goal.returns-in-Weighted
returns-in-Weighted c = λ vs n h. kind_weighted _ (rw c.in-Weighted.is at h)

pub returns-in_default : goal.returns-in_default
returns-in_default c = λ vs n h. kind_single _ c.in_default.not-Depolarizing c.in_default.not-Uniform c.in_default.not-Weighted h
