-- `annotation::around::noise_before` meets its contract. Assumes nothing.
use Rattle.annotation.specs.Laws.Around.{before_measure, before_others}
use Rattle.annotation.proofs.around.noise_before.Goals as goal

pub returns-in-Measure : goal.returns-in-Measure
returns-in-Measure c = λ vs w s. before_measure _ vs c.in-Measure.is s

pub returns-in_default : goal.returns-in_default
returns-in_default c = λ vs w s. before_others _ vs c.in_default.not-Measure s
