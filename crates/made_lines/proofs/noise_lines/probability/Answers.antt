-- `made_lines::noise_lines::probability` meets its contract. Assumes nothing.
use Rattle.made.specs.Making.{probabilities}
use mathlib.Core.Path.{◌≡◌}
use native.Mathlib.Omega.{arith}
use Rattle.made_lines.proofs.noise_lines.probability.Goals as goal

pub returns-in-0 : goal.returns-in-0
unfolding probabilities
returns-in-0 c = rw c.in-0.is

pub returns-in-1 : goal.returns-in-1
unfolding probabilities
returns-in-1 c = rw c.in-1.is

pub returns-in-2 : goal.returns-in-2
unfolding probabilities
returns-in-2 c = rw c.in-2.is

pub returns-in-3 : goal.returns-in-3
unfolding probabilities
returns-in-3 c = rw c.in-3.is

pub returns-in-4 : goal.returns-in-4
unfolding probabilities
returns-in-4 c = rw c.in-4.is

pub returns-in_default : goal.returns-in_default
unfolding probabilities
returns-in_default c = let is : c.args.i ≡ 5 = omega arith in rw is
