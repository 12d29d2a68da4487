-- `made_lines::noise_lines::weight` meets its contract. Assumes nothing.
use Rattle.made.specs.Making.{weights}
use mathlib.Core.Path.{◌≡◌}
use native.Mathlib.Omega.{arith}
use Rattle.made_lines.proofs.noise_lines.weight.Goals as goal

pub returns-in-0 : goal.returns-in-0
unfolding weights
returns-in-0 c = rw c.in-0.is

pub returns-in-1 : goal.returns-in-1
unfolding weights
returns-in-1 c = rw c.in-1.is

pub returns-in-2 : goal.returns-in-2
unfolding weights
returns-in-2 c = rw c.in-2.is

pub returns-in_default : goal.returns-in_default
unfolding weights
returns-in_default c = let is : c.args.place ≡ 3 = omega arith in rw is
