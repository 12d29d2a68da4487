-- `correlations::is_full` meets its contract. Assumes nothing.
use mathlib.Core.Path.{refl}
use Rattle.correlations.specs.Rounds.{full_of}
use Rattle.correlations.proofs.is_full.Goals as goal

pub returns-in-Some : goal.returns-in-Some
unfolding full_of
returns-in-Some c = rw c.in-Some.is refl

pub returns-in-None : goal.returns-in-None
unfolding full_of
returns-in-None c = rw c.in-None.is refl
