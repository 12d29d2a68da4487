-- `correlations::remainder` meets its contract. Assumes nothing.
use mathlib.Core.Path.{refl}
use Rattle.correlations.specs.Links.{remainder_of}
use Rattle.correlations.proofs.remainder.Goals as goal

pub returns : goal.returns
unfolding remainder_of
returns c = refl
