-- `seed_words::step` meets its contract. Assumes nothing.
use mathlib.Core.Path.{refl}
use Rattle.stream.specs.Stream.{left, right, step}
use Rattle.seed_words.proofs.step.Goals as goal

pub returns : goal.returns
unfolding step left right
returns c = refl
