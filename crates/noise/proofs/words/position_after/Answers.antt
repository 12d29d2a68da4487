-- `noise::words::position_after` meets its contract. Assumes nothing.
use Rattle.noise.specs.Words.{position_after_of}
use Rattle.noise.specs.Kinds.{correlation_of}
use Rattle.noise.proofs.words.position_after.Goals as goal

pub overflow_add-result : goal.overflow_add-result
unfolding correlation_of
overflow_add-result c = record { fits = c.requires (rw c.in-None.is) }

pub returns-in-None : goal.returns-in-None
unfolding position_after_of
returns-in-None c = rw c.in-None.is

pub returns-in-Some : goal.returns-in-Some
unfolding position_after_of
returns-in-Some c = rw c.in-Some.is
