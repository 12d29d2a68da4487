-- `noise::words::more_part` meets its contract.
use Rattle.std.proofs.Common.{ℕ, drop, ap, ◌∙◌}
use Rattle.noise.specs.Kinds.{correlation_of}
use Rattle.noise.specs.Words.{more_of}
use Rattle.noise.proofs.words.more_part.Goals as goal

pub returns-in-None : goal.returns-in-None
unfolding correlation_of more_of
returns-in-None c = rw c.in-None.is (c.tail.ensures ∙ ap (λ (k : ℕ). drop k c.args.more.now) c.saturating_sub.ensures)

pub returns-in-Some : goal.returns-in-Some
unfolding correlation_of more_of
returns-in-Some c = rw c.in-Some.is
