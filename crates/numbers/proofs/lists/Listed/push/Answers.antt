-- `numbers::lists::Listed::push` meets its contract. Assumes nothing.
use mathlib.Core.Path.{◌∙◌}
use Rattle.numbers.specs.Read.{listed_of}
use Rattle.numbers.specs.Laws.Lists.{listed_snoc}
use Rattle.numbers.proofs.lists.Listed.push.Goals as goal

pub returns-clause-listed : goal.returns-clause-listed
unfolding listed_of
returns-clause-listed c = λ d e. listed_snoc d c.args.n _ (rw e) (c.max.ensures ∙ rw e) (c.rises.ensures ∙ rw e)
