-- `check_lines::editions::in_edition` meets its contract. Assumes nothing.
use borrow.Author.Tests.{eq-eqb}
use mathlib.Core.Path.{ap, ◌∙◌}
use mathlib.Core.Bool.{not}
use Rattle.job.specs.Checks.{is_second_of}
use Rattle.check_values.specs.Contexts.{context_of}
use Rattle.check_lines.specs.Laws.Editions.{second_edition, first_edition}
use Rattle.check_lines.proofs.editions.in_edition.Goals as goal

pub returns-then-c-eq-SECOND_EDITION : goal.returns-then-c-eq-SECOND_EDITION
unfolding context_of
returns-then-c-eq-SECOND_EDITION c = λ vs w h. eq-eqb _ _ c.if-c-eq-SECOND_EDITION.true ∙ second_edition (is_second_of w) c.if-c-eq-SECOND_EDITION.true

pub returns-else-c-eq-SECOND_EDITION : goal.returns-else-c-eq-SECOND_EDITION
unfolding context_of
returns-else-c-eq-SECOND_EDITION c = λ vs w h. ap not (c.is_second.ensures vs w h) ∙ first_edition (is_second_of w) c.if-c-eq-SECOND_EDITION.false
