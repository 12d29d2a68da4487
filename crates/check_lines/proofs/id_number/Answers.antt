-- `check_lines::id_number` meets its contract. Assumes nothing.
use borrow.Author.Tests.{lt-ltb, le-ltb, eq-eqb, ne_eqb}
use lib.Dec.{eqb}
use mathlib.Core.List.{[]}
use Rattle.check_values.specs.Laws.Lowest.{fails, passes, left_false, right_false, both_true}
use Rattle.job.specs.Checks.{lowest}
use Rattle.check_values.specs.Contexts.{context_of}
use Rattle.check_lines.proofs.id_number.Goals as goal

pub returns-then-n-c : goal.returns-then-n-c
unfolding context_of
returns-then-n-c c = fails 8 _ _ (left_false _ _ (ne_eqb _ _ c.if-n-c.true))

pub returns-then-c-n : goal.returns-then-c-n
unfolding context_of
returns-then-c-n c = fails 8 _ [] (right_false (eqb c.args.id.0 c.args.c.recorded) _ (le-ltb _ _ c.if-c-n.true))

pub returns : goal.returns
unfolding context_of lowest
returns c = passes 8 _ [] (both_true (eq-eqb _ _ c.if-n-c.false) (lt-ltb _ _ c.if-c-n.false))
