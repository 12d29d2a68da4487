-- `check_lines::header::edition_number` meets its contract. Assumes nothing.
use native.Mathlib.Omega.{arith}
use mathlib.Core.Path.{◌∙◌}
use mathlib.Core.List.{[]}
use lib.Dec.{leb}
use borrow.Author.Tests.{lt-leb, le-leb}
use Rattle.check_values.specs.Laws.Lowest.{none_bad, fails, passes, left_false, right_false, both_true}
use Rattle.check_lines.proofs.header.edition_number.Goals as goal

pub returns-then-edition-eq0 : goal.returns-then-edition-eq0
returns-then-edition-eq0 c = fails 23 _ _ (left_false _ _ (lt-leb 1 c.args.edition (omega arith)))

pub returns-then-edition-gt-MAX_EDITION : goal.returns-then-edition-gt-MAX_EDITION
returns-then-edition-gt-MAX_EDITION c = fails 23 _ [] (right_false (leb 1 c.args.edition) _ (lt-leb c.args.edition 2 (omega arith)))

pub returns : goal.returns
returns c = none_bad ∙ passes 23 _ _ (both_true (le-leb 1 c.args.edition (omega arith)) (le-leb c.args.edition 2 (omega arith)))
