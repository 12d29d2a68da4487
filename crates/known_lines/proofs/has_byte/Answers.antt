-- `known_lines::has_byte` meets its contract. Assumes nothing.
use mathlib.Core.Path.{sym}
use mathlib.Core.Bool.{true≢false}
use borrow.Author.Tests.{eqb-true}
use Rattle.known_lines.proofs.has_byte.Goals as goal

pub returns-then-line-at : goal.returns-then-line-at
returns-then-line-at c = λ e. absurd (true≢false (sym e))

pub returns : goal.returns
returns c = λ e. eqb-true _ _ e
