-- `line_reader::lines_left` meets its contract.
use native.Mathlib.Omega.{arith}
use borrow.Author.Tests.{lt-ltb, le-ltb}
use Rattle.line_reader.proofs.lines_left.Goals as goal

pub overflow_sub-result : goal.overflow_sub-result
overflow_sub-result c = omega arith

pub returns-then-at-size : goal.returns-then-at-size
returns-then-at-size c = rw (lt-ltb _ _ c.if-at-size.true)

pub returns : goal.returns
returns c = rw (le-ltb c.args.at c.args.size (omega arith))
