-- `walker::text_back` meets its contract. Assumes nothing.
use native.Mathlib.Omega.{arith}
use Rattle.walker.specs.Laws.Going.{readable, read_back, passed_back}
use Rattle.walker.proofs.text_back.Goals as goal

pub returns-then-passed_over : goal.returns-then-passed_over
returns-then-passed_over c = passed_back (c.passed_over.ensures c.if-passed_over.true) c.requires.1

pub line_back-requires : goal.line_back-requires
line_back-requires c = (readable c.requires.0 c.read_line-form.ensures (omega (arith, c.requires.3, c.passed_over.auto, c.read_line-form.auto)), c.requires.1, c.requires.2)

pub returns : goal.returns
returns c = read_back c.read_line-form.ensures (omega (arith, c.requires.3, c.passed_over.auto, c.read_line-form.auto)) c.line_back.ensures
