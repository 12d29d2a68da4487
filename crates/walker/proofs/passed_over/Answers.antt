-- `walker::passed_over` meets its contract. Assumes nothing.
use mathlib.Core.Path.{sym}
use mathlib.Core.Bool.{true≢false}
use Rattle.walker.specs.Laws.Passed.{still_passed}
use Rattle.walker.proofs.passed_over.Goals as goal

pub returns-in-105 : goal.returns-in-105
returns-in-105 c = λ e. c.other_shot.ensures e c.if-line-ne111.false c.in-105.is

pub returns-in_default : goal.returns-in_default
returns-in_default c = λ e. absurd (true≢false (sym e))

pub returns-in-112 : goal.returns-in-112
returns-in-112 c = λ e v reads. still_passed _ _ v c.if-line-ne111.false reads c.in-112.is

pub returns-then-line-lt-LETTER_END : goal.returns-then-line-lt-LETTER_END
returns-then-line-lt-LETTER_END c = λ e. absurd (true≢false (sym e))
