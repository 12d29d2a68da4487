-- `gate_text::is_gate` meets its contract. Assumes nothing.
use mathlib.Core.Path.{sym}
use mathlib.Core.Bool.{true≢false}
use borrow.Author.Tests.{eqb-true}
use Rattle.gate_text.proofs.is_gate.Goals as goal

pub returns-then-line-lt-LETTER_END : goal.returns-then-line-lt-LETTER_END
returns-then-line-lt-LETTER_END c = λ e. absurd (true≢false (sym e))

pub returns-then-line-ne111 : goal.returns-then-line-ne111
returns-then-line-ne111 c = λ e. absurd (true≢false (sym e))

pub returns : goal.returns
returns c = λ e. record { first = c.if-line-ne111.false; letter = eqb-true _ _ e }
