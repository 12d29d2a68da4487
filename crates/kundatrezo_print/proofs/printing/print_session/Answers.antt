-- `kundatrezo_print::printing::print_session` meets its contract. Assumes nothing.
use mathlib.Core.Path.{sym, ◌∙◌}
use borrow.Author.Tests.{not-true, not-false}
use Rattle.kundatrezo_print.specs.Laws.Printed.{long_input, refused_input, large_input, small_input, run_input}
use Rattle.kundatrezo_print.proofs.printing.print_session.Goals as goal

pub returns-then-input-gt-MAX_BYTES : goal.returns-then-input-gt-MAX_BYTES
returns-then-input-gt-MAX_BYTES c = long_input _ c.if-input-gt-MAX_BYTES.true c.too_large.ensures c.put_refusal.ensures

pub returns-then-answer-ne0 : goal.returns-then-answer-ne0
returns-then-answer-ne0 c = refused_input c.examine-e.ensures c.if-input-gt-MAX_BYTES.false c.if-answer-ne0.true c.put_refusal-then-answer-ne0.ensures

pub returns-then-not-is_small : goal.returns-then-not-is_small
returns-then-not-is_small c = large_input c.examine-e.ensures c.if-input-gt-MAX_BYTES.false c.if-answer-ne0.false (sym c.is_small.ensures ∙ c.if-not-is_small.true) c.too_large-then-not-is_small.ensures c.put_refusal-then-not-is_small.ensures

pub put_reply-requires : goal.put_reply-requires
put_reply-requires c = small_input c.examine-e.ensures c.if-answer-ne0.false (sym c.is_small.ensures ∙ c.if-not-is_small.false)

pub returns : goal.returns
returns c = run_input c.examine-e.ensures c.if-input-gt-MAX_BYTES.false c.if-answer-ne0.false (sym c.is_small.ensures ∙ c.if-not-is_small.false) c.put_reply.ensures
