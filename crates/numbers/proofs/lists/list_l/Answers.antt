-- `numbers::lists::list_l` meets its contract. Assumes nothing.
use mathlib.Core.Path.{sym, ◌∙◌}
use borrow.Author.Tests.{not-true, not-false}
use Rattle.numbers.specs.Laws.Lists.{none_read, empty_read, l_dash, l_list, only_bad, only_falling, only_rising_lem}
use Rattle.numbers.proofs.lists.list_l.Goals as goal

pub returns-then-is_dash : goal.returns-then-is_dash
returns-then-is_dash c = empty_read (l_dash _ (sym c.is_dash.ensures ∙ c.if-is_dash.true)) c.empty.ensures

pub returns-in_err-l : goal.returns-in_err-l
returns-in_err-l c =
    let plain = l_list c.args.s.now (sym c.is_dash.ensures ∙ c.if-is_dash.false) in
    rw c.from_residual.ensures (none_read (plain ∙ only_bad _ (rw (c.in_err-l.was) at c.list_q.ensures)))

pub returns-then-not-l : goal.returns-then-not-l
returns-then-not-l c =
    let plain = l_list c.args.s.now (sym c.is_dash.ensures ∙ c.if-is_dash.false) in
    none_read (plain ∙ only_falling _ (rw (c.in_ok-l.was) at c.list_q.ensures) (not-true _ c.if-not-l.true))

pub returns : goal.returns
returns c =
    let plain = l_list c.args.s.now (sym c.is_dash.ensures ∙ c.if-is_dash.false) in
    rw plain (only_rising_lem _ (rw (c.in_ok-l.was) at c.list_q.ensures) (not-false _ c.if-not-l.false))
