-- `numbers::lists::list_c` meets its contract. Assumes nothing.
use native.Mathlib.Omega.{arith}
use mathlib.Core.Path.{sym, ap, ◌∙◌}
use mathlib.Core.List.{[]}
use mathlib.Core.Option.{none}
use Rattle.numbers.specs.declared.lists.Listed.{Listed}
use Rattle.text.specs.List.{one_member}
use Rattle.numbers.specs.Read.{listed_of}
use Rattle.numbers.specs.Laws.Read.{read_of, read_bad}
use Rattle.numbers.specs.Laws.Lists.{none_read, empty_read, c_dash, c_number, one_read}
use Rattle.numbers.proofs.lists.list_c.Goals as goal

pub returns-then-is_dash : goal.returns-then-is_dash
returns-then-is_dash c = empty_read (c_dash _ (sym c.is_dash.ensures ∙ c.if-is_dash.true)) c.empty.ensures

pub returns-in_err-n : goal.returns-in_err-n
unfolding one_member
returns-in_err-n c =
    let bad = sym c.number.ensures ∙ read_bad (c.in_err-n.was) in
    rw c.from_residual.ensures (none_read (c_number _ none (sym c.is_dash.ensures ∙ c.if-is_dash.false) bad))

pub push-requires : goal.push-requires
unfolding listed_of
push-requires c = omega (arith, ap (λ (x : Listed). x.count) c.empty-2.ensures)

pub returns : goal.returns
unfolding listed_of
returns c =
    let good = sym c.number.ensures ∙ read_of (c.in_ok-n.was) in
    let first = ap (λ (x : Listed). x.count) c.empty-2.ensures in
    one_read _ (sym c.is_dash.ensures ∙ c.if-is_dash.false) good (c.push.ensures.listed [] c.empty-2.ensures) (rw first at c.push.ensures.stored)
