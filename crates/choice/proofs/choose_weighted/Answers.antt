-- `choice::choose_weighted` meets its contract.
use mathlib.Core.Path.{ap, ◌∙◌}
use native.Mathlib.Omega.{arith}
use lib.ListN.{length-append}
use lib.Ieee.{Float}
use Rattle.draws.specs.Known.{rust_place}
use Rattle.noise.specs.Laws.Words.{word_read, none_read}
use Rattle.choice.specs.Laws.Choice.{weighed, weighed_none}
use Rattle.choice.proofs.choose_weighted.Goals as goal

pub overflow_add-result : goal.overflow_add-result
overflow_add-result c =
    let a = c.args in
    omega (arith, (word_read c.next_word.ensures c.in_ok-word.was).0, length-append a.words.now a.more.now, c.well_formed)

pub returns : goal.returns
returns c =
    let a = c.args in
    let read = word_read c.next_word.ensures c.in_ok-word.was in
    weighed a.at read.0 _ read.1 (omega arith) _ (c.element_by.ensures ∙ ap (λ (u : Float). rust_place u a.sums.now) c.unit.ensures)

pub returns-in_err-word : goal.returns-in_err-word
returns-in_err-word c = rw c.from_residual.ensures (weighed_none _ (none_read c.next_word.ensures c.in_err-word.was))
