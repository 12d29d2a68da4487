use mathlib.Core.Path.{refl, sym, ◌∙◌}
use native.Mathlib.Omega.{arith}
use lib.ListN.{length-append}
use borrow.Author.Tests.{lt-ltb, le-ltb}
use Rattle.noise.specs.Laws.Words.{word_read, none_read}
use Rattle.choice.specs.Laws.Choice.{chose, chose_none, below_limit, choose_takes, choose_rejects, choose_ends}
use Rattle.choice.proofs.choose_uniform.Goals as goal

pub loop-word-init : goal.loop-word-init
loop-word-init c = refl

pub overflow_add-i : goal.overflow_add-i
overflow_add-i c =
    let a = c.args in
    omega (arith, (word_read c.next_word.ensures c.in_ok-word.was).0, length-append a.words.now a.more.now, c.well_formed)

pub nonzero_rem-result : goal.nonzero_rem-result
nonzero_rem-result c = below_limit _ _ _ c.requires c.if-word-limit.true

pub returns-then-word-limit : goal.returns-then-word-limit
returns-then-word-limit c =
    let read = word_read c.next_word.ensures c.in_ok-word.was in
    chose _ _ (sym c.loop-word.invariant ∙ choose_takes _ _ _ _ _ c.requires read.1 read.0 (lt-ltb _ _ c.if-word-limit.true)) (omega (arith, read.0))

pub loop-word-smaller : goal.loop-word-smaller
loop-word-smaller c = omega (arith, (word_read c.next_word.ensures c.in_ok-word.was).0)

pub loop-word-preserved : goal.loop-word-preserved
loop-word-preserved c =
    let read = word_read c.next_word.ensures c.in_ok-word.was in
    sym (choose_rejects _ _ _ _ _ c.requires read.1 read.0 (le-ltb _ _ c.if-word-limit.false)) ∙ c.loop-word.invariant

pub returns-in_err-word : goal.returns-in_err-word
returns-in_err-word c = rw c.from_residual.ensures (chose_none (sym c.loop-word.invariant ∙ choose_ends _ _ _ (none_read c.next_word.ensures c.in_err-word.was)))
