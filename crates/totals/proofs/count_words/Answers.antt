use Rattle.std.proofs.Common.{refl, sym, arith, ◌+◌, ◌*◌}
use Rattle.rows.specs.Words.{bit_in}
use Rattle.totals.specs.Ones.{ones_to}
use Rattle.totals.specs.Laws.Ones.{ones_few, word_next}
use Rattle.totals.proofs.count_words.Goals as goal

pub loop-word-init : goal.loop-word-init
unfolding ones_to
loop-word-init c = refl

pub overflow_add-ones : goal.overflow_add-ones
overflow_add-ones c =
    let words = c.args.words.now in
    let j = c.loop-word.word-index in
    record { fits = omega (arith, word_next words j (c.type_inv.words j).fits, ones_few (64 * (j + 1)) (bit_in 1 words 0)) }

pub loop-word-preserved : goal.loop-word-preserved
loop-word-preserved c = rw c.loop-word.invariant (sym (word_next _ _ (c.type_inv.words c.loop-word.word-index).fits))
