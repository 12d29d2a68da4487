-- `by_shot::rearrange` meets its contract.
use Rattle.std.proofs.Common.{sym, ◌∙◌, ◌*◌}
use lib.Seq.{length-take-le}
use Rattle.rows.specs.Words.{words_per_row}
use Rattle.by_shot.specs.Laws.Block.{room_exact}
use Rattle.by_shot.specs.Laws.Reply.{too_few, both_enough, long_reply, words_few}
use Rattle.by_shot.proofs.rearrange.Goals as goal

pub returns-then-not-enough_words : goal.returns-then-not-enough_words
returns-then-not-enough_words c = rw c.refused.ensures (too_few _ _ _ _ (sym c.enough_words.ensures ∙ c.if-not-enough_words.true))

pub overflow_mul-needed : goal.overflow_mul-needed
overflow_mul-needed c = record { fits = rw c.words_per_row.ensures (words_few _ _ c.requires.1 c.requires.0) }

pub slice_bounds-transpose-end : goal.slice_bounds-transpose-end
slice_bounds-transpose-end c = rw c.words_per_row.ensures ((both_enough _ _ _ _ (sym c.enough_words.ensures ∙ c.if-not-enough_words.false)).1)

pub slice_bounds-transpose-end-2 : goal.slice_bounds-transpose-end-2
slice_bounds-transpose-end-2 c =
    rw c.words_per_row.ensures (sym (length-take-le _ _ ((both_enough _ _ _ _ (sym c.enough_words.ensures ∙ c.if-not-enough_words.false)).1)))

pub transpose-requires : goal.transpose-requires
transpose-requires c =
    let enough = both_enough _ _ _ _ (sym c.enough_words.ensures ∙ c.if-not-enough_words.false) in
    let exact = length-take-le (c.args.columns * words_per_row c.args.rows) c.args.target.now enough.1 in
    rw c.words_per_row.ensures (room_exact _ _ _ _ c.requires.0 c.requires.1 enough.0 exact, exact)

pub returns : goal.returns
returns c = rw c.words_per_row.ensures (long_reply _ _ _ _ _ (sym c.enough_words.ensures ∙ c.if-not-enough_words.false) c.transpose.ensures)
