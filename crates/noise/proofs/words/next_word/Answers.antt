-- `noise::words::next_word` meets its contract.
use Rattle.std.proofs.Common.{arith, length-append}
use Rattle.noise.specs.Laws.Words.{both_first, both_second, word_there, words_ended}
use Rattle.noise.proofs.words.next_word.Goals as goal

pub returns-then-at-words : goal.returns-then-at-words
returns-then-at-words c =
    let a = c.args in
    word_there (omega (arith, length-append a.words.now a.more.now)) (both_first a.words.now a.more.now _ c.if-at-words.true)

pub returns-then-i-more : goal.returns-then-i-more
returns-then-i-more c =
    let a = c.args in
    word_there (omega (arith, length-append a.words.now a.more.now)) (both_second a.words.now a.more.now _ c.if-at-words.false)

pub returns : goal.returns
returns c =
    let a = c.args in
    words_ended (omega (arith, length-append a.words.now a.more.now))
