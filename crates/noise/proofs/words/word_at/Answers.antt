-- `noise::words::word_at` meets its contract.
use Rattle.noise.specs.Laws.Words.{both_first, both_second}
use Rattle.noise.proofs.words.word_at.Goals as goal

pub returns-then-at-words : goal.returns-then-at-words
returns-then-at-words c = both_first c.args.words.now c.args.more.now _ c.if-at-words.true

pub returns : goal.returns
returns c = both_second c.args.words.now c.args.more.now _ c.if-at-words.false
