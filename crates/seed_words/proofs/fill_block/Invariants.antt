-- `seed_words::fill_block` meets its contract. Assumes nothing.
use Rattle.stream.specs.Laws.Block.{Chains}
use Rattle.seed_words.proofs.fill_block.Given as goal

abbrev pub invariant-loop-i : goal.invariant-loop-i
invariant-loop-i l = Chains l.state l.words l.a l.b l.c l.d l.i
