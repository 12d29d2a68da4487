-- `seed_words::jump` meets its contract. Assumes nothing.
use Rattle.stream.specs.Laws.Jump.{Jumping, by_1024, by_2048, by_3072}
use Rattle.seed_words.proofs.jump.Given as goal

abbrev pub invariant-loop-k : goal.invariant-loop-k
invariant-loop-k l =
    Jumping by_1024 l.state l.k l.second l.ahead × Jumping by_2048 l.state l.k l.third l.ahead × Jumping by_3072 l.state l.k l.fourth l.ahead
