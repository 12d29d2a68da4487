-- `noise::words::part` meets its contract.
use Rattle.noise.specs.Laws.Words.{part_main, part_second}
use Rattle.noise.proofs.words.part.Goals as goal

pub returns-in-None : goal.returns-in-None
returns-in-None c = λ lent s b. part_main _ _ _ _ c.in-None.is c.tail.ensures

pub returns-in-Some : goal.returns-in-Some
returns-in-Some c =
    λ lent s b.
    part_second _ _ _ _ _ _ _ c.in-Some.is s b
    c.tail-in-Some.ensures
