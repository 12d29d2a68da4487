-- `numbers::pieces::find_far` meets its contract. Assumes nothing.
use Rattle.numbers.specs.Laws.Pieces.{search_on}
use Rattle.numbers.proofs.pieces.find_far.Goals as goal

pub find-requires : goal.find-requires
find-requires c = c.pass_blocks.ensures.2

pub returns : goal.returns
returns c =
    let passed = c.pass_blocks.ensures in
    let f = search_on (record { onward = passed.1; within = passed.2; same = passed.0 }) (c.find.ensures.value, c.find.ensures.lower_bound) in
    record { value = f.0; lower_bound = f.1 }
