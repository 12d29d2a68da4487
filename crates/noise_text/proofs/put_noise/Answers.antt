-- `noise_text::put_noise` meets its contract. Assumes nothing.
use mathlib.Core.List.{[], ◌++◌}
use lib.ListN.{length, length-append}
use Prim.Native.Nat.{◌^◌, ◌<◌}
use Rattle.noise.specs.Laws.Words.{part_both}
use Rattle.noise_text.specs.Laws.Injections.{no_draws, all_fits, spent_draws, read_fits, done_draws}
use native.Mathlib.Omega.{arith}
use Rattle.noise_text.proofs.put_noise.Goals as goal

pub returns-then-fault : goal.returns-then-fault
returns-then-fault c = λ q source. no_draws q source _ _ c.requires.1 c.if-fault.true

pub put_faults-requires : goal.put_faults-requires
put_faults-requires c = (c.requires.0, c.requires.2.ready)

pub position_after-requires : goal.position_after-requires
position_after-requires c =
    let q = c.requires.2 in
    let small : length (c.args.draws.main.now ++ c.args.draws.more.now) < 2 ^ 64 = omega (arith, length-append c.args.draws.main.now c.args.draws.more.now) in
    all_fits q [] _ _ c.requires.1 _ c.if-fault.false (part_both q.ready.lent _ c.args.draws.main.now c.args.draws.more.now _ _ _ (c.part-words.ensures q.ready.lent q.second_is q.base_is) c.more_part-more_words.ensures) (c.put_faults.ensures q.ready) c.in-Err.is small

pub position_after-requires-in-Ok : goal.position_after-requires-in-Ok
position_after-requires-in-Ok c =
    let q = c.requires.2 in
    let small : length (c.args.draws.main.now ++ c.args.draws.more.now) < 2 ^ 64 = omega (arith, length-append c.args.draws.main.now c.args.draws.more.now) in
    read_fits q [] _ _ c.requires.1 _ c.if-fault.false (part_both q.ready.lent _ c.args.draws.main.now c.args.draws.more.now _ _ _ (c.part-words.ensures q.ready.lent q.second_is q.base_is) c.more_part-more_words.ensures) (c.put_faults.ensures q.ready) c.in-Ok.is small

pub shape_of-out-in-Err : goal.shape_of-out-in-Err
shape_of-out-in-Err c = c.put_faults.auto.out

pub returns-in-Err : goal.returns-in-Err
returns-in-Err c = λ q source. rw c.position_after.ensures (spent_draws q source _ _ c.requires.1 _ c.if-fault.false (part_both q.ready.lent _ c.args.draws.main.now c.args.draws.more.now _ _ _ (c.part-words.ensures q.ready.lent q.second_is q.base_is) c.more_part-more_words.ensures) (c.put_faults.ensures q.ready) c.in-Err.is)

pub shape_of-out-in-Ok : goal.shape_of-out-in-Ok
shape_of-out-in-Ok c = c.put_faults.auto.out

pub returns-in-Ok : goal.returns-in-Ok
returns-in-Ok c = λ q source. rw c.position_after-in-Ok.ensures (done_draws q source _ _ c.requires.1 _ c.if-fault.false (part_both q.ready.lent _ c.args.draws.main.now c.args.draws.more.now _ _ _ (c.part-words.ensures q.ready.lent q.second_is q.base_is) c.more_part-more_words.ensures) (c.put_faults.ensures q.ready) c.in-Ok.is)
