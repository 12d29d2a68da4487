-- `execution::apply_noise` meets its contract. Assumes nothing.
use mathlib.Core.List.{◌++◌}
use lib.ListN.{length, length-append}
use Prim.Native.Nat.{◌^◌, ◌<◌}
use Rattle.execution.specs.Laws.Noise.{few_lines, line_small, faults_ready, noise_quiet, read_fits, all_fits, noise_drawn, noise_none}
use Rattle.noise.specs.Laws.Words.{part_both}
use lib.Seq.{length-take-le}
use mathlib.Core.Path.{refl, sym}
use native.Mathlib.Omega.{arith}
use Rattle.execution.proofs.apply_noise.Goals as goal

pub prepare-ready-requires : goal.prepare-ready-requires
prepare-ready-requires c =
    let room = c.requires.1 in (
      c.requires.0.lines,
      record { of_values = room.of_values; of_elements = room.of_elements; of_sums = room.of_sums; of_weights = room.of_weights; of_mask = room.of_mask },
    )

pub overflow_add-next : goal.overflow_add-next
overflow_add-next c = record { fits = omega (arith, line_small _ _ c.prepare-ready.ensures c.requires.0, c.well_formed) }

pub overflow_add-next-2 : goal.overflow_add-next-2
overflow_add-next-2 c = record { fits = omega (arith, line_small _ _ c.prepare-ready.ensures c.requires.0, c.well_formed) }

pub returns-then-fault : goal.returns-then-fault
returns-then-fault c = noise_quiet _ _ _ _ _ _ c.prepare-ready.ensures c.requires.2 _ _ c.if-fault.true

pub slice_bounds-inject_faults-end : goal.slice_bounds-inject_faults-end
slice_bounds-inject_faults-end c = omega (arith, few_lines _ _ c.prepare-ready.ensures c.requires.0, c.prepare-ready.auto, c.requires.1.of_sums)

pub slice_bounds-inject_faults-end-2 : goal.slice_bounds-inject_faults-end-2
slice_bounds-inject_faults-end-2 c = sym (length-take-le _ _ (omega (arith, few_lines _ _ c.prepare-ready.ensures c.requires.0, c.prepare-ready.auto, c.requires.1.of_sums)))

pub inject_faults-drawn-requires : goal.inject_faults-drawn-requires
inject_faults-drawn-requires c =
    faults_ready _ _ c.prepare-ready.ensures c.requires.0 c.requires.1 (omega (arith, c.prepare-ready.auto, c.requires.1.of_elements)) (omega (arith, c.prepare-ready.auto, c.requires.1.of_mask))

pub position_after-requires : goal.position_after-requires
position_after-requires c =
    let small : length (c.args.draws.main.now ++ c.args.draws.more.now) < 2 ^ 64 = omega (arith, length-append c.args.draws.main.now c.args.draws.more.now, c.well_formed) in
    all_fits c.args.place _ c.args.shape _ _ _ c.prepare-ready.ensures c.requires.2 _ (part_both _ _ c.args.draws.main.now c.args.draws.more.now _ _ _ (c.part-words.ensures _ refl refl) c.more_part-more_words.ensures) c.if-fault.false _ _ _ _ c.inject_faults-drawn.ensures small _ c.count.ensures

pub shape_of-elements-in_default : goal.shape_of-elements-in_default
shape_of-elements-in_default c = omega (arith, c.prepare-ready.auto, c.inject_faults-drawn.auto)

pub shape_of-sums-in_default : goal.shape_of-sums-in_default
shape_of-sums-in_default c = omega (arith, c.prepare-ready.auto, c.inject_faults-drawn.auto)

pub shape_of-weights-in_default : goal.shape_of-weights-in_default
shape_of-weights-in_default c = omega (arith, c.prepare-ready.auto, c.inject_faults-drawn.auto)

pub shape_of-mask-in_default : goal.shape_of-mask-in_default
shape_of-mask-in_default c = omega (arith, c.prepare-ready.auto, c.inject_faults-drawn.auto)

pub shape_of-x-in_default : goal.shape_of-x-in_default
shape_of-x-in_default c = omega (arith, c.prepare-ready.auto, c.inject_faults-drawn.auto)

pub shape_of-z-in_default : goal.shape_of-z-in_default
shape_of-z-in_default c = omega (arith, c.prepare-ready.auto, c.inject_faults-drawn.auto)

pub returns-in_default : goal.returns-in_default
returns-in_default c =
    noise_none _ _ _ _ _ _ c.prepare-ready.ensures c.requires.2 _ (part_both _ _ c.args.draws.main.now c.args.draws.more.now _ _ _ (c.part-words.ensures _ refl refl) c.more_part-more_words.ensures) c.if-fault.false _ _ _ _ c.inject_faults-drawn.ensures _ _ c.in_default.is c.count.ensures c.position_after.ensures

pub position_after-requires-2 : goal.position_after-requires-2
position_after-requires-2 c =
    let small : length (c.args.draws.main.now ++ c.args.draws.more.now) < 2 ^ 64 = omega (arith, length-append c.args.draws.main.now c.args.draws.more.now, c.well_formed) in
    read_fits _ _ _ _ _ _ c.prepare-ready.ensures c.requires.2 _ (part_both _ _ c.args.draws.main.now c.args.draws.more.now _ _ _ (c.part-words.ensures _ refl refl) c.more_part-more_words.ensures) c.if-fault.false _ _ _ _ c.inject_faults-drawn.ensures c.requires.0 small _ c.in-Some.is

pub shape_of-elements : goal.shape_of-elements
shape_of-elements c = omega (arith, c.prepare-ready.auto, c.inject_faults-drawn.auto)

pub shape_of-sums : goal.shape_of-sums
shape_of-sums c = omega (arith, c.prepare-ready.auto, c.inject_faults-drawn.auto)

pub shape_of-weights : goal.shape_of-weights
shape_of-weights c = omega (arith, c.prepare-ready.auto, c.inject_faults-drawn.auto)

pub shape_of-mask : goal.shape_of-mask
shape_of-mask c = omega (arith, c.prepare-ready.auto, c.inject_faults-drawn.auto)

pub shape_of-x : goal.shape_of-x
shape_of-x c = omega (arith, c.prepare-ready.auto, c.inject_faults-drawn.auto)

pub shape_of-z : goal.shape_of-z
shape_of-z c = omega (arith, c.prepare-ready.auto, c.inject_faults-drawn.auto)

pub returns : goal.returns
returns c =
    noise_drawn _ _ _ _ _ _ c.prepare-ready.ensures c.requires.2 _ (part_both _ _ c.args.draws.main.now c.args.draws.more.now _ _ _ (c.part-words.ensures _ refl refl) c.more_part-more_words.ensures) c.if-fault.false _ _ _ _ c.inject_faults-drawn.ensures _ _ c.in-Some.is c.position_after-2.ensures
