-- `faults::prepare` meets its contract.
use lib.Seq.{take_at, length-take-le}
use Rattle.faults.specs.Laws.Prepared.{few_lines, condition_room, prepared}
use lib.ListN.{length}
use mathlib.Core.Path.{◌≡◌, sym}
use native.Mathlib.Omega.{arith}
use Rattle.faults.proofs.prepare.Goals as goal

pub slice_bounds-read_fault-end : goal.slice_bounds-read_fault-end
slice_bounds-read_fault-end c = let q = c.requires.0 in omega (arith, few_lines q _ (c.element_lines-element_lines.ensures _ _ q.said), c.requires.1.of_sums)

pub slice_bounds-read_fault-end-2 : goal.slice_bounds-read_fault-end-2
slice_bounds-read_fault-end-2 c =
    let q = c.requires.0 in sym (length-take-le _ _ (omega (arith, few_lines q _ (c.element_lines-element_lines.ensures _ _ q.said), c.requires.1.of_sums)))

pub slice_bounds-read_fault-end-3 : goal.slice_bounds-read_fault-end-3
slice_bounds-read_fault-end-3 c = let q = c.requires.0 in omega (arith, few_lines q _ (c.element_lines-element_lines.ensures _ _ q.said), c.requires.1.of_weights)

pub slice_bounds-read_fault-end-4 : goal.slice_bounds-read_fault-end-4
slice_bounds-read_fault-end-4 c = let q = c.requires.0 in sym (length-take-le _ _ (omega (arith, few_lines q _ (c.element_lines-element_lines.ensures _ _ q.said), c.requires.1.of_weights)))

pub read_fault-ready-requires : goal.read_fault-ready-requires
read_fault-ready-requires c =
    let q = c.requires.0 in
    let few = few_lines q _ (c.element_lines-element_lines.ensures _ _ q.said) in (
      record { noiseless = _; width = _; lines = q; count = c.element_lines-element_lines.ensures },
      record {
        of_values = c.requires.1.of_values;
        of_elements = c.requires.1.of_elements;
        of_sums = length-take-le _ _ (omega (arith, few, c.requires.1.of_sums));
        of_weights = length-take-le _ _ (omega (arith, few, c.requires.1.of_weights));
      },
    )

pub satisfied_shots-requires : goal.satisfied_shots-requires
satisfied_shots-requires c =
    let room = condition_room c.requires.0 (c.read_fault-ready.ensures _ _ c.requires.0).fault in (room.0, room.1, c.requires.1.of_mask)

pub returns : goal.returns
returns c =
    λ q.
    let lines = c.element_lines-element_lines.ensures _ _ q.said in
    let read = c.read_fault-ready.ensures _ _ q in
    let sized = length-take-le c.element_lines-element_lines.result c.args.sums.now (omega (arith, few_lines q _ lines, c.requires.1.of_sums)) in
    let long : length c.read_fault-ready.new.sums ≡ c.read_fault-ready.result.element_lines = omega (arith, sized, c.read_fault-ready.auto, read.lines, q.count, lines) in
    prepared q read (take_at _ _ _ long) _ c.satisfied_shots.ensures
