-- `made_lines::put_instruction` meets its contract. Assumes nothing.
use native.Mathlib.Omega.{arith}
use Rattle.made_fields.specs.Laws.Made.{pick_below}
use Rattle.made_lines.specs.Laws.Standing.{ring_some, ring_most, instruction_made}
use Rattle.made_lines.proofs.put_instruction.Goals as goal

pub pick-place-requires : goal.pick-place-requires
pick-place-requires c = omega (arith, ring_some c.args.h c.args.m.recorded, c.ring_length.ensures c.args.m.recorded)

pub kind_at-requires : goal.kind_at-requires
kind_at-requires c =
    let long = c.ring_length.ensures c.args.m.recorded in
    let below = pick_below _ _ _ (omega (arith, ring_some c.args.h c.args.m.recorded, long)) c.pick-place.ensures in
    omega (arith, below, long, ring_most c.args.h c.args.m.recorded)

pub standing-kind-requires : goal.standing-kind-requires
standing-kind-requires c =
    let long = c.ring_length.ensures c.args.m.recorded in
    let below = pick_below _ _ _ (omega (arith, ring_some c.args.h c.args.m.recorded, long)) c.pick-place.ensures in
    rw c.kind_at.ensures (omega (arith, below, long))

pub returns : goal.returns
returns c = instruction_made c.args.h (c.ring_length.ensures c.args.m.recorded) c.pick-place.ensures (rw c.kind_at.ensures at c.standing-kind.ensures) c.moved.ensures c.put_kind.ensures
