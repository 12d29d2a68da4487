-- `made_lines::noise_lines::put_listed` meets its contract. Assumes nothing.
use Rattle.made_fields.specs.Laws.Made.{pick_below}
use Rattle.made_lines.specs.Laws.Elements.{listed_made}
use native.Mathlib.Omega.{arith}
use Rattle.made_lines.proofs.noise_lines.put_listed.Goals as goal

pub overflow_add-count : goal.overflow_add-count
overflow_add-count c = omega (arith, pick_below _ _ _ (omega arith) c.pick-n.ensures)

pub put_count-at-requires : goal.put_count-at-requires
put_count-at-requires c = omega (arith, (c.put_start-start.ensures c.args.h).near, c.requires.room)

pub end_line-first-requires : goal.end_line-first-requires
end_line-first-requires c = rw c.moved.ensures (omega (arith, c.put_count-at.ensures.1, (c.put_start-start.ensures c.args.h).near, c.requires.room))

pub put_elements-requires : goal.put_elements-requires
put_elements-requires c = (c.requires.qubits, omega (arith, pick_below _ _ _ (omega arith) c.pick-n.ensures), omega (arith, rw c.moved.ensures at c.end_line-first.ensures.near, c.put_count-at.ensures.1, (c.put_start-start.ensures c.args.h).near, c.requires.room))

pub returns : goal.returns
returns c = listed_made _ c.args.h (c.put_start-start.ensures c.args.h) c.pick-n.ensures c.put_count-at.ensures.0 c.moved.ensures c.end_line-first.ensures c.put_elements.ensures
