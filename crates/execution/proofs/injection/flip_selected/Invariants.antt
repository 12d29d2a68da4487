-- `execution::injection::flip_selected` meets its contract. Assumes nothing.
use Rattle.rows.specs.Listed.{over_list}
use Rattle.rows.specs.Overwrite.{flipped}
use Rattle.draws.specs.Draws.{selected}
use lib.ListN.{length, drop}
use mathlib.Core.Path.{◌≡◌}
use Rattle.execution.proofs.injection.flip_selected.Given as goal

abbrev pub invariant-loop-q : goal.invariant-loop-q
invariant-loop-q l =
    (over_list (flipped l.width l.shot.0) (selected l.left (drop l.q-index l.qubits)) l.rows ≡ over_list (flipped l.width l.shot.0) (selected l.bits l.qubits) l.initial.rows)
    × (length l.rows ≡ length l.initial.rows)
