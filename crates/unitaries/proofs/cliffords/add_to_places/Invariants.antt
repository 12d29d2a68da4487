-- `unitaries::cliffords::add_to_places` meets its contract: what is left, from place i on, comes to the whole.
use Rattle.unitaries.specs.Laws.Images.{PlacesLeft}
use Prim.Native.Nat.{◌-◌}
use mathlib.Core.Path.{◌≡◌}
use lib.ListN.{length}
use Rattle.unitaries.proofs.cliffords.add_to_places.Given as goal

abbrev pub invariant-loop-i : goal.invariant-loop-i
invariant-loop-i l = PlacesLeft l.w l.places l.qubits l.saved l.initial.rows l.i l.rows × (length l.rows ≡ length l.initial.rows)
