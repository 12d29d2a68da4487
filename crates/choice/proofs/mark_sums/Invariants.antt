-- `choice::mark_sums` meets its contract. The invariant: the sums before a place are those at entry, and from it on they are marked.
use mathlib.Core.Path.{◌≡◌}
use mathlib.Core.List.{◌++◌}
use Prim.Native.Nat.{◌≤◌}
use lib.ListN.{length, take, drop}
use Rattle.draws.specs.Known.{any_positive_of}
use Rattle.choice.specs.Choice.{marked_by}
use Rattle.choice.proofs.mark_sums.Given as goal

abbrev pub invariant-loop-i : goal.invariant-loop-i
invariant-loop-i l =
    (l.i ≤ length l.weights) × (length l.sums ≡ length l.weights) × (l.sums ≡ take l.i l.initial.sums ++ marked_by (drop l.i l.weights) (drop l.i l.initial.sums)) × (l.positive_behind ≡ any_positive_of (drop l.i l.weights))
