-- `faults::elements::gather` meets its contract. The invariant: the first e elements were read and kept.
use Rattle.faults.specs.Prepared.{ElementLines, Gathered}
use lib.ListN.{length}
use mathlib.Core.Path.{◌≡◌}
use Prim.Native.Nat.{◌≤◌}
use Rattle.faults.proofs.elements.gather.Given as goal

abbrev pub invariant-loop-e : goal.invariant-loop-e
invariant-loop-e l =
    (l.e ≤ l.n)
    × (length l.elements ≡ length l.initial.elements)
    × (length l.weights ≡ l.n)
    × (l.n ≡ 0 → l.elements ≡ l.initial.elements)
    × ((q : ElementLines l.job l.from l.n l.weighted) → Gathered q l.elements l.weights l.at l.e)
    × (length l.words ≡ 136)
