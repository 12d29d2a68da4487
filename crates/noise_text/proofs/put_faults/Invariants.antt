-- `noise_text::put_faults` meets its contract. The invariant: the injections of some faults are put, and the others are drawn from here on. Assumes nothing.
use Rattle.noise_text.specs.Laws.Injections.{Putting}
use Rattle.noise_text.specs.Injections.{Ready}
use mathlib.Core.List.{◌++◌}
use lib.ListN.{length}
use Prim.Native.Nat.{◌+◌, ◌-◌, ◌*◌, ◌≤◌}
use mathlib.Core.Path.{◌≡◌}
use Rattle.noise_text.proofs.put_faults.Given as goal

abbrev pub invariant-loop-position : goal.invariant-loop-position
invariant-loop-position l =
    (l.at ≤ length (l.words ++ l.more))
    × (l.shot ≤ l.shots)
    × (l.next ≤ l.text + 1342 * l.shot)
    × (length l.out ≡ length l.initial.out)
    × ((q : Ready l.p l.distribution l.sums l.mask l.elements l.shots) → Putting q (l.words ++ l.more) l.text l.initial.out l.at l.shot l.next l.out)

abbrev pub decreases-loop-position : goal.decreases-loop-position
decreases-loop-position l = l.shots - l.shot
