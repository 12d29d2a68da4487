-- `settling::put_settled` meets its contract. The invariant: behind the header some lines are put, and the others come from the instructions from
use Rattle.settling.specs.Laws.Pass.{Going}
use Rattle.settling.specs.Pass.{pass_of}
use lib.ListN.{length}
use Prim.Native.Nat.{◌+◌, ◌-◌}
use mathlib.Core.Path.{◌≡◌}
use mathlib.Core.List.{◌++◌}
use Rattle.settling.proofs.put_settled.Given as goal

abbrev pub invariant-loop-here : goal.invariant-loop-here
invariant-loop-here l =
    Going (pass_of l.job l.shape l.noiseless (l.draws.main.now ++ l.draws.more.now) l.draws.second.now l.draws.base) l.text l.initial.out l.here l.out × (length l.out ≡ length l.initial.out) × (length l.elements ≡ 4096) × (length l.sums ≡ 64) × (length l.weights ≡ 64) × (length l.mask ≡ 64) × (length l.values ≡ 136)

abbrev pub decreases-loop-here : goal.decreases-loop-here
decreases-loop-here l = length l.job + 2 - l.here.place.line
