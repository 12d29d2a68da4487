-- `correlations::collect` meets its contract. Assumes nothing.
use Prim.Native.Nat.{◌-◌}
use mathlib.Core.Path.{◌≡◌}
use lib.ListN.{length}
use Rattle.correlations.specs.Rounds.{Collecting}
use Rattle.correlations.proofs.collect.Given as goal

abbrev pub invariant-loop-at : goal.invariant-loop-at
invariant-loop-at l = Collecting l.job l.number l.from l.k l.at l.n l.seen l.sizes l.links × (length l.seen ≡ length l.initial.seen) × (length l.sizes ≡ length l.initial.sizes) × (length l.links ≡ length l.initial.links) × (length l.words ≡ 136)

abbrev pub decreases-loop-at : goal.decreases-loop-at
decreases-loop-at l = length l.job - l.at
