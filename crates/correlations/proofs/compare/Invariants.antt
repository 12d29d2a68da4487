-- `correlations::compare` meets its contract. Assumes nothing.
use Prim.Native.Nat.{◌-◌}
use mathlib.Core.Path.{◌≡◌}
use lib.ListN.{length}
use Rattle.correlations.specs.Sizes.{table_of}
use Rattle.correlations.specs.Laws.Loops.{Comparing}
use Rattle.correlations.proofs.compare.Given as goal

abbrev pub invariant-loop-at : goal.invariant-loop-at
invariant-loop-at l = Comparing l.job l.number l.from l.k l.at (table_of l.seen l.sizes) × (length l.words ≡ 136)

abbrev pub decreases-loop-at : goal.decreases-loop-at
decreases-loop-at l = length l.job - l.at
