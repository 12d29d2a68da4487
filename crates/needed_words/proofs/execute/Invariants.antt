-- `needed_words::execute` meets its contract. Assumes nothing.
use Rattle.needed_words.specs.Laws.Going.{GoingFrom}
use Rattle.execution.specs.Steps.{lent_by}
use Rattle.totals.specs.Held.{TotalsHeld}
use Rattle.instructions.specs.Ahead.{instructions_at}
use mathlib.Core.List.{◌++◌}
use lib.ListN.{length}
use mathlib.Core.Path.{◌≡◌}
use Rattle.needed_words.proofs.execute.Given as goal

abbrev pub invariant-loop-place : goal.invariant-loop-place
invariant-loop-place l =
    (length l.elements ≡ 4096) × (length l.sums ≡ 64) × (length l.weights ≡ 64) × (length l.scratch ≡ 1984) × (length l.x ≡ length l.initial.x) × (length l.z ≡ length l.initial.z) × (length l.deltas ≡ length l.initial.deltas) × GoingFrom l.job l.shape (lent_by l.shape l.noiseless l.draws.second.now l.draws.base) (l.draws.main.now ++ l.draws.more.now) l.from l.initial.x l.initial.z l.initial.deltas l.x l.z l.deltas l.place × TotalsHeld l.shape.width l.shape.outcomes l.deltas l.totals × (length l.values ≡ 136)

abbrev pub decreases-loop-place : goal.decreases-loop-place
decreases-loop-place l =
    length (instructions_at l.job l.place.line l.place.byte)
