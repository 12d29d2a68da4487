-- `checker::all_lines` meets its contract: so many lines were read, and the rest is left. Assumes nothing.
use Rattle.std.proofs.Common.{◌≡◌, ◌-◌, length}
use Rattle.checker.specs.Laws.Job.{Left}
use Rattle.checker.proofs.all_lines.Given as goal

abbrev pub invariant-loop-r : goal.invariant-loop-r
invariant-loop-r l = record {
  job : l.r.job.now ≡ l.job;
  left : Left l.job l.context l.r.at l.lines;
}

abbrev pub decreases-loop-r : goal.decreases-loop-r
decreases-loop-r l = length l.job - l.r.at
