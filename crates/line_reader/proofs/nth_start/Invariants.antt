-- `line_reader::nth_start` meets its contract: the lines left to pass, from where the reader is, are those that were to pass from the start. Assumes nothing.
use Rattle.std.proofs.Common.{◌≡◌}
use Rattle.line_reader.specs.Reading.{behind_lines}
use Rattle.line_reader.proofs.nth_start.Given as goal

abbrev pub invariant-loop-left : goal.invariant-loop-left
invariant-loop-left l = record {
  job : l.r.job.now ≡ l.job;
  place : behind_lines l.count l.job 0 ≡ behind_lines l.left l.job l.r.at;
}

abbrev pub decreases-loop-left : goal.decreases-loop-left
decreases-loop-left l = l.left
