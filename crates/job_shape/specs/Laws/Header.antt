-- The header of an accepted job is its first line, and behind it its instructions begin. Laws. Assumes nothing.
use Rattle.std.specs.Prelude.{◌≡◌, List, ℕ}
use Rattle.std.proofs.Common.{sym, zero-add}
use Rattle.text.specs.Bytes.{LF, until}
use Rattle.job.specs.Job.{check_job}
use Rattle.job.proofs.Laws.Begun.{ended_parts, job_passes}
use Rattle.instructions.specs.Reading.{LineAt}
use Rattle.instructions.specs.Ahead.{Started}
use Rattle.instructions.specs.Laws.Places.{found_line}
use Rattle.instructions.specs.Laws.Steps.{started}

module _ (job : List ℕ) (passes : (check_job job).number ≡ 0) where
  pub header_line : LineAt job 0 (until LF job)
  header_line = let ended = (job_passes job passes).0 in found_line job 0 (until LF job) ended (ended_parts job ended).0 (sym (zero-add (until LF job)))

  pub header_started : Started job (until LF job)
  header_started = started job (until LF job) passes header_line
