-- Definitions. The whole reply of an examination: the numbers of an accepted job. Assumes nothing.
use Rattle.std.specs.Prelude.{ℕ, cond, List, eqb, length}
use Rattle.text.specs.Bytes.{lines}
use Rattle.job.specs.declared.Answer.{Answer}
use Rattle.job.specs.Job.{accepted, check_job, Job, job_of, recorded_in}
use Rattle.examination.specs.declared.Examination.{Examination}

-- the header's numbers, the outcomes that the instructions record, and the lines
abbrev pub numbers_of : Job → ℕ → Examination
numbers_of j n =
    record {
      answered = accepted;
      qubits = j.header.qubits;
      outcomes = j.header.outcomes;
      shots = j.header.shots;
      recorded = recorded_in j.instructions;
      lines = n;
    }

abbrev pub refused_numbers : Answer → Examination
refused_numbers a = record { answered = a; qubits = 0; outcomes = 0; shots = 0; recorded = 0; lines = 0 }

-- The tests of a job.
unfoldable pub examine_reply : List ℕ → Examination
examine_reply job =
    let found = numbers_of (job_of job) (length (lines job)) in
    cond (eqb (check_job job).number 0) found (refused_numbers (check_job job))
