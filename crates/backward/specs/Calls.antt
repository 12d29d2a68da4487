-- Definitions. What theorems about the calls together speak of. Assumes nothing.
use Rattle.std.specs.Prelude.{◌≡◌, true, List, ℕ, ◌<◌}
use Rattle.pauli.specs.Bits.{members}
use Rattle.job.specs.declared.Header.{Header}
use Rattle.job.specs.Line.{Line}
use Rattle.job.specs.Job.{job_of}
use Rattle.frames.specs.Forward.{State, setting_of}
use Rattle.draws.specs.Settle.{SettledLine, Settled, settle, settled_list}
use Rattle.draws.specs.Known.{noise_free}
use Rattle.rows.specs.Words.{words_per_row, bit_in}
use Rattle.run.specs.Run.{Source, Memory, lent_of, run_reply}
use Rattle.backward.specs.Walk.{walk}
use Rattle.backward.specs.Walking.{plain_lines}

-- what a job settles to with what draws are taken from
abbrev pub settling_of : List ℕ → Source → Settled
settling_of job s = settle (lent_of (job_of job).header s) (job_of job).instructions s.main

-- the count of the walk of some lines, for a shot of a job and a set
abbrev pub count_of : List ℕ → List SettledLine → ℕ → List ℕ → ℕ
count_of job ls shot set = (walk (setting_of (job_of job).header shot) (settled_list ls) (members set)).count

-- the bits of a shot in the words that a run leaves
abbrev pub shot_bits : List ℕ → Memory → ℕ → State
shot_bits job m shot =
    let w = words_per_row (job_of job).header.shots in
    record {
      frame = record { x = λ q. bit_in w (run_reply job m).x q shot; z = λ q. bit_in w (run_reply job m).z q shot };
      deltas = λ id. bit_in w (run_reply job m).deltas id shot;
    }

-- two states that have the same bits of the header's qubits and outcomes
pub record SameBits (h : Header) (s t : State) : Type 0 where
  pub x : (q : ℕ) → q < h.qubits → s.frame.x q ≡ t.frame.x q
  pub z : (q : ℕ) → q < h.qubits → s.frame.z q ≡ t.frame.z q
  pub deltas : (id : ℕ) → id < h.outcomes → s.deltas id ≡ t.deltas id

-- a job without noise, run to its end, with this header and these lines
pub record RanQuiet (job : List ℕ) (m : Memory) (h : Header) (ls : List Line) : Type 0 where
  pub answered : (run_reply job m).answered.number ≡ 0
  pub quiet : noise_free (job_of job).instructions ≡ true
  pub header : (job_of job).header ≡ h
  pub lines : plain_lines (job_of job).instructions ≡ ls
