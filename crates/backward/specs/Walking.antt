-- Definitions. The whole reply of a walk: its answer and its count. Assumes nothing.
use Rattle.std.specs.Prelude.{Bool, cond, ◌&&◌, List, [], ◌∷◌, ℕ, eqb, ltb}
use Rattle.std.proofs.Math.Option.{Option, none, some}
use Rattle.text.specs.List.{is_rising_of}
use Rattle.pauli.specs.Bits.{members}
use Rattle.job.specs.Line.{Line, Instruction, Placed}
use Rattle.job.specs.Checks.{all_below}
use Rattle.job.specs.Job.{answer, accepted, Job, job_of, recorded_in, check_job}
use Rattle.job.specs.declared.CountReply.{CountReply}
use Rattle.job.specs.Reply.{refused_count}
use Rattle.frames.specs.Forward.{setting_of}
use Rattle.backward.specs.Walk.{walk}

-- the line of the first noise instruction
unfoldable pub noise_first : ℕ → Instruction → Option ℕ → Option ℕ
noise_first k (Instruction.line l) later = later
noise_first k (Instruction.noise n) later = some k

unfoldable pub first_noise : List Placed → Option ℕ
first_noise [] = none
first_noise (i ∷ is) = noise_first i.line i.instruction (first_noise is)

-- the lines of a job without noise
unfoldable pub line_first : Instruction → List Line → List Line
line_first (Instruction.line l) later = l ∷ later
line_first (Instruction.noise n) later = later

unfoldable pub plain_lines : List Placed → List Line
plain_lines [] = []
plain_lines (i ∷ is) = line_first i.instruction (plain_lines is)

-- 17: walk's shot not below shots; its set not strictly rising or with an unrecorded id
unfoldable pub walkable : Job → ℕ → List ℕ → Bool
walkable j shot set = ltb shot j.header.shots && is_rising_of set && all_below (recorded_in j.instructions) set

-- 16: noise in a walk
unfoldable pub walk_answer : Job → ℕ → List ℕ → Option ℕ → CountReply
walk_answer j shot set (some k) = refused_count (answer 16 k)
walk_answer j shot set none =
    record {
      answered = accepted;
      count = (walk (setting_of j.header shot) (plain_lines j.instructions) (members set)).count;
    }

-- The tests of a job, then 17, then 16.
unfoldable pub walk_reply : List ℕ → ℕ → List ℕ → CountReply
walk_reply job shot set =
    let j = job_of job in
    let walked = walk_answer j shot set (first_noise j.instructions) in
    let fitting = cond (walkable j shot set) walked (refused_count (answer 17 0)) in
    cond (eqb (check_job job).number 0) fitting (refused_count (check_job job))
