-- Definitions. A job of bytes: its refusal by the tests of a job, and the instructions of one that passes. Assumes nothing.
use Rattle.std.specs.Prelude.{ℕ, suc, ◌+◌, ◌-◌, Bool, true, false, cond, ◌&&◌, List, [], ◌∷◌, map, eqb, ltb, leb, length, get_or}
use Rattle.std.proofs.Math.Option.{Option, none, some}
use Rattle.text.specs.Bytes.{LF, lines}
use Rattle.job.specs.declared.Header.{Header}
use Rattle.job.specs.declared.Answer.{Answer}
use Rattle.job.specs.Line.{WeightedPauli, Distribution, Noise, Instruction, Placed}
use Rattle.job.specs.Grammar.{Kind, NoiseLine, Written, read_line_of}
use Rattle.job.specs.Checks.{Context, no_header, no_context_of, records, next, refusal_of}

-- ---- the refusal

abbrev pub max_bytes : ℕ
max_bytes = 1048576

abbrev pub answer : ℕ → ℕ → Answer
answer number line = record { number = number; line = line }

-- success
abbrev pub accepted : Answer
accepted = answer 0 0

-- 1: empty, too long, no final LF
unfoldable pub well_ended_of : List ℕ → Bool
well_ended_of job = ltb 0 (length job) && leb (length job) max_bytes && eqb (get_or job (length job - 1) 0) LF

abbrev pub is_last : List (List ℕ) → Bool
is_last [] = true
is_last (l ∷ ls) = false

unfoldable pub next_of : Context → Option Written → Context
next_of c none = c
next_of c (some w) = next c w

-- The first bad line counts, and its lowest number. k is the number of the first of these lines.
unfoldable pub check_lines_of : ℕ → Context → List (List ℕ) → Answer
check_lines_of k c [] = accepted
check_lines_of k c (l ∷ ls) =
    let said = read_line_of l in
    let number = refusal_of c (is_last ls) said in
    let later = check_lines_of (suc k) (next_of c said) ls in
    cond (eqb number 0) later (answer number k)

-- the answer of the tests of a job
unfoldable pub check_job : List ℕ → Answer
check_job job = let all = check_lines_of 1 no_context_of (lines job) in cond (well_ended_of job) all (answer 1 0)

-- ---- the instructions

unfoldable pub distribution_of : Kind → List WeightedPauli → Distribution
distribution_of (Kind.single P) es = Distribution.single P
distribution_of (Kind.depolarizing qs) es = Distribution.depolarizing qs
distribution_of (Kind.uniform n) es = Distribution.uniform (map (λ (e : WeightedPauli). e.pauli) es)
distribution_of (Kind.weighted n) es = Distribution.weighted es

-- a noise line and its elements
unfoldable pub noise_of : NoiseLine → List WeightedPauli → Noise
noise_of n es =
    record {
      probability = n.probability;
      correlation = n.correlation;
      condition = n.condition;
      distribution = distribution_of n.kind es;
      size = n.size;
    }

unfoldable pub weight_of : Option ℕ → ℕ
weight_of none = 0
weight_of (some w) = w

-- the instructions of some lines, and the elements that stand before the first of them
pub record Gathered : Type 0 where
  pub elements : List WeightedPauli
  pub instructions : List Placed

abbrev pub placed_at : ℕ → List ℕ → Instruction → Placed
placed_at k l i = record { line = k; text = l; instruction = i }

unfoldable pub gather : ℕ → List ℕ → Option Written → Gathered → Gathered
gather k l none g = g
gather k l (some (Written.header h)) g = g
gather k l (some (Written.line i)) g = record { elements = []; instructions = placed_at k l (Instruction.line i) ∷ g.instructions }
gather k l (some (Written.noise n)) g =
    record { elements = []; instructions = placed_at k l (Instruction.noise (noise_of n g.elements)) ∷ g.instructions }
gather k l (some (Written.element w P)) g =
    record { elements = record { weight = weight_of w; pauli = P } ∷ g.elements; instructions = g.instructions }

-- Noise and its element lines, which follow it, make one instruction, placed at the noise line. k is the number of the first of these lines.
unfoldable pub gathered : ℕ → List (List ℕ) → Gathered
gathered k [] = record { elements = []; instructions = [] }
gathered k (l ∷ ls) = gather k l (read_line_of l) (gathered (suc k) ls)

unfoldable pub header_of : Option Written → Header
header_of none = no_header
header_of (some (Written.header h)) = h
header_of (some (Written.line l)) = no_header
header_of (some (Written.noise n)) = no_header
header_of (some (Written.element w P)) = no_header

-- a job that passed the tests
pub record Job : Type 0 where
  pub header : Header
  -- the header's bytes
  pub text : List ℕ
  pub instructions : List Placed

unfoldable pub job_of_lines : List (List ℕ) → Job
job_of_lines [] = record { header = header_of none; text = []; instructions = [] }
job_of_lines (l ∷ ls) = record { header = header_of (read_line_of l); text = l; instructions = (gathered 2 ls).instructions }

abbrev pub job_of : List ℕ → Job
job_of job = job_of_lines (lines job)

-- how many outcomes the job records
unfoldable pub recorded_by : Instruction → ℕ
recorded_by (Instruction.line l) = cond (records l) 1 0
recorded_by (Instruction.noise n) = 0

unfoldable pub recorded_in : List Placed → ℕ
recorded_in [] = 0
recorded_in (i ∷ is) = recorded_by i.instruction + recorded_in is
