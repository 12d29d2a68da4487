-- What is left of an accepted job from a place on: between two instructions, and among the element lines of a noise line. Definitions. Assumes nothing.
use Rattle.std.specs.Prelude.{ℕ, ◌+◌, ◌≤◌, ◌≡◌, Bool, true, cond, List, ◌∷◌, length, drop}
use Rattle.text.specs.Bytes.{lines}
use Rattle.text.specs.Template.{Value, number_at}
use Rattle.template.specs.Fields.{Held}
use Rattle.job.specs.declared.Header.{Header}
use Rattle.job.specs.Line.{Line, WeightedPauli, Instruction, Placed}
use Rattle.job.specs.Grammar.{Kind, NoiseLine, Written, pauli_at_of}
use Rattle.job.specs.Checks.{Context, element_lines_of, first_total}
use Rattle.job.specs.Job.{well_ended_of, noise_of, placed_at, gathered, job_of, recorded_by}
use Rattle.job.specs.Sound.{PauliSound, LineSound, NoiseSound, HeaderSound, WeightSound}
use Rattle.job.specs.Contexts.{between, Accepted}
use Rattle.reader.specs.Parsed.{Said}
use Rattle.instructions.specs.declared.LineRead.{LineRead}
use Rattle.instructions.specs.Reading.{line_at, element_form, has_total}

-- the instructions from a place on, where the line with number k begins
unfoldable pub instructions_at : List ℕ → ℕ → ℕ → List Placed
instructions_at job k at = (gathered k (lines (drop at job))).instructions

-- ---- between two instructions

-- At `at` begins line k of an accepted job, no element line, or the job ends there. The lines before it record r outcomes.
pub record Ahead (job : List ℕ) (h : Header) (r k at : ℕ) : Type 0 where
  pub within : at ≤ length job
  pub number : k ≤ at + 1
  pub ended : well_ended_of job ≡ true
  pub header : HeaderSound h
  pub recorded : r ≤ h.outcomes
  pub accepted : Accepted k (between h r) (lines (drop at job))

-- the header of an accepted job was read, whose LF stands at `end`
pub record Started (job : List ℕ) (end : ℕ) : Type 0 where
  pub ahead : Ahead job (job_of job).header 0 2 (end + 1)
  pub instructions : instructions_at job 2 (end + 1) ≡ (job_of job).instructions

-- a line that is no noise was read at `at`
pub record PlainRead (job : List ℕ) (h : Header) (r k at : ℕ) (next : LineRead) (fields : List ℕ) : Type 0 where
  pub line : Line
  pub values : List Value
  pub said : Said next.form fields values (Written.line line)
  pub sound : LineSound h r line
  pub instructions : instructions_at job k at ≡ placed_at k (line_at job at next.end) (Instruction.line line) ∷ instructions_at job (k + 1) (next.end + 1)
  pub ahead : Ahead job h (r + recorded_by (Instruction.line line)) (k + 1) (next.end + 1)

-- ---- element lines

-- Of the elements of a noise line, whose element lines begin with line k, the first i were read. At `at` begins the next, or what stands behind the last:
-- the instructions `is`.
pub record Among (job : List ℕ) (h : Header) (r : ℕ) (weighted : Bool) (elements : List WeightedPauli) (is : List Placed) (k at i : ℕ) : Type 0 where
  pub within : at ≤ length job
  pub number : k + i ≤ at + 1
  pub ended : well_ended_of job ≡ true
  pub header : HeaderSound h
  pub recorded : r ≤ h.outcomes
  pub context : Context
  pub same_header : context.header ≡ h
  pub same_recorded : context.recorded ≡ r
  pub same_weighted : has_total context.total ≡ weighted
  pub accepted : Accepted (k + i) context (lines (drop at job))
  pub left : gathered (k + i) (lines (drop at job)) ≡ record { elements = drop i elements; instructions = is }

-- whether the elements of a kind have weights
abbrev pub has_weights_of : Kind → Bool
has_weights_of kind = has_total (first_total kind)

-- a noise line was read at `at`
pub record NoiseRead (job : List ℕ) (h : Header) (r k at : ℕ) (next : LineRead) (fields : List ℕ) : Type 0 where
  pub noise : NoiseLine
  pub values : List Value
  pub said : Said next.form fields values (Written.noise noise)
  pub elements : List WeightedPauli
  pub count : length elements ≡ element_lines_of noise.kind
  pub few : length elements ≤ 64
  pub sound : NoiseSound h.qubits r (noise_of noise elements)
  pub instructions : instructions_at job k at
      ≡ placed_at k (line_at job at next.end) (Instruction.noise (noise_of noise elements)) ∷ instructions_at job (k + 1) (next.end + 1)
  pub among : Among job h r (has_weights_of noise.kind) elements (instructions_at job (k + 1) (next.end + 1)) (k + 1) (next.end + 1) 0

-- an element by the values of its line
abbrev pub element_by_of : Bool → List Value → WeightedPauli
element_by_of weighted vs = record { weight = cond weighted (number_at 0 vs) 0; pauli = pauli_at_of 0 1 vs }

-- the i-th element line was read
pub record ElementRead (job : List ℕ) (h : Header) (r : ℕ) (weighted : Bool) (elements : List WeightedPauli) (is : List Placed) (k i : ℕ) (next : LineRead)
    (fields : List ℕ) : Type 0 where
  pub values : List Value
  pub form : next.form ≡ element_form weighted
  pub held : Held fields (cond weighted 1 0) 2 values
  pub element : drop i elements ≡ element_by_of weighted values ∷ drop (i + 1) elements
  pub pauli : PauliSound h.qubits (pauli_at_of 0 1 values)
  pub weight : weighted ≡ true → WeightSound (element_by_of true values)
  pub among : Among job h r weighted elements is k (next.end + 1) (i + 1)
