-- Execution of one instruction of an accepted job, as the code does it. Definitions. Assumes nothing.
use Rattle.std.specs.Prelude.{◌≡◌, Result, Ok, Err, List, ◌∷◌, ℕ, suc, ◌+◌, ◌*◌, ◌<◌, ◌≤◌, length, drop, Float}
use Rattle.job.specs.declared.Header.{Header}
use Rattle.job.specs.Line.{Instruction, Placed}
use Rattle.job.specs.Grammar.{header_with}
use Rattle.job.specs.Job.{placed_at, job_of}
use Rattle.instructions.specs.declared.LineRead.{LineRead}
use Rattle.instructions.specs.Ahead.{instructions_at, Ahead}
use Rattle.draws.specs.Draws.{Lent}
use Rattle.draws.specs.Left.{left_after}
use Rattle.draws.specs.Execute.{States, Ended, execute}
use Rattle.rows.specs.declared.Shape.{Shape}
use Rattle.rows.specs.Words.{bit_in}
use Rattle.noise.specs.declared.Place.{Place}
use Rattle.template.specs.Values.{Whole}
use Rattle.faults.specs.Elements.{AllInside}
use Rattle.faults.specs.Prepared.{NoiseLines, noise_in}
use Rattle.execution.specs.Holds.{Holds}
use Rattle.execution.specs.declared.Spent.{Spent}

-- ---- what is lent

-- the header of a job whose rows have this shape
abbrev pub header_of : List ℕ → Shape → Header
header_of job shape = header_with (job_of job).header.edition shape.qubits shape.outcomes shape.shots

-- what draws are taken from beside the main list
abbrev pub lent_by : Shape → List ℕ → List ℕ → ℕ → Lent
lent_by shape noiseless second base = record { noiseless = bit_in shape.width noiseless; second = second; base = base; shots = shape.shots }

-- the words are rows for the job's qubits and outcomes
pub record RowsFor (shape : Shape) (x z d noiseless : List ℕ) : Type 0 where
  pub narrow : shape.width ≤ 64
  pub in_words : shape.shots ≤ 64 * shape.width
  pub of_x : length x ≡ shape.qubits * shape.width
  pub of_z : length z ≡ shape.qubits * shape.width
  pub of_deltas : length d ≡ shape.outcomes * shape.width
  pub of_noiseless : shape.outcomes * shape.width ≤ length noiseless

-- ---- one instruction

-- how instructions end, and what they leave of the main list
pub record Ending : Type 0 where
  pub ends : Ended
  pub left : List ℕ

abbrev pub ending_of : Header → Lent → List Placed → List ℕ → States → Ending
ending_of h lent is main states = record { ends = execute h lent is main states; left = left_after lent is main }

-- Where execution of what is left comes to `all`, it goes on from another place, with fewer instructions than so many and the states that the words hold.
pub record GoesOnFrom (job : List ℕ) (shape : Shape) (lent : Lent) (main : List ℕ) (all : Ending) (count : ℕ) (x z d : List ℕ) (next : Place) : Type 0 where
  pub recorded : ℕ
  pub ahead : Ahead job (header_of job shape) recorded next.line next.byte
  pub fewer : length (instructions_at job next.line next.byte) < count
  pub within : next.position ≤ length main
  pub states : States
  pub holds : Holds shape.width x z d states
  pub is : ending_of (header_of job shape) lent (instructions_at job next.line next.byte) (drop next.position main) states ≡ all

-- or the draws were spent in line k, and the main list is left at a position
pub record SpentIn (main : List ℕ) (all : Ending) (k position : ℕ) : Type 0 where
  pub ends : all.ends ≡ Ended.spent_at k
  pub within : position ≤ length main
  pub leaves : drop position main ≡ all.left

-- so that what is left ends as `all`, either way
unfoldable pub EndsBy : List ℕ → Shape → Lent → List ℕ → Ending → ℕ → ℕ → List ℕ → List ℕ → List ℕ → Result Place Spent → Type 0
EndsBy job shape lent main all count k x z d (Ok next) = GoesOnFrom job shape lent main all count x z d next
EndsBy job shape lent main all count k x z d (Err spent) = SpentIn main all k spent.position

pub record EndsAs (job : List ℕ) (shape : Shape) (lent : Lent) (main : List ℕ) (all : Ending) (count k : ℕ) (x z d : List ℕ) (r : Result Place Spent) : Type 0 where
  pub by : EndsBy job shape lent main all count k x z d r

-- a noise line at a place was read; its element lines begin behind it
pub record NoiseReady (job : List ℕ) (place : Place) (line : LineRead) (values noiseless : List ℕ) (shape : Shape) : Type 0 where
  pub lines : NoiseLines job (line.end + 1) line.form values noiseless shape.width
  pub header : lines.header ≡ header_of job shape
  pub number : lines.line ≡ place.line + 1

-- with room for its elements, their weights and its mask, and rows for the frames
pub record NoiseRoom (shape : Shape) (values elements : List ℕ) (sums weights : List Float) (mask x z : List ℕ) : Type 0 where
  pub of_values : Whole values
  pub of_elements : AllInside elements
  pub of_sums : 64 ≤ length sums
  pub of_weights : 64 ≤ length weights
  pub of_mask : shape.width ≤ length mask
  pub in_words : shape.shots ≤ 64 * shape.width
  pub of_x : length x ≡ shape.qubits * shape.width
  pub of_z : length z ≡ shape.qubits * shape.width

pub record NoiseDone (job : List ℕ) (place : Place) (line : LineRead) (values : List ℕ) (shape : Shape) (noiseless main second : List ℕ) (base : ℕ)
    (x z x' z' : List ℕ) (r : Result Place Spent) : Type 0 where
  pub by : (q : NoiseLines job (line.end + 1) line.form values noiseless shape.width) → q.header ≡ header_of job shape → q.line ≡ place.line + 1
      → (text deltas : List ℕ) (states : States) → Holds shape.width x z deltas states
      → EndsAs job shape (lent_by shape noiseless second base) main
      (ending_of (header_of job shape) (lent_by shape noiseless second base) (placed_at place.line text (Instruction.noise (noise_in q)) ∷ q.rest) (drop place.position main) states)
      (suc (length q.rest)) place.line x' z' deltas r

-- an instruction begins at the place, and there is room for a line's values and elements
pub record StepReady (job : List ℕ) (shape : Shape) (place : Place) (values elements : List ℕ) (sums weights : List Float) (main : List ℕ) : Type 0 where
  pub recorded : ℕ
  pub ahead : Ahead job (header_of job shape) recorded place.line place.byte
  pub inside : place.byte < length job
  pub of_values : Whole values
  pub of_elements : AllInside elements
  pub of_sums : 64 ≤ length sums
  pub of_weights : 64 ≤ length weights
  pub within : place.position ≤ length main

pub record Stepped (job : List ℕ) (shape : Shape) (noiseless main second : List ℕ) (base : ℕ) (place : Place) (x z d x' z' d' : List ℕ) (r : Result Place Spent) : Type 0
  where
    pub by : (recorded : ℕ) → Ahead job (header_of job shape) recorded place.line place.byte → (states : States) → Holds shape.width x z d states
        → EndsAs job shape (lent_by shape noiseless second base) main
        (ending_of (header_of job shape) (lent_by shape noiseless second base) (instructions_at job place.line place.byte) (drop place.position main) states)
        (length (instructions_at job place.line place.byte)) place.line x' z' d' r
