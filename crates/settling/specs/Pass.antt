-- What a pass over a job puts for one of its instructions. Definitions. Assumes nothing.
use Rattle.std.specs.Prelude.{◌≡◌, Result, Ok, Err, List, ℕ, ◌+◌, ◌*◌, ◌≤◌, ◌<◌, length, drop}
use Rattle.job.specs.declared.Header.{Header}
use Rattle.instructions.specs.Ahead.{instructions_at, Ahead}
use Rattle.writer.specs.Placed.{Puts}
use Rattle.draws.specs.Draws.{Lent}
use Rattle.draws.specs.Left.{left_after}
use Rattle.draws.specs.Settle.{SettledLine, Settled, prefixed, settle}
use Rattle.rows.specs.declared.Shape.{Shape}
use Rattle.rows.specs.Words.{words_per_row, bit_in}
use Rattle.settling.specs.declared.instruction_text.Reached.{Reached}
use Rattle.noise_text.specs.declared.Spent.{Spent}
use Rattle.noise_text.specs.Injections.{text_of}

-- what a pass reads: the job, the noiseless bits in rows of its shape, and the two lists of draws
pub record Pass : Type 0 where
  pub job : List ℕ
  pub shape : Shape
  pub noiseless : List ℕ
  pub main : List ℕ
  pub second : List ℕ
  pub base : ℕ

abbrev pub pass_of : List ℕ → Shape → List ℕ → List ℕ → List ℕ → ℕ → Pass
pass_of job shape noiseless main second base = record { job = job; shape = shape; noiseless = noiseless; main = main; second = second; base = base }

-- what is lent for the draws
abbrev pub lent_by : Pass → Lent
lent_by p = record { noiseless = bit_in p.shape.width p.noiseless; second = p.second; base = p.base; shots = p.shape.shots }

-- what the instructions from a place on come to
abbrev pub settled_from : Pass → Reached → Settled
settled_from p here = settle (lent_by p) (instructions_at p.job here.place.line here.place.byte) (drop here.place.position p.main)

-- and what they leave of the main list
abbrev pub left_from : Pass → Reached → List ℕ
left_from p here = left_after (lent_by p) (instructions_at p.job here.place.line here.place.byte) (drop here.place.position p.main)

-- ---- from instruction to instruction

-- an instruction of an accepted job begins at a place, or the job ends there
pub record Between (p : Pass) (here : Reached) : Type 0 where
  pub header : Header
  pub recorded : ℕ
  pub ahead : Ahead p.job header recorded here.place.line here.place.byte
  pub shots_are : header.shots ≡ p.shape.shots
  pub words_are : p.shape.width ≡ words_per_row p.shape.shots
  pub rows : header.outcomes * p.shape.width ≤ length p.noiseless
  pub position : here.place.position ≤ length p.main

-- The instruction at a place was put, and the next one begins at `next`. An instruction comes to at most 2^23 bytes.
pub record Onward (p : Pass) (out : List ℕ) (here : Reached) (after : List ℕ) (next : Reached) : Type 0 where
  pub lines : List SettledLine
  pub settles : settled_from p here ≡ prefixed lines (settled_from p next)
  pub leaves : left_from p here ≡ left_from p next
  pub puts : Puts here.text (text_of lines) out after next.text
  pub onward : here.place.line < next.place.line
  pub few : next.text ≤ here.text + 8388608
  pub between : Between p next

-- or its draws were spent, and the main list is left at a position
pub record SpentHere (p : Pass) (here : Reached) (position : ℕ) : Type 0 where
  pub settles : settled_from p here ≡ Settled.spent_at here.place.line
  pub within : position ≤ length p.main
  pub leaves : drop position p.main ≡ left_from p here

unfoldable pub MovedTo : Pass → List ℕ → Reached → List ℕ → Result Reached Spent → Type 0
MovedTo p out here after (Err spent) = SpentHere p here spent.position
MovedTo p out here after (Ok next) = Onward p out here after next

pub record InstructionPut (p : Pass) (out : List ℕ) (here : Reached) (after : List ℕ) (r : Result Reached Spent) : Type 0 where
  pub put : MovedTo p out here after r
