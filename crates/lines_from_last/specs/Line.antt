-- A job's lines from the last to the first: a line before a place, and what is known of a line of an accepted job. Definitions. Assumes nothing.
use Rattle.std.specs.Prelude.{ℕ, ◌+◌, ◌-◌, ◌≤◌, ◌<◌, ◌≡◌, List, [], ◌∷◌, ◌++◌, length, get_or, take}
use Rattle.std.proofs.Math.Option.{Option, some}
use Rattle.text.specs.Bytes.{LF, lines}
use Rattle.job.specs.declared.Header.{Header}
use Rattle.job.specs.Line.{SparsePauli, Line}
use Rattle.job.specs.Grammar.{Written, read_line_of}
use Rattle.job.specs.Sound.{PauliSound, LineSound, HeaderSound}
use Rattle.instructions.specs.Reading.{line_at}

-- a line starts at this place: it is 0, or LF stands before it
abbrev pub LineStart : List ℕ → ℕ → Type 0
LineStart job at = 0 < at → get_or job (at - 1) 0 ≡ LF

-- there is no LF from a place on up to another
pub record NoLf (job : List ℕ) (from to : ℕ) : Type 0 where
  pub none : (j : ℕ) → from ≤ j → j < to → get_or job j 0 ≡ LF → ⊥

-- The line whose LF stands at e starts at r. The lines up to there are those before it, and it.
pub record LineBefore (job : List ℕ) (e r : ℕ) : Type 0 where
  pub within : r ≤ e
  pub starts : LineStart job r
  pub splits : lines (take (e + 1) job) ≡ lines (take r job) ++ line_at job r e ∷ []

-- The k lines before place e are left; those from there on are `done`.
pub record LinesLeft (job : List ℕ) (k e : ℕ) (done : List (List ℕ)) : Type 0 where
  pub within : e ≤ length job
  pub starts : LineStart job e
  pub number : k ≡ length (lines (take e job))
  pub whole : lines job ≡ lines (take e job) ++ done

-- a line of a job with this header: it says something, and a plain line is sound, as is the Pauli of an element
pub record Known (h : Header) (text : List ℕ) : Type 0 where
  pub written : Written
  pub reads : read_line_of text ≡ some written
  pub sound : (l : Line) → written ≡ Written.line l → (r : ℕ) × (r ≤ h.outcomes) × LineSound h r l
  pub element : (v : Option ℕ) (P : SparsePauli) → written ≡ Written.element v P → PauliSound h.qubits P

-- a line of an accepted job
pub record OfJob (text : List ℕ) : Type 0 where
  pub header : Header
  pub range : HeaderSound header
  pub known : Known header text
