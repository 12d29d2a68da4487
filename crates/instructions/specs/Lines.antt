-- The lines of an accepted job, one after the other, the header's and the elements' too. Definitions. Assumes nothing.
use Rattle.std.specs.Prelude.{ℕ, zero, suc, ◌+◌, ◌≤◌, ◌<◌, ◌≡◌, true, List, length, drop}
use Rattle.std.proofs.Math.Option.{Option, none, some}
use Rattle.text.specs.Bytes.{lines}
use Rattle.text.specs.Template.{Value}
use Rattle.job.specs.declared.Header.{Header}
use Rattle.job.specs.Grammar.{Written, read_line_of}
use Rattle.job.specs.Checks.{Context}
use Rattle.job.specs.Job.{accepted, well_ended_of, check_lines_of}
use Rattle.job.specs.Sound.{LineSound}
use Rattle.reader.specs.declared.Form.{Form}
use Rattle.reader.specs.Parsed.{Said}

-- lines that pass in some context, of which the first has number k
pub record Passes (k : ℕ) (ls : List (List ℕ)) : Type 0 where
  pub context : Context
  pub passes : check_lines_of k context ls ≡ accepted

-- the lines of a job from `at` on pass, of which the first has number k
pub record Left (job : List ℕ) (k at : ℕ) : Type 0 where
  pub within : at ≤ length job
  pub ended : well_ended_of job ≡ true
  pub size : length job ≤ 1048576
  pub first : 1 ≤ k
  pub number : k ≤ at + 1
  pub passes : Passes k (lines (drop at job))

-- what a line of an accepted job is known for: one that is neither noise nor a header nor an element is sound
unfoldable pub WrittenSound : Written → Type 0
WrittenSound (Written.header h) = Unit {0}
WrittenSound (Written.line i) = (h : Header) × (r : ℕ) × LineSound h r i
WrittenSound (Written.noise n) = Unit {0}
WrittenSound (Written.element w P) = Unit {0}

-- a line of an accepted job, by its text: it says something, and is as sound as WrittenSound has it
pub record KnownLine (text : List ℕ) : Type 0 where
  pub written : Written
  pub reads : read_line_of text ≡ some written
  pub sound : WrittenSound written

-- from a place on the lines of a job pass, as those of an accepted job do from the start of each line
pub record KnownAt (job : List ℕ) (at : ℕ) : Type 0 where
  pub ended : well_ended_of job ≡ true
  pub inside : at < length job
  pub number : ℕ
  pub passes : Passes number (lines (drop at job))

-- a line of an accepted job was read, and says `w`
pub record SoundRead (f : Form) (fields : List ℕ) (w : Written) : Type 0 where
  pub values : List Value
  pub said : Said f fields values w
  pub sound : WrittenSound w

-- whatever it says
pub record SomeRead (f : Form) (fields : List ℕ) : Type 0 where
  pub written : Written
  pub read : SoundRead f fields written

-- a line's number, where 0 is none
unfoldable pub numbered : ℕ → Option ℕ
numbered zero = none
numbered (suc k) = some (suc k)
