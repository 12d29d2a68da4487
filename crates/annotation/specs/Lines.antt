-- What the code says of the annotated text. Definitions. Assumes nothing.
use Rattle.std.specs.Prelude.{ℕ, ◌≡◌, Bool, false, cond, List, ◌++◌, Result, Ok, Err}
use Rattle.std.proofs.Math.Option.{Option, none, some}
use Rattle.text.specs.Bytes.{lines}
use Rattle.job.specs.Grammar.{Written}
use Rattle.writer.specs.Placed.{Puts}
use Rattle.circuit.specs.Annotate.{noise_before_of, annotated_text, first_unfit}
use Rattle.annotation.specs.declared.around.Unfit.{Unfit}

-- whether the noise of what a line says goes before it
unfoldable pub before_it : Written → Bool
before_it (Written.header h) = false
before_it (Written.line i) = noise_before_of i
before_it (Written.noise n) = false
before_it (Written.element w P) = false

-- a line with its LF, and the text of its noise before or after it
abbrev pub around_text : Bool → List ℕ → List ℕ → List ℕ
around_text before line noise = cond before (noise ++ line) (line ++ noise)

-- the line that annotation does not fit, if there is one
unfoldable pub unfit_line : Result ℕ Unfit → Option ℕ
unfit_line (Ok bytes) = none
unfit_line (Err u) = some u.line

-- the line that annotation does not fit; and where it fits all, the annotated text was put
pub record Annotates (job : List ℕ) (p : ℕ) (r : Result ℕ Unfit) (out after : List ℕ) : Type 0 where
  pub unfit : first_unfit 1 (lines job) ≡ unfit_line r
  pub puts : (bytes : ℕ) → r ≡ Ok bytes → Puts 0 (annotated_text p job) out after bytes
