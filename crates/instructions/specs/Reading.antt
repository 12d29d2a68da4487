-- A line of a job, read where it stands. Definitions. Assumes nothing.
use Rattle.std.specs.Prelude.{ℕ, ◌+◌, ◌-◌, ◌≤◌, ◌<◌, ◌≡◌, Bool, true, false, List, ◌∷◌, Float, length, get_or, take, drop}
use Rattle.std.proofs.Math.Option.{Option, none, some}
use Rattle.text.specs.Bytes.{LF, lines}
use Rattle.reader.specs.declared.Form.{Form}
use Rattle.reader.specs.declared.Form.TheVariants as form
use Rattle.reader.specs.Parsed.{Parsed}
use Rattle.instructions.specs.declared.LineRead.{LineRead}

-- the bytes between two places
unfoldable pub line_at : List ℕ → ℕ → ℕ → List ℕ
line_at job at end = take (end - at) (drop at job)

-- a line begins at `at`, and its LF stands at `end`
pub record LineAt (job : List ℕ) (at end : ℕ) : Type 0 where
  pub begins : at ≤ end
  pub inside : end < length job
  pub ended : get_or job end 0 ≡ LF
  pub long : at + length (line_at job at end) ≡ end
  pub cut : lines (drop at job) ≡ line_at job at end ∷ lines (drop (end + 1) job)

-- the line that begins at `at` was read
pub record NextLine (job : List ℕ) (at : ℕ) (r : LineRead) (fields : List ℕ) : Type 0 where
  pub place : LineAt job at r.end
  pub parsed : Parsed (line_at job at r.end) r.form fields

-- the forms of noise lines
unfoldable pub noise_form : Form → Bool
noise_form form.Unread = false
noise_form form.Header = false
noise_form form.Unitary = false
noise_form form.Clifford = false
noise_form form.Pauli = false
noise_form form.Exponential = false
noise_form form.Controlled = false
noise_form form.Permute = false
noise_form form.Measure = false
noise_form form.Allocate = false
noise_form form.Conditional = false
noise_form form.Reset = false
noise_form form.Inject = false
noise_form form.Flip = false
noise_form form.Single = true
noise_form form.Depolarizing = true
noise_form form.Uniform = true
noise_form form.Weighted = true
noise_form form.Element = false
noise_form form.WeightedElement = false
noise_form form.EditionHeader = false
noise_form form.Barrier = false

-- the form of the element lines of a distribution with weights, or without
abbrev pub element_form : Bool → Form
element_form true = form.WeightedElement
element_form false = form.Element

-- whether there is a sum of weights
unfoldable pub has_total : Option Float → Bool
has_total none = false
has_total (some t) = true
