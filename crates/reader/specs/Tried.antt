-- What the functions that try one form, or some forms, say to the functions that chose them. Definitions. Assumes nothing.
use Rattle.std.specs.Prelude.{ℕ, ◌≡◌, Bool, false, cond, ◌&&◌, List, [], ◌∷◌, eqb, length, Option as Answer, Some, None}
use Rattle.text.specs.Bytes.{bytes}
use Rattle.text.specs.Template.{Value, number_at, list_at_of}
use Rattle.template.specs.Fields.{ReadAs, Begins, ReadOn, ends_at}
use Rattle.template.specs.declared.Progress.{Progress}
use Rattle.job.specs.Grammar.{Form as TableForm, is_one, read_by, read_line_of}
use Rattle.reader.specs.declared.Form.{Form}
use Rattle.reader.specs.declared.Form.TheVariants as form
use Rattle.reader.specs.Parsed.{form_of, Parsed}

-- the line is parsed, where it says what it says by one of these forms
pub record Tried (fs : List TableForm) (line : List ℕ) (r : Form) (fields : List ℕ) : Type 0 where
  pub parsed : read_line_of line ≡ read_by fs line → Parsed line r fields

-- the form that was found; a line has none where there is no such
abbrev pub found : Answer Form → Form
found None = form.Unread
found (Some f) = f

-- one form alone, the forms of noise lines, and those of headers
abbrev pub only : Form → List TableForm
only f = form_of f ∷ []

abbrev pub noise_forms : List TableForm
noise_forms = form_of form.Single ∷ form_of form.Depolarizing ∷ form_of form.Uniform ∷ form_of form.Weighted ∷ []

abbrev pub header_forms : List TableForm
header_forms = form_of form.Header ∷ form_of form.EditionHeader ∷ []

-- ---- by one template

-- the form, where it is the line's
abbrev pub form_if : Bool → Form → Answer Form
form_if b f = cond b (Some f) None

-- the line was read by a template
pub record FormBy (line template : List ℕ) (f : Form) (r : Answer Form) (fields : List ℕ) : Type 0 where
  pub ok : Bool
  pub result : r ≡ form_if ok f
  pub reads : ReadAs line template ok fields

-- the line was read on, by the rest of a template, to its end
pub record KindBy (line rest : List ℕ) (p : Progress) (f : Form) (r : Answer Form) (before after : List ℕ) : Type 0 where
  pub on : Answer Progress
  pub result : r ≡ form_if (ends_at (length line) on) f
  pub reads : ReadOn line rest p.at p.numbers p.lists on before after

-- the part of a template that is a Pauli's two lists
unfoldable pub pauli_part : List ℕ
unfolding bytes
pauli_part = bytes "x=L z=L"

-- ---- noise lines

-- what the templates of all noise lines begin with
unfoldable pub noise_begin_of : List ℕ
unfolding bytes
noise_begin_of = bytes "op=n p=H corr=C cond=L parity=B d="

-- no condition, but parity 1: no noise line has that
abbrev pub parity_alone_of : List Value → Bool
parity_alone_of v = eqb (length (list_at_of 1 v)) 0 && is_one (number_at 1 v)

-- a line begins as noise lines do, and was read up to its digit of d
pub record NoiseBegun (line : List ℕ) (p : Progress) (fields : List ℕ) : Type 0 where
  pub before : List ℕ
  pub begins : Begins line noise_begin_of 0 0 0 p before fields
  pub parity : parity_alone_of begins.values ≡ false
