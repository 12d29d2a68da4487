-- What the code says of a line that it read: its form, a place in the table of forms, and lent words that hold the line's values. Definitions. Assumes
-- nothing.
use Rattle.std.specs.Prelude.{ℕ, ◌≡◌, Bool, true, false, List, [], get_or}
use Rattle.std.proofs.Math.Option.{none, some}
use Rattle.text.specs.Template.{Value, values_of}
use Rattle.template.specs.Fields.{number_letters, list_letters, Held}
use Rattle.job.specs.Fits.{WrittenFits}
use Rattle.job.specs.Grammar.{Written, Form as TableForm, forms, read_line_of}
use Rattle.reader.specs.declared.Form.{Form}
use Rattle.reader.specs.declared.Form.TheVariants as form

-- the place of a form in the table of forms, which is in document 01's order, the second edition's behind it
unfoldable pub place_of : Form → ℕ
place_of form.Unread = 21
place_of form.Header = 0
place_of form.Unitary = 1
place_of form.Clifford = 2
place_of form.Pauli = 3
place_of form.Exponential = 4
place_of form.Controlled = 5
place_of form.Permute = 6
place_of form.Measure = 7
place_of form.Allocate = 8
place_of form.Conditional = 9
place_of form.Reset = 10
place_of form.Inject = 11
place_of form.Flip = 12
place_of form.Single = 13
place_of form.Depolarizing = 14
place_of form.Uniform = 15
place_of form.Weighted = 16
place_of form.Element = 17
place_of form.WeightedElement = 18
place_of form.EditionHeader = 19
place_of form.Barrier = 20

-- a form that no line has
unfoldable pub no_form : TableForm
no_form = record { template = []; says = λ vs. none }

abbrev pub form_of : Form → TableForm
form_of f = get_or forms (place_of f) no_form

-- The line says `written`, by the values that it has by its form's template; and lent words hold them.
pub record ParsedAs (line : List ℕ) (f : Form) (fields : List ℕ) : Type 0 where
  pub values : List Value
  pub written : Written
  pub by_form : values_of (form_of f).template line ≡ some values
  pub says : (form_of f).says values ≡ some written
  pub reads : read_line_of line ≡ some written
  pub held : Held fields (number_letters (form_of f).template) (list_letters (form_of f).template) values

-- a line of no form, or one of a form
abbrev pub is_unread : Form → Bool
is_unread form.Unread = true
is_unread form.Header = false
is_unread form.Unitary = false
is_unread form.Clifford = false
is_unread form.Pauli = false
is_unread form.Exponential = false
is_unread form.Controlled = false
is_unread form.Permute = false
is_unread form.Measure = false
is_unread form.Allocate = false
is_unread form.Conditional = false
is_unread form.Reset = false
is_unread form.Inject = false
is_unread form.Flip = false
is_unread form.Single = false
is_unread form.Depolarizing = false
is_unread form.Uniform = false
is_unread form.Weighted = false
is_unread form.Element = false
is_unread form.WeightedElement = false
is_unread form.EditionHeader = false
is_unread form.Barrier = false

pub record Parsed (line : List ℕ) (f : Form) (fields : List ℕ) : Type 0 where
  pub unread : is_unread f ≡ true → read_line_of line ≡ none
  pub read : is_unread f ≡ false → ParsedAs line f fields

-- lent words hold the values by which a line of a form says what it says, which is good for the letters of its form
pub record Said (form : Form) (fields : List ℕ) (values : List Value) (written : Written) : Type 0 where
  pub says : (form_of form).says values ≡ some written
  pub fits : WrittenFits written
  pub held : Held fields (number_letters (form_of form).template) (list_letters (form_of form).template) values
