-- Definitions: what reading a record says. Assumes nothing.
use Rattle.std.specs.Prelude.{ℕ, ◌≡◌, List, Option, Some, None}
use Rattle.std.proofs.Math.Option.{none}
use Rattle.text.specs.Template.{values_of}
use Rattle.template.specs.Fields.{Room, HasForm}
use Rattle.replay.specs.declared.record.Record.{Record}

-- the record that a line is by a template, whose words hold the line's values; none only where the line is not of the template
pub record RecordOf (line template : List ℕ) (r : Option Record) : Type 0 where
  pub refused : r ≡ None → Room 0 0 template → values_of template line ≡ none
  pub read : (x : Record) → r ≡ Some x → HasForm line template x.words
