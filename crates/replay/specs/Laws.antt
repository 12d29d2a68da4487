-- The lists of a record. Laws. Assumes nothing.
use Rattle.std.specs.Prelude.{ℕ, ◌≡◌, ◌<◌, List}
use Rattle.std.proofs.Common.{arith}
use Rattle.text.specs.Template.{list_at_of}
use Rattle.template.specs.Values.{AllKept, held_list}
use Rattle.template.specs.Fields.{list_letters, HasForm}
use Rattle.template.specs.Laws.Fields.{list_held}
use Rattle.replay.specs.declared.record.Record.{Record}

-- if all members of the i-th list were kept, the record holds that list of its line; every record has words enough, by its own fact
pub record_list : {line template : List ℕ} (x : Record) (h : HasForm line template x.words) (i : ℕ) → i < list_letters template → AllKept x.words i → held_list x.words i ≡ list_at_of i h.values
record_list x h i listed kept = list_held h.held (omega (arith, x.whole)) i listed kept
