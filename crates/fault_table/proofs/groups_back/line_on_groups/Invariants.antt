-- `fault_table::groups_back::line_on_groups` meets its contract. Assumes nothing.
use Rattle.fault_table.specs.Laws.Back.{GoneBack}
use Rattle.fault_table.proofs.groups_back.line_on_groups.Given as goal

abbrev pub invariant-loop-i : goal.invariant-loop-i
invariant-loop-i l = GoneBack l.form l.values.words.now l.groups l.i l.initial.state l.state
