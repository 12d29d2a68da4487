-- `fault_table::groups_back::group_back` meets its contract. Assumes nothing.
use Rattle.lines_back.specs.Laws.Forms.{readable_as}
use Rattle.fault_table.specs.Laws.Back.{any_goes, group_as}
use Rattle.fault_table.proofs.groups_back.group_back.Goals as goal

pub is_gate-requires : goal.is_gate-requires
is_gate-requires c = tt

pub gate_back-requires : goal.gate_back-requires
gate_back-requires c = (readable_as (c.is_gate.ensures c.if-is_gate.true) c.requires.0, c.requires.1)

pub returns-then-is_gate : goal.returns-then-is_gate
returns-then-is_gate c = group_as (c.is_gate.ensures c.if-is_gate.true) c.gate_back.ensures

pub observable-requires : goal.observable-requires
observable-requires c = c.requires.1

pub returns : goal.returns
returns c = any_goes _ _ c.requires.1 c.observable.ensures c.line_back-r.ensures c.keep.ensures
