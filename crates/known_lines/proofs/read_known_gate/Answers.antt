-- `known_lines::read_known_gate` meets its contract. Assumes nothing.
use Rattle.instructions.specs.Laws.Known.{of_gate, gate_line, gate_parsed}
use Rattle.known_lines.proofs.read_known_gate.Goals as goal

pub read_gate-g-requires : goal.read_gate-g-requires
read_gate-g-requires c = let pre = c.requires in gate_line (of_gate pre.1 pre.0.reads)

pub returns : goal.returns
returns c =
    gate_parsed c.requires.0 c.requires.1 c.read_gate-g.ensures c.args.fields.now
    c.requires.2 c.set_number.ensures c.set_few.ensures
