-- `known_lines::next_known` meets its contract. Assumes nothing.
use mathlib.Core.Path.{refl}
use Rattle.instructions.specs.Laws.Known.{handed_read, handed_known, gate_bytes, gate_fills}
use Rattle.known_lines.proofs.next_known.Goals as goal

pub line_from-gate-requires : goal.line_from-gate-requires
line_from-gate-requires c = gate_fills c.requires.0 (c.is_gate.ensures c.if-is_gate.true)

pub read_known_gate-requires : goal.read_known_gate-requires
read_known_gate-requires c =
    let pre = c.requires.0 in
    let handed = c.line_from-gate.ensures in
    let there = c.is_gate.ensures c.if-is_gate.true in
    (handed_known _ _ _ handed pre, gate_bytes pre handed there, c.requires.1)

pub returns-then-is_gate : goal.returns-then-is_gate
returns-then-is_gate c =
    let known = c.requires.0 in
    let handed = c.line_from-gate.ensures in
    handed_read _ _ _ handed known.ended known.inside c.read_known_gate.ensures _ refl refl

pub read_other-form-requires : goal.read_other-form-requires
read_other-form-requires c =
    let pre = c.requires.0 in
    (handed_known _ _ _ c.other_line-line.ensures pre, c.requires.1)

pub returns : goal.returns
returns c =
    let known = c.requires.0 in
    let handed = c.other_line-line.ensures in
    handed_read _ _ _ handed known.ended known.inside c.read_other-form.ensures _ refl refl
