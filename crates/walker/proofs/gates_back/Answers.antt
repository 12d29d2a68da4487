use native.Mathlib.Omega.{arith}
use Rattle.instructions.specs.Reading.{line_at}
use Rattle.lines_from_last.specs.Laws.Left.{line_known, line_left}
use Rattle.walker.specs.Laws.Going.{gates_none, gates_on}
use Rattle.walker.specs.Laws.Gates.{gate_there, operands_of, gate_goes}
use Rattle.walker.proofs.gates_back.Goals as goal

pub loop-end-init : goal.loop-end-init
loop-end-init c = gates_none _ c.requires.0 c.requires.1

pub overflow_sub-end : goal.overflow_sub-end
overflow_sub-end c = omega (arith, c.loop-end-test.true)

pub line_start-start-requires : goal.line_start-start-requires
line_start-start-requires c = (omega (arith, c.loop-end-test.true, c.loop-end.invariant.left.left.within), c.loop-end.invariant.left.left.starts (omega (arith, c.loop-end-test.true)))

pub overflow_sub-line : goal.overflow_sub-line
overflow_sub-line c = omega (arith, c.loop-end-test.true)

pub slice_bounds-line-count : goal.slice_bounds-line-count
slice_bounds-line-count c = omega (arith, c.line_start-start.ensures.within)

pub slice_bounds-line-start : goal.slice_bounds-line-start
slice_bounds-line-start c = omega (arith, c.line_start-start.ensures.within)

pub slice_bounds-line-end : goal.slice_bounds-line-end
slice_bounds-line-end c = omega (arith, c.line_start-start.ensures.within, c.loop-end.invariant.left.left.within)

pub returns-then-not-is_gate : goal.returns-then-not-is_gate
returns-then-not-is_gate c = (c.loop-end.invariant, λ h. c.line_start-start.ensures)

pub read_gate-gate-requires : goal.read_gate-gate-requires
unfolding line_at
read_gate-gate-requires c = gate_there (c.is_gate.ensures (c.if-not-is_gate.false)) (line_known _ c.requires.0 c.loop-end.invariant.left.left c.loop-end-test.true c.line_start-start.ensures)

pub conjugate_back-observable-requires : goal.conjugate_back-observable-requires
unfolding line_at
conjugate_back-observable-requires c = operands_of (c.is_gate.ensures (c.if-not-is_gate.false)) c.read_gate-gate.ensures (line_known _ c.requires.0 c.loop-end.invariant.left.left c.loop-end-test.true c.line_start-start.ensures)

pub overflow_sub-number : goal.overflow_sub-number
overflow_sub-number c = line_left _ c.requires.0 c.loop-end.invariant.left.left c.loop-end-test.true c.line_start-start.ensures

pub loop-end-smaller : goal.loop-end-smaller
loop-end-smaller c = omega (arith, c.line_start-start.ensures.within, c.loop-end-test.true)

pub loop-end-preserved : goal.loop-end-preserved
unfolding line_at
loop-end-preserved c = gates_on _ c.requires.0 c.loop-end.invariant c.loop-end-test.true c.line_start-start.ensures (λ count noise shot set. gate_goes (c.is_gate.ensures (c.if-not-is_gate.false)) c.read_gate-gate.ensures c.conjugate_back-observable.ensures shot _ set)

pub returns : goal.returns
returns c = (c.loop-end.invariant, λ h. absurd (omega (arith, h, c.loop-end-test.false)))
