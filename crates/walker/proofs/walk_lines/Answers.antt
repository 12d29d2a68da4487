use native.Mathlib.Omega.{arith}
use mathlib.Core.Path.{refl, sym, ◌∙◌}
use Rattle.instructions.specs.Reading.{line_at}
use Rattle.lines_from_last.specs.Laws.Left.{line_known, line_left}
use Rattle.walker.specs.Laws.Going.{going_first, going_on, going_done, after_gates}
use Rattle.walker.proofs.walk_lines.Goals as goal

pub loop-e-init : goal.loop-e-init
loop-e-init c = (going_first _ c.requires.0 c.start-w.ensures c.requires.2 c.requires.1, omega arith)

pub gates_back-gates-requires : goal.gates_back-gates-requires
gates_back-gates-requires c = (c.requires.0, record { done = _; left = c.loop-e.invariant.0.left })

pub shape_of-set-then-gates-eq0 : goal.shape_of-set-then-gates-eq0
shape_of-set-then-gates-eq0 c = c.loop-e.invariant.0.long ∙ sym c.requires.2

pub returns-then-gates-eq0 : goal.returns-then-gates-eq0
returns-then-gates-eq0 c = going_done _ c.requires.0 (after_gates _ c.requires.0 c.gates_back-gates.ensures.0 c.with_observable-w.ensures c.loop-e.invariant.0) c.if-gates-eq0.true

pub overflow_sub-line : goal.overflow_sub-line
overflow_sub-line c = omega (arith, c.if-gates-eq0.false)

pub slice_bounds-line-count : goal.slice_bounds-line-count
slice_bounds-line-count c = omega (arith, (c.gates_back-gates.ensures.1 (omega (arith, c.if-gates-eq0.false))).within)

pub slice_bounds-line-start : goal.slice_bounds-line-start
slice_bounds-line-start c = omega (arith, (c.gates_back-gates.ensures.1 (omega (arith, c.if-gates-eq0.false))).within)

pub slice_bounds-line-end : goal.slice_bounds-line-end
slice_bounds-line-end c = omega (arith, (c.gates_back-gates.ensures.1 (omega (arith, c.if-gates-eq0.false))).within, c.gates_back-gates.ensures.0.left.left.within)

pub text_back-w-requires : goal.text_back-w-requires
unfolding line_at
text_back-w-requires c = (line_known _ c.requires.0 c.gates_back-gates.ensures.0.left.left (omega (arith, c.if-gates-eq0.false)) (c.gates_back-gates.ensures.1 (omega (arith, c.if-gates-eq0.false))), c.loop-e.invariant.0.long, omega (arith, (after_gates _ c.requires.0 c.gates_back-gates.ensures.0 c.with_observable-w.ensures c.loop-e.invariant.0).counted, c.if-gates-eq0.false), omega (arith, c.loop-e.invariant.1))

pub overflow_sub-k : goal.overflow_sub-k
overflow_sub-k c = line_left _ c.requires.0 c.gates_back-gates.ensures.0.left.left (omega (arith, c.if-gates-eq0.false)) (c.gates_back-gates.ensures.1 (omega (arith, c.if-gates-eq0.false)))

pub loop-e-smaller : goal.loop-e-smaller
loop-e-smaller c = omega (arith, (c.gates_back-gates.ensures.1 (omega (arith, c.if-gates-eq0.false))).within, c.gates_back-gates.ensures.0.within, c.if-gates-eq0.false)

pub loop-e-preserved : goal.loop-e-preserved
unfolding line_at
loop-e-preserved c = (going_on _ c.requires.0 (after_gates _ c.requires.0 c.gates_back-gates.ensures.0 c.with_observable-w.ensures c.loop-e.invariant.0) (omega (arith, c.if-gates-eq0.false)) (c.gates_back-gates.ensures.1 (omega (arith, c.if-gates-eq0.false))) _ _ c.text_back-w.ensures, omega (arith, c.text_back-w.auto.values, c.loop-e.invariant.1))

pub shape_of-set : goal.shape_of-set
shape_of-set c = c.loop-e.invariant.0.long ∙ sym c.requires.2

pub returns : goal.returns
returns c = going_done _ c.requires.0 c.loop-e.invariant.0 (omega (arith, c.loop-e-test.false))
