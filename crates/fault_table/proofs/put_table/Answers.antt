use native.Mathlib.Omega.{arith}
use mathlib.Core.Path.{refl, ◌∙◌}
use Rattle.job.proofs.Theorems.{checked_sound}
use Rattle.instructions.specs.Reading.{line_at}
use Rattle.lines_from_last.specs.Laws.Left.{line_left}
use Rattle.fault_table.specs.Laws.Going.{going_first, going_done, line_readable, line_element, rows_ready, turn}
use Rattle.fault_table.proofs.put_table.Goals as goal

pub loop-e-init : goal.loop-e-init
loop-e-init c = ((λ q. going_first q _ refl), refl, refl, omega arith)

pub overflow_sub-e : goal.overflow_sub-e
overflow_sub-e c = omega (arith, c.loop-e-test.true)

pub line_start-at-requires : goal.line_start-at-requires
line_start-at-requires c = let g = c.loop-e.invariant.0 c.requires in (omega (arith, c.loop-e-test.true, g.left.within), g.left.starts (omega (arith, c.loop-e-test.true)))

pub overflow_sub-e-in-loop-e : goal.overflow_sub-e-in-loop-e
overflow_sub-e-in-loop-e c = omega (arith, c.loop-e-test.true)

pub slice_bounds-read_line-count : goal.slice_bounds-read_line-count
slice_bounds-read_line-count c = omega (arith, c.line_start-at.ensures.within)

pub slice_bounds-read_line-start : goal.slice_bounds-read_line-start
slice_bounds-read_line-start c = omega (arith, c.line_start-at.ensures.within)

pub slice_bounds-read_line-end : goal.slice_bounds-read_line-end
slice_bounds-read_line-end c = let g = c.loop-e.invariant.0 c.requires in omega (arith, c.line_start-at.ensures.within, g.left.within)

pub keep_marks-requires : goal.keep_marks-requires
unfolding line_at
keep_marks-requires c = let q = c.requires in let g = c.loop-e.invariant.0 q in (line_element q g c.loop-e.invariant.1 c.loop-e-test.true c.line_start-at.ensures c.read_line-form.ensures (omega (arith, c.loop-e.invariant.3, c.read_line-form.auto)), q.few, g.words, g.bytes_kept)

pub put_rows-place-requires : goal.put_rows-place-requires
unfolding line_at
put_rows-place-requires c = let q = c.requires in let g = c.loop-e.invariant.0 q in rows_ready q g c.loop-e.invariant.1 c.loop-e-test.true c.line_start-at.ensures c.read_line-form.ensures (omega (arith, c.loop-e.invariant.3, c.read_line-form.auto)) c.keep_marks.ensures c.keep_marks.auto.kept

pub line_on_groups-requires : goal.line_on_groups-requires
unfolding line_at
line_on_groups-requires c = let q = c.requires in let g = c.loop-e.invariant.0 q in (line_readable q g c.loop-e.invariant.1 c.loop-e-test.true c.line_start-at.ensures c.read_line-form.ensures (omega (arith, c.loop-e.invariant.3, c.read_line-form.auto)), g.words)

pub kept_after-n-requires : goal.kept_after-n-requires
kept_after-n-requires c = let q = c.requires in let g = c.loop-e.invariant.0 q in omega (arith, g.counted, c.loop-e-test.true, (checked_sound _ q.passes).few_bytes)

pub overflow_sub-k : goal.overflow_sub-k
overflow_sub-k c = let q = c.requires in let g = c.loop-e.invariant.0 q in line_left _ q.passes g.left (omega (arith, c.loop-e-test.true)) c.line_start-at.ensures

pub loop-e-smaller : goal.loop-e-smaller
loop-e-smaller c = omega (arith, c.line_start-at.ensures.within, c.loop-e-test.true)

pub loop-e-preserved : goal.loop-e-preserved
unfolding line_at
loop-e-preserved c = ((λ q. turn q (c.loop-e.invariant.0 q) c.loop-e.invariant.1 c.loop-e-test.true c.line_start-at.ensures c.read_line-form.ensures (omega (arith, c.loop-e.invariant.3, c.read_line-form.auto)) c.keep_marks.ensures c.keep_marks.auto.kept c.put_rows-place.ensures c.put_rows-place.auto.out c.line_on_groups.ensures c.line_on_groups.auto.state c.kept_after-n.ensures), c.put_rows-place.auto.out ∙ c.loop-e.invariant.1, c.line_on_groups.auto.state ∙ c.loop-e.invariant.2, omega (arith, c.read_line-form.auto, c.loop-e.invariant.3))

pub shape_of-out : goal.shape_of-out
shape_of-out c = c.loop-e.invariant.1

pub shape_of-state : goal.shape_of-state
shape_of-state c = c.loop-e.invariant.2

pub returns : goal.returns
returns c = λ q. going_done q (c.loop-e.invariant.0 q) c.loop-e.invariant.1 (omega (arith, c.loop-e-test.false))
