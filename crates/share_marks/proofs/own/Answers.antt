-- `share_marks::own` meets its contract. Assumes nothing.
use native.Mathlib.Omega.{arith}
use Rattle.share_marks.proofs.Laws.Parts.{stretch, own_part}
use Rattle.share_marks.proofs.own.Goals as goal

pub overflow_add-from : goal.overflow_add-from
overflow_add-from c = let s = stretch c.requires.0 c.requires.1 c.sum_up_to-start.ensures in omega (arith, s.ends, s.within)

pub overflow_add-end : goal.overflow_add-end
overflow_add-end c = let s = stretch c.requires.0 c.requires.1 c.sum_up_to-start.ensures in omega (arith, s.ends, s.within)

pub offset_bounds-main-from : goal.offset_bounds-main-from
offset_bounds-main-from c = let s = stretch c.requires.0 c.requires.1 c.sum_up_to-start.ensures in omega (arith, s.ends, s.within)

pub slice_bounds-result-count : goal.slice_bounds-result-count
slice_bounds-result-count c = let s = stretch c.requires.0 c.requires.1 c.sum_up_to-start.ensures in omega (arith, s.ends, s.within)

pub slice_bounds-result-start : goal.slice_bounds-result-start
slice_bounds-result-start c = let s = stretch c.requires.0 c.requires.1 c.sum_up_to-start.ensures in omega (arith, s.ends, s.within)

pub slice_bounds-result-end : goal.slice_bounds-result-end
slice_bounds-result-end c = let s = stretch c.requires.0 c.requires.1 c.sum_up_to-start.ensures in omega (arith, s.ends, s.within)

pub returns : goal.returns
returns c = own_part _ _ _ _ _ (stretch c.requires.0 c.requires.1 c.sum_up_to-start.ensures)
