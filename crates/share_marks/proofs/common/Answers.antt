-- `share_marks::common` meets its contract. Assumes nothing.
use native.Mathlib.Omega.{arith}
use Rattle.share_marks.proofs.Laws.Parts.{behind_all, common_part}
use Rattle.share_marks.proofs.common.Goals as goal

pub slice_bounds-result-count : goal.slice_bounds-result-count
slice_bounds-result-count c = let e = behind_all c.requires c.sum_up_to.ensures in omega (arith, e, c.requires.total, c.requires.within.common)

pub slice_bounds-result-start : goal.slice_bounds-result-start
slice_bounds-result-start c = let e = behind_all c.requires c.sum_up_to.ensures in omega (arith, e, c.requires.total, c.requires.within.common)

pub returns : goal.returns
returns c = common_part _ _ _ _ (behind_all c.requires c.sum_up_to.ensures)
