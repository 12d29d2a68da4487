use native.Mathlib.Omega.{arith}
use mathlib.Core.Path.{refl}
use Rattle.std.proofs.Common.{get_or-take, length-take-le}
use Rattle.shares.specs.Shares.{sum}
use Rattle.share_marks.proofs.Laws.Sums.{sum_more, sum_passes}
use Rattle.share_marks.proofs.sum_up_to.Goals as goal

pub loop-share-init : goal.loop-share-init
unfolding sum
loop-share-init c = (omega arith, omega arith, refl)

pub returns-then-most-total : goal.returns-then-most-total
returns-then-most-total c =
    let n = c.args.n in
    let s = c.args.shares.now in
    let i = c.loop-share.share-index in
    let inside = rw (length-take-le n s c.requires.0) at c.loop-share-test.true in
    let over = rw (get_or-take n s i 0 inside) at c.if-most-total.true in
    sum_passes s i n _ c.loop-share.invariant.2 inside c.requires.0 (omega (arith, over))

pub loop-share-preserved : goal.loop-share-preserved
loop-share-preserved c =
    let n = c.args.n in
    let s = c.args.shares.now in
    let i = c.loop-share.share-index in
    let inside = rw (length-take-le n s c.requires.0) at c.loop-share-test.true in
    let e = get_or-take n s i 0 inside in
    let below = rw e at c.if-most-total.false in
    rw e (omega (arith, inside), omega (arith, below, c.loop-share.invariant.1), sum_more s i c.loop-share.invariant.2 (omega (arith, inside, c.requires.0)))
