use mathlib.Core.Path.{sym, ap}
use lib.ListN.{length}
use Rattle.writer.specs.Laws.Lists.{list_empty}
use Rattle.writer.specs.Laws.Lengths.{commas_more, member_counted, members_counted}
use native.Mathlib.Omega.{arith}
use Rattle.writer.proofs.lengths.list_length.Goals as goal

pub returns-then-l-eq0 : goal.returns-then-l-eq0
returns-then-l-eq0 c = sym (ap length (list_empty _ c.if-l-eq0.true))

pub loop-n-init : goal.loop-n-init
loop-n-init c = (omega arith, omega arith)

pub digits-requires : goal.digits-requires
digits-requires c = tt

pub overflow_add-count : goal.overflow_add-count
overflow_add-count c = omega (arith, c.digits.ensures, member_counted c.args.l.now c.loop-n.n-index c.loop-n-test.true, c.loop-n.invariant.1, c.requires)

pub overflow_add-count-in-loop-n : goal.overflow_add-count-in-loop-n
overflow_add-count-in-loop-n c = omega (arith, c.digits.ensures, member_counted c.args.l.now c.loop-n.n-index c.loop-n-test.true, c.loop-n.invariant.1, c.requires)

pub loop-n-preserved : goal.loop-n-preserved
loop-n-preserved c = (omega arith, omega (arith, c.digits.ensures, member_counted c.args.l.now c.loop-n.n-index c.loop-n-test.true, c.loop-n.invariant.1))

pub overflow_sub-result : goal.overflow_sub-result
overflow_sub-result c = omega (arith, members_counted c.args.l.now c.loop-n.n-index c.loop-n-test.false, commas_more c.args.l.now c.if-l-eq0.false, c.loop-n.invariant.1)

pub returns : goal.returns
returns c = omega (arith, members_counted c.args.l.now c.loop-n.n-index c.loop-n-test.false, commas_more c.args.l.now c.if-l-eq0.false, c.loop-n.invariant.1)
