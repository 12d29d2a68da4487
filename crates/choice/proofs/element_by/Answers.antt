use native.Mathlib.Omega.{arith}
use Rattle.choice.specs.Laws.Sums.{below_none, below_more, below_stops, below_last, below_two}
use Rattle.choice.proofs.element_by.Goals as goal

pub loop-i-init : goal.loop-i-init
loop-i-init c = below_none

pub returns-then-not-sums-i : goal.returns-then-not-sums-i
returns-then-not-sums-i c = below_stops c.loop-i.invariant (omega arith) (c.if-not-sums-i.true)

pub returns-then-not-sums-second : goal.returns-then-not-sums-second
returns-then-not-sums-second c =
    let first = below_more c.loop-i.invariant (omega arith) (c.if-not-sums-i.false) in
    below_stops first (omega arith) (c.if-not-sums-second.true)

pub loop-i-preserved : goal.loop-i-preserved
loop-i-preserved c =
    let first = below_more c.loop-i.invariant (omega arith) (c.if-not-sums-i.false) in
    below_more first (omega arith) (c.if-not-sums-second.false)

pub returns-then-sums-i-gt1 : goal.returns-then-sums-i-gt1
returns-then-sums-i-gt1 c = below_two c.loop-i.invariant (omega arith) (omega arith)

pub returns : goal.returns
returns c = below_last c.loop-i.invariant (omega arith)
