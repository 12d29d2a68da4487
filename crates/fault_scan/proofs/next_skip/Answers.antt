use Rattle.std.proofs.Common.{arith}
use Rattle.fault_scan.specs.Laws.Scan.{quiet_none, quiet_then, stopped_then, stopped_near, stopped_skipped}
use Rattle.fault_scan.proofs.next_skip.Goals as goal

pub loop-at-init : goal.loop-at-init
loop-at-init c = (omega arith, quiet_none)

pub returns-then-near-lt-BLOCK : goal.returns-then-near-lt-BLOCK
returns-then-near-lt-BLOCK c =
    let far = c.pass_far-i.ensures in
    let quiet = c.loop-at.invariant.1 in
    stopped_skipped (omega (arith, c.min-n.ensures, c.count.ensures))
    (stopped_then (omega (arith, far.within)) (quiet_then quiet (far.quiet _ c.requires.1))
    (stopped_near c.min.ensures c.pass_near-near.ensures c.if-near-lt-BLOCK.true))

pub loop-at-preserved : goal.loop-at-preserved
loop-at-preserved c =
    let far = c.pass_far-i.ensures in
    let quiet = c.loop-at.invariant.1 in (
      omega (arith, far.within, c.pass_near-near.ensures.within),
      quiet_then (quiet_then quiet (far.quiet _ c.requires.1)) c.pass_near-near.ensures.quiet,
    )
