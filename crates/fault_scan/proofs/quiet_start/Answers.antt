use Rattle.std.proofs.Common.{arith}
use Rattle.fault_scan.specs.Laws.Scan.{before_none, before_next, before_passed}
use Rattle.fault_scan.proofs.quiet_start.Goals as goal

pub loop-i-init : goal.loop-i-init
loop-i-init c = before_none

pub loop-i-preserved : goal.loop-i-preserved
loop-i-preserved c =
    let i = c.loop-i.invariant in
    let r = c.earlier-first.ensures in
    before_next (omega arith) i (omega (arith, r.0, i.from)) r.1 r.2

pub returns : goal.returns
returns c = before_passed (omega arith) c.loop-i.invariant
