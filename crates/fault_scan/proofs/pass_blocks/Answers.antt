use Rattle.std.proofs.Common.{arith}
use Rattle.fault_scan.specs.Laws.Scan.{passed_none, passed_then}
use Rattle.fault_scan.proofs.pass_blocks.Goals as goal

pub loop-i-init : goal.loop-i-init
loop-i-init c = passed_none

pub loop-i-preserved : goal.loop-i-preserved
loop-i-preserved c = passed_then c.loop-i.invariant record { within = omega arith; quiet = c.has_fault.ensures c.if-has_fault.false }
