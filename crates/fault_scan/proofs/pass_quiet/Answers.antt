-- `fault_scan::pass_quiet` meets its contract.
use Rattle.std.proofs.Common.{arith}
use Rattle.fault_scan.specs.Laws.Scan.{passed_then, passed_more}
use Rattle.fault_scan.proofs.pass_quiet.Goals as goal

pub returns : goal.returns
returns c = passed_then c.pass_blocks-i.ensures (passed_more (omega arith) c.quiet_start.ensures)
