-- `fault_scan::pass_blocks` meets its contract. The invariant: the blocks before this one are passed over.
use Rattle.std.proofs.Common.{◌-◌}
use Rattle.fault_scan.specs.Scan.{Passed}
use Rattle.fault_scan.proofs.pass_blocks.Given as goal

abbrev pub invariant-loop-i : goal.invariant-loop-i
invariant-loop-i l = Passed l.threshold l.words l.at l.n l.i

abbrev pub decreases-loop-i : goal.decreases-loop-i
decreases-loop-i l = l.n - l.i
