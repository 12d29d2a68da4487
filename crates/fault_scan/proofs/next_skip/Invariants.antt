-- `fault_scan::next_skip` meets its contract. The invariant: the words before this one bring no fault.
use Rattle.std.proofs.Common.{◌-◌, ◌≤◌, ◌++◌}
use Rattle.fault_scan.specs.Scan.{Quiet}
use Rattle.fault_scan.proofs.next_skip.Given as goal

abbrev pub invariant-loop-at : goal.invariant-loop-at
invariant-loop-at l = (l.i ≤ l.n) × Quiet l.p (l.words ++ l.more) l.at l.i

abbrev pub decreases-loop-at : goal.decreases-loop-at
decreases-loop-at l = l.n - l.i

-- the l.words of both parts are not too many
