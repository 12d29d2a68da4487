-- `fault_scan::pass_near` meets its contract. The invariant: the words before this one bring no fault.
use Rattle.std.proofs.Common.{◌≤◌, ◌++◌}
use Rattle.fault_scan.specs.Scan.{Quiet}
use Rattle.fault_scan.proofs.pass_near.Given as goal

abbrev pub invariant-loop-i : goal.invariant-loop-i
invariant-loop-i l = (l.i ≤ l.n) × Quiet l.p (l.words ++ l.more) l.at l.i
