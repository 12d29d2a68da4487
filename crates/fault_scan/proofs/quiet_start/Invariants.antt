-- `fault_scan::quiet_start` meets its contract. The invariant: of the words from this one on none before the first brings a fault.
use Rattle.fault_scan.specs.Laws.Scan.{Before}
use Rattle.fault_scan.proofs.quiet_start.Given as goal

abbrev pub invariant-loop-i : goal.invariant-loop-i
invariant-loop-i l = Before l.threshold l.words l.at l.i l.first
