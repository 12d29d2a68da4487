-- `fault_scan::has_fault` meets its contract. The invariant: where the top bit of what was seen is not set, no word before this one brings a fault.
use Rattle.std.proofs.Common.{◌≤◌}
use Rattle.fault_scan.specs.Laws.Scan.{Seen}
use Rattle.fault_scan.proofs.has_fault.Given as goal

abbrev pub invariant-loop-word : goal.invariant-loop-word
invariant-loop-word l = (l.word-index ≤ 8) × Seen l.threshold l.words l.at l.word-index l.seen
