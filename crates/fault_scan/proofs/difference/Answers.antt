-- `fault_scan::difference` meets its contract.
use Rattle.std.proofs.Common.{arith}
use Rattle.fault_scan.specs.Laws.Scan.{top_falls}
use Rattle.fault_scan.proofs.difference.Goals as goal

pub returns : goal.returns
returns c = λ p e. top_falls _ _ c.ranges.word.fits p e _ (omega arith) (omega arith)
