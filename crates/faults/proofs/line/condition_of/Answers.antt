-- `faults::line::condition_of` meets its contract.
use Rattle.faults.specs.Laws.Elements.{kept_size}
use Rattle.faults.specs.Laws.Line.{condition_held}
use mathlib.Core.Path.{refl}
use native.Mathlib.Omega.{arith}
use Rattle.faults.proofs.line.condition_of.Goals as goal

pub copy-requires : goal.copy-requires
copy-requires c = (omega arith, omega (arith, kept_size c.args.values.words.now 1 c.kept.ensures c.args.values.whole (omega arith)))

pub returns : goal.returns
returns c = condition_held _ _ _ _ refl c.kept.ensures c.copy.ensures c.count.ensures c.number.ensures
