-- `check_values::clifford::pair_fits` meets its contract. Assumes nothing.
use Rattle.check_values.specs.Laws.Pairs.{pair_fits}
use Rattle.check_values.proofs.clifford.pair_fits.Goals as goal

pub returns : goal.returns
returns c = λ t rows. pair_fits _ t _ _ c.anticommute.ensures (rows.row _ c.requires.2) (rows.row _ c.requires.3) c.paired.ensures
