-- `lines_back::carry::clifford_back` meets its contract. Assumes nothing.
use Rattle.pauli.specs.Fixed.{as_pauli}
use Rattle.lines_back.specs.Laws.Images.{clifford_done}
use Rattle.lines_back.proofs.carry.clifford_back.Goals as goal

pub returns : goal.returns
unfolding as_pauli
returns c = clifford_done _ c.requires.2 _ _ _ _ _ _ c.parts_at-x.ensures c.parts_at-z.ensures c.add_parts.ensures.0 c.add_parts.ensures.1 _ c.requires.1 c.rows_anticommute-new_x.ensures c.rows_anticommute-new_z.ensures
