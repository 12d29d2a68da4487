-- `lines_back::carry::row_anticommutes` meets its contract. Assumes nothing.
use Rattle.lines_back.specs.Laws.Packed.{clashes_odd}
use Rattle.lines_back.proofs.carry.row_anticommutes.Goals as goal

pub returns : goal.returns
returns c = clashes_odd _ _ _ _ c.requires.1 c.requires.2
