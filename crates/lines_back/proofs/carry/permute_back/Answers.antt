-- `lines_back::carry::permute_back` meets its contract. Assumes nothing.
use Rattle.pauli.specs.Fixed.{as_pauli}
use Rattle.lines_back.specs.Laws.Images.{fetchable, permute_done}
use Rattle.lines_back.proofs.carry.permute_back.Goals as goal

pub fetch-requires : goal.fetch-requires
fetch-requires c = fetchable _ _ c.requires.0 c.requires.3

pub fetch-requires-2 : goal.fetch-requires-2
fetch-requires-2 c = fetchable _ _ c.requires.0 c.requires.3

pub returns : goal.returns
unfolding as_pauli
returns c = permute_done _ c.requires.2 _ _ _ _ _ _ c.parts_at-x.ensures c.parts_at-z.ensures c.add_parts.ensures.0 c.add_parts.ensures.1 _ c.requires.3 c.fetch.ensures c.fetch-2.ensures
