-- `known_lines::read_lists` meets its contract. Assumes nothing.
use native.Mathlib.Omega.{arith}
use Rattle.known_lines.specs.Laws.Lists.{second_there, lists_put}
use Rattle.known_lines.proofs.read_lists.Goals as goal

pub set_known-requires : goal.set_known-requires
set_known-requires c =
    let pre = c.requires in
    (omega (arith, pre.0), omega (arith, pre.2, c.set_known-behind.auto), second_there c.set_known-behind.ensures pre.1)

pub returns : goal.returns
returns c = lists_put c.set_known-behind.ensures c.set_known.ensures
