-- `blocks::exchange` meets its contract: each round halves the width of the squares whose inside is as it was.
use borrow.Author.Rules.{rules}
use Rattle.pauli.specs.Bits.{◌⊕◌, bit}
use Rattle.blocks.specs.Exchange.{all_below, is_mask}
use Rattle.blocks.specs.Laws.Round.{turned_none, turned_more, turned_all}
use Rattle.blocks.proofs.exchange.Goals as goal

pub round-requires : goal.round-requires
unfolding is_mask all_below ◌⊕◌ bit
round-requires c = search rules

pub round-requires-2 : goal.round-requires-2
unfolding is_mask all_below ◌⊕◌ bit
round-requires-2 c = search rules

pub round-requires-3 : goal.round-requires-3
unfolding is_mask all_below ◌⊕◌ bit
round-requires-3 c = search rules

pub round-requires-4 : goal.round-requires-4
unfolding is_mask all_below ◌⊕◌ bit
round-requires-4 c = search rules

pub round-requires-5 : goal.round-requires-5
unfolding is_mask all_below ◌⊕◌ bit
round-requires-5 c = search rules

pub round-requires-6 : goal.round-requires-6
unfolding is_mask all_below ◌⊕◌ bit
round-requires-6 c = search rules

pub returns : goal.returns
returns c =
    let t64 = turned_none _ c.requires in
    let t32 = turned_more 32 _ _ _ t64 c.round.ensures in
    let t16 = turned_more 16 _ _ _ t32 c.round-2.ensures in
    let t8 = turned_more 8 _ _ _ t16 c.round-3.ensures in
    let t4 = turned_more 4 _ _ _ t8 c.round-4.ensures in
    let t2 = turned_more 2 _ _ _ t4 c.round-5.ensures in
    let t1 = turned_more 1 _ _ _ t2 c.round-6.ensures in
    turned_all _ _ t1
