use native.Mathlib.Omega.{arith}
use Rattle.numbers.specs.Laws.Pieces.{search_none, search_block}
use Rattle.numbers.proofs.pieces.pass_blocks.Goals as goal

pub loop-i-init : goal.loop-i-init
loop-i-init c = search_none c.requires

pub overflow_sub-s : goal.overflow_sub-s
overflow_sub-s c = c.loop-i.invariant.within

pub has_sep-requires : goal.has_sep-requires
has_sep-requires c = omega arith

pub returns-then-has_sep : goal.returns-then-has_sep
returns-then-has_sep c = let q = c.loop-i.invariant in (q.same, q.onward, q.within)

pub overflow_add-i : goal.overflow_add-i
overflow_add-i c = omega arith

pub loop-i-smaller : goal.loop-i-smaller
loop-i-smaller c = omega arith

pub loop-i-preserved : goal.loop-i-preserved
loop-i-preserved c = search_block c.loop-i.invariant (omega arith) (c.has_sep.ensures c.if-has_sep.false)

pub returns : goal.returns
returns c = let q = c.loop-i.invariant in (q.same, q.onward, q.within)
