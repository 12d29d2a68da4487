use native.Mathlib.Omega.{arith}
use mathlib.Core.Path.{sym, ◌∙◌}
use lib.ListN.{length-set}
use Rattle.stream.specs.Laws.Block.{block_begun, block_turn, block_ended}
use Rattle.seed_words.proofs.fill_block.Goals as goal

pub loop-i-init : goal.loop-i-init
loop-i-init c =
    let from = c.jump-from.ensures in
    block_begun _ c.requires from.0 from.1 from.2

pub offset_bounds-words-i : goal.offset_bounds-words-i
offset_bounds-words-i c = omega arith

pub bounds-words-i : goal.bounds-words-i
bounds-words-i c = omega (arith, c.loop-i.invariant.written.same)

pub overflow_add-words : goal.overflow_add-words
overflow_add-words c = omega arith

pub offset_bounds-words-i-in-loop-i : goal.offset_bounds-words-i-in-loop-i
offset_bounds-words-i-in-loop-i c = omega arith

pub bounds-words-i-in-loop-i : goal.bounds-words-i-in-loop-i
bounds-words-i-in-loop-i c = simp length-set (omega (arith, c.loop-i.invariant.written.same))

pub overflow_mul-words : goal.overflow_mul-words
overflow_mul-words c = omega arith

pub overflow_add-words-in-loop-i : goal.overflow_add-words-in-loop-i
overflow_add-words-in-loop-i c = omega arith

pub offset_bounds-words-i-in-loop-i-2 : goal.offset_bounds-words-i-in-loop-i-2
offset_bounds-words-i-in-loop-i-2 c = omega arith

pub bounds-words-i-in-loop-i-2 : goal.bounds-words-i-in-loop-i-2
bounds-words-i-in-loop-i-2 c = simp length-set (omega (arith, c.loop-i.invariant.written.same))

pub overflow_mul-words-in-loop-i : goal.overflow_mul-words-in-loop-i
overflow_mul-words-in-loop-i c = omega arith

pub overflow_add-words-in-loop-i-2 : goal.overflow_add-words-in-loop-i-2
overflow_add-words-in-loop-i-2 c = omega arith

pub offset_bounds-words-i-in-loop-i-3 : goal.offset_bounds-words-i-in-loop-i-3
offset_bounds-words-i-in-loop-i-3 c = omega arith

pub bounds-words-i-in-loop-i-3 : goal.bounds-words-i-in-loop-i-3
bounds-words-i-in-loop-i-3 c = simp length-set (omega (arith, c.loop-i.invariant.written.same))

pub loop-i-preserved : goal.loop-i-preserved
loop-i-preserved c =
    let x = c.loop-i.invariant in
    let t = c.loop-i-test.true in
    block_turn _ _ _ _ x t
    c.step-a.ensures c.step-b.ensures c.step-c.ensures c.step-d.ensures

pub shape_of-words : goal.shape_of-words
shape_of-words c = c.loop-i.invariant.written.same ∙ sym c.requires

pub returns : goal.returns
returns c = block_ended c.loop-i.invariant c.loop-i-test.false
