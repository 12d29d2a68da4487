use Rattle.std.proofs.Common.{refl, arith, length-take, ◌+◌, ◌*◌, get_or}
use Rattle.rows.proofs.Laws.Part.{put_run}
use Rattle.blocks.proofs.gather.Goals as goal

pub overflow_mul-word : goal.overflow_mul-word
overflow_mul-word c = omega (arith, c.requires.1.inside c.loop-i.i (omega (arith, length-take c.args.n c.args.block.now)))

pub overflow_add-word : goal.overflow_add-word
overflow_add-word c = omega (arith, c.requires.1.inside c.loop-i.i (omega (arith, length-take c.args.n c.args.block.now)))

pub offset_bounds-src-from : goal.offset_bounds-src-from
offset_bounds-src-from c = omega (arith, c.requires.1.inside c.loop-i.i (omega (arith, length-take c.args.n c.args.block.now)))

pub bounds-src-from : goal.bounds-src-from
bounds-src-from c = omega (arith, c.requires.1.inside c.loop-i.i (omega (arith, length-take c.args.n c.args.block.now)))

pub returns : goal.returns
returns c =
    put_run 0 c.args.n c.args.n (λ k. get_or c.args.src.now (c.args.from + k * c.args.step) 0) c.args.block.now c.loop-i.word-items refl (omega arith) c.loop-i.invariant.0
    (λ k h. c.loop-i.invariant.1 k (omega (arith, length-take c.args.n c.args.block.now)))
