use Rattle.std.proofs.Common.{arith, ◌+◌, ◌-◌, length-take, length-drop, drop}
use Rattle.rows.proofs.Laws.Part.{put_cleared}
use Rattle.row_loops.proofs.clear.Goals as goal

pub returns : goal.returns
returns c =
    let at = c.args.at in
    let inv = c.loop-word.invariant in
    put_cleared at c.args.n (at + c.args.n - at) c.args.words.now c.loop-word.word-items (omega arith) (omega arith) inv.0
    (λ k h. inv.1 k (omega (arith, length-take (at + c.args.n - at) (drop at c.args.words.now), length-drop at c.args.words.now)))
