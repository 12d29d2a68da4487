use native.Mathlib.Omega.{arith}
use mathlib.Core.Path.{◌≡◌}
use Prim.Native.Nat.{◌+◌, ◌*◌, ◌%◌}
use lib.ListN.{length}
use Rattle.stream.specs.Laws.Words.{fill_turn, fill_part, fill_ended, fill_refused, fill_done}
use Rattle.seed_words.proofs.fill.Goals as goal

pub returns-then-seed-eq0 : goal.returns-then-seed-eq0
returns-then-seed-eq0 c = fill_refused _ _ c.if-seed-eq0.true

pub loop-i-preserved : goal.loop-i-preserved
loop-i-preserved c =
    let f = c.loop-i.invariant in
    fill_turn _ f (omega (arith, f.same)) c.step-word.ensures

pub loop-k-preserved : goal.loop-k-preserved
loop-k-preserved c =
    let f = c.loop-k.invariant in
    let e = c.fill_block-state.ensures in
    let next : length c.args.words.now % 4096 + (c.loop-k.k + 1) * 4096 ≡ length c.args.words.now % 4096 + c.loop-k.k * 4096 + 4096 = omega arith in
    rw next (fill_part 4096 f (omega (arith, f.same)) e.0 e.1)

pub returns : goal.returns
returns c =
    let f = c.loop-k.invariant in
    let all = fill_ended f (omega (arith, f.same, c.loop-k-test.false)) in
    fill_done _ _ _ c.if-seed-eq0.false (rw c.loop-i.invariant.same at all)
