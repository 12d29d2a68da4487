use Prim.Native.Nat.{◌+◌, ◌-◌}
use native.Mathlib.Omega.{arith}
use mathlib.Core.Path.{◌≡◌}
use Rattle.lines_from_last.specs.Laws.Starts.{free_block, free_none}
use Rattle.lines_from_last.proofs.skip_blocks.Goals as goal

pub loop-i-init : goal.loop-i-init
loop-i-init c = (omega arith, free_none c.args.job.now c.args.e)

pub has_lf-requires : goal.has_lf-requires
has_lf-requires c = omega arith

pub returns-then-has_lf : goal.returns-then-has_lf
returns-then-has_lf c = c.loop-i.invariant

pub loop-i-smaller : goal.loop-i-smaller
loop-i-smaller c = omega arith

pub loop-i-preserved : goal.loop-i-preserved
loop-i-preserved c =
    let up : c.loop-i.i - 8 + 8 ≡ c.loop-i.i = omega arith in
    let (within, free) = c.loop-i.invariant in
    let clear = rw up at (c.has_lf.ensures c.if-has_lf.false) in
    (omega arith, free_block _ _ _ 8 c.requires within (omega arith) clear free)

pub returns : goal.returns
returns c = c.loop-i.invariant
