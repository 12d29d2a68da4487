use native.Mathlib.Omega.{arith}
use mathlib.Core.Path.{◌≡◌}
use Rattle.lines_from_last.specs.Laws.Starts.{no_lf_none, found_more}
use Rattle.lines_from_last.proofs.has_lf.Goals as goal

pub loop-k-init : goal.loop-k-init
loop-k-init c = (omega arith, λ _. no_lf_none c.args.job.now c.args.from)

-- src/lib.rt:18:30

pub overflow_add-found : goal.overflow_add-found
overflow_add-found c = omega arith

-- src/lib.rt:18:26

pub bounds-job-from : goal.bounds-job-from
bounds-job-from c = omega arith

-- src/lib.rt:19:9

pub loop-k-preserved : goal.loop-k-preserved
loop-k-preserved c = (omega arith, found_more _ _ _ _ c.loop-k.invariant.1)

-- src/lib.rt:11:1

pub returns : goal.returns
returns c =
    let all : c.loop-k.k ≡ 8 = omega (arith, c.loop-k-test.false, c.loop-k.invariant.0) in
    λ clear. rw all at (c.loop-k.invariant.1 clear)
