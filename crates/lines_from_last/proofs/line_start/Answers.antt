use Prim.Native.Nat.{◌-◌}
use native.Mathlib.Omega.{arith}
use mathlib.Core.Path.{◌≡◌}
use Rattle.lines_from_last.specs.Laws.Starts.{line_before, free_more, free_two}
use Rattle.lines_from_last.proofs.line_start.Goals as goal

pub skip_blocks-i-requires : goal.skip_blocks-i-requires
skip_blocks-i-requires c = c.requires.0

pub loop-i-init : goal.loop-i-init
loop-i-init c = c.skip_blocks-i.ensures

pub overflow_sub-i : goal.overflow_sub-i
overflow_sub-i c = omega arith

pub bounds-job-i : goal.bounds-job-i
bounds-job-i c = omega arith

pub returns-then-job-i-eq10 : goal.returns-then-job-i-eq10
returns-then-job-i-eq10 c = line_before _ _ _ c.requires.0 c.requires.1 c.loop-i.invariant.0 (λ _. c.if-job-i-eq10.true) c.loop-i.invariant.1

pub overflow_sub-i-in-loop-i : goal.overflow_sub-i-in-loop-i
overflow_sub-i-in-loop-i c = omega arith

pub bounds-job-i-in-loop-i : goal.bounds-job-i-in-loop-i
bounds-job-i-in-loop-i c = omega arith

pub overflow_sub-result : goal.overflow_sub-result
overflow_sub-result c = omega arith

pub returns-then-job-i-eq10-2 : goal.returns-then-job-i-eq10-2
returns-then-job-i-eq10-2 c = let two : c.loop-i.i - 1 - 1 ≡ c.loop-i.i - 2 = omega arith in line_before _ _ (c.loop-i.i - 1) c.requires.0 c.requires.1 (omega arith) (λ _. rw two c.if-job-i-eq10-2.true) (free_more _ _ _ c.requires.0 c.loop-i.invariant.0 (omega arith) c.if-job-i-eq10.false c.loop-i.invariant.1)

pub overflow_sub-i-in-loop-i-2 : goal.overflow_sub-i-in-loop-i-2
overflow_sub-i-in-loop-i-2 c = omega arith

pub loop-i-smaller : goal.loop-i-smaller
loop-i-smaller c = omega arith

pub loop-i-preserved : goal.loop-i-preserved
loop-i-preserved c = (omega arith, free_two _ _ _ c.requires.0 c.loop-i.invariant.0 c.loop-i-test.true c.if-job-i-eq10.false c.if-job-i-eq10-2.false c.loop-i.invariant.1)

pub returns-then-i-eq0 : goal.returns-then-i-eq0
returns-then-i-eq0 c = line_before _ _ 0 c.requires.0 c.requires.1 (omega arith) (λ p. absurd (omega arith)) (rw c.if-i-eq0.true at c.loop-i.invariant.1)

pub bounds-job-0 : goal.bounds-job-0
bounds-job-0 c = omega arith

pub returns-then-job-eq10 : goal.returns-then-job-eq10
returns-then-job-eq10 c = let one : c.loop-i.i ≡ 1 = omega (arith, c.loop-i-test.false, c.if-i-eq0.false) in line_before _ _ 1 c.requires.0 c.requires.1 (omega arith) (λ _. c.if-job-eq10.true) (rw one at c.loop-i.invariant.1)

pub returns : goal.returns
returns c = let one : c.loop-i.i ≡ 1 = omega (arith, c.loop-i-test.false, c.if-i-eq0.false) in line_before _ _ 0 c.requires.0 c.requires.1 (omega arith) (λ p. absurd (omega arith)) (free_more _ _ 1 c.requires.0 (omega arith) (omega arith) c.if-job-eq10.false (rw one at c.loop-i.invariant.1))
