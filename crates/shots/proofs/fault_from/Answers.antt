use Rattle.shots.specs.Laws.Shots.{falls_behind, quiet_within, later_none, later_skip, later_quiet, found_done, found_spent, found_at}
use lib.ListN.{length-append}
use native.Mathlib.Omega.{arith}
use Rattle.shots.proofs.fault_from.Goals as goal

pub loop-s-init : goal.loop-s-init
loop-s-init c = (omega arith, omega arith, omega arith, later_none)

pub next_skip-skip-requires : goal.next_skip-skip-requires
next_skip-skip-requires c = (omega arith, c.requires.3.threshold)

pub overflow_add-next : goal.overflow_add-next
overflow_add-next c = let a = c.args in record { fits = omega (arith, length-append a.words.now a.more.now, c.well_formed, c.next_skip-skip.ensures.within) }

pub returns-then-s-shots : goal.returns-then-s-shots
returns-then-s-shots c =
    let stays = c.next_skip-skip.ensures.within in
    found_done (later_skip c.loop-s.invariant.3 _ c.next_skip-skip.ensures.is) (omega arith) (omega (arith, stays))

pub returns-in-Spent : goal.returns-in-Spent
returns-in-Spent c =
    let stays = c.next_skip-skip.ensures.within in
    found_spent (later_skip c.loop-s.invariant.3 _ c.next_skip-skip.ensures.is) (omega arith) c.is_set.ensures (falls_behind _ _ _ _ _ _ c.next_skip-skip.ensures.is (omega arith)) c.draw_shot.ensures c.in-Spent.is

pub returns-in-Fault : goal.returns-in-Fault
returns-in-Fault c =
    let stays = c.next_skip-skip.ensures.within in
    found_at (later_skip c.loop-s.invariant.3 _ c.next_skip-skip.ensures.is) (omega arith) c.is_set.ensures (falls_behind _ _ _ _ _ _ c.next_skip-skip.ensures.is (omega arith)) c.draw_shot.ensures _ _ c.in-Fault.is (omega arith)

pub loop-s-preserved : goal.loop-s-preserved
loop-s-preserved c =
    let stays = c.next_skip-skip.ensures.within in (
      quiet_within c.draw_shot.ensures c.in-Quiet.is,
      omega arith,
      omega arith,
      later_quiet (later_skip c.loop-s.invariant.3 _ c.next_skip-skip.ensures.is) (omega arith) c.is_set.ensures (falls_behind _ _ _ _ _ _ c.next_skip-skip.ensures.is (omega arith)) c.draw_shot.ensures _ c.in-Quiet.is,
    )

pub returns : goal.returns
returns c = found_done c.loop-s.invariant.3 c.loop-s-test.false c.loop-s.invariant.0
