-- `shots::next_fault` meets its contract: the first shot's draw as in `fault_from`, with no shot before it.
use native.Mathlib.Omega.{arith}
use Rattle.shots.specs.Laws.Shots.{later_none, found_spent, found_at}
use Rattle.shots.proofs.next_fault.Goals as goal

pub returns-in-Spent : goal.returns-in-Spent
returns-in-Spent c =
    found_spent later_none (omega arith) c.is_set.ensures (λ inside. c.falls_next.ensures c.if-falls_next.true) c.draw_shot.ensures c.in-Spent.is

pub returns-in-Fault : goal.returns-in-Fault
returns-in-Fault c =
    found_at later_none (omega arith) c.is_set.ensures (λ inside. c.falls_next.ensures c.if-falls_next.true) c.draw_shot.ensures _ _ c.in-Fault.is (omega arith)
