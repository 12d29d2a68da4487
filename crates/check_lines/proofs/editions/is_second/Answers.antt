-- `check_lines::editions::is_second` meets its contract. Assumes nothing.
use Rattle.check_lines.specs.Laws.Editions.{unitary_second, reset_second, barrier_second, others_first}
use Rattle.check_lines.proofs.editions.is_second.Goals as goal

pub returns-in-Unitary : goal.returns-in-Unitary
returns-in-Unitary c = λ vs w h. rw c.number.ensures (unitary_second (rw c.in-Unitary.is at h))

pub returns-in-Reset : goal.returns-in-Reset
returns-in-Reset c = λ vs w h. rw c.count.ensures (reset_second (rw c.in-Reset.is at h))

pub returns-in-Barrier : goal.returns-in-Barrier
returns-in-Barrier c = λ vs w h. barrier_second (rw c.in-Barrier.is at h)

pub returns-in_default : goal.returns-in_default
returns-in_default c = λ vs w h.
    others_first _ vs h.says
    c.in_default.not-Unitary
    c.in_default.not-Reset
    c.in_default.not-Barrier
