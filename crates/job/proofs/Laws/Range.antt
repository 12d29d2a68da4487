-- Sound lines are in range, as theorems about lists of lines ask. Laws. Assumes nothing.
use Rattle.std.specs.Prelude.{ℕ, ◌≤◌}
use Rattle.std.proofs.Common.{arith}
use Rattle.job.specs.declared.Header.{Header}
use Rattle.job.specs.Line.{Line}
use Rattle.job.specs.InRange.{InRange}
use Rattle.job.specs.Sound.{LineSound}

-- where no more outcomes are recorded than there are
pub line_in_range : (h : Header) (r : ℕ) (l : Line) → LineSound h r l → r ≤ h.outcomes → InRange h.qubits h.outcomes l
unfolding LineSound
line_in_range h r (Line.unitary g qs) s b = s.operands.below
line_in_range h r (Line.clifford qs t) s b = s.operands.below
line_in_range h r (Line.pauli P) s b = tt
line_in_range h r (Line.exponential P) s b = tt
line_in_range h r (Line.controlled C T) s b = tt
line_in_range h r (Line.permute p qs) s b = s.operands.below
line_in_range h r (Line.measure P id) s b = s.outcome.below
line_in_range h r (Line.allocate id angle) s b = tt
line_in_range h r (Line.conditional P ids par) s b = tt
line_in_range h r (Line.reset qs) s b = tt
line_in_range h r (Line.inject shot P) s b = tt
line_in_range h r (Line.flip shot id) s b = omega (arith, s.known)
line_in_range h r (Line.barrier qs) s b = tt
