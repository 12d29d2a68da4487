-- `noise::condition::start_mask` meets its contract.
use Rattle.std.proofs.Common.{eq-eqb, ne_eqb}
use Rattle.pauli.proofs.Laws.Word.{bit_zero}
use Rattle.noise.specs.Laws.Condition.{bit_ones}
use Rattle.noise.proofs.condition.start_mask.Goals as goal

pub returns-then-count-eq0 : goal.returns-then-count-eq0
returns-then-count-eq0 c = λ k h. rw (eq-eqb _ 0 c.if-count-eq0.true) (bit_ones k h)

pub returns-then-parity-eq1 : goal.returns-then-parity-eq1
returns-then-parity-eq1 c = λ k h. rw (ne_eqb _ 0 c.if-count-eq0.false, eq-eqb _ 1 c.if-parity-eq1.true) (bit_zero k)

pub returns : goal.returns
returns c = λ k h. rw (ne_eqb _ 0 c.if-count-eq0.false, ne_eqb _ 1 c.if-parity-eq1.false) (bit_ones k h)
