-- `shared_runs::first_refusal` meets its contract. Assumes nothing.
use mathlib.Core.Path.{refl}
use borrow.Author.Tests.{eq-eqb, ne_eqb}
use Rattle.shared_runs.specs.Refusal.{first_refusal_of}
use Rattle.shared_runs.proofs.first_refusal.Goals as goal

pub returns-then-answer-ne0 : goal.returns-then-answer-ne0
unfolding first_refusal_of
returns-then-answer-ne0 c = rw (ne_eqb _ 0 c.if-answer-ne0.true) refl

pub returns-in-Ok : goal.returns-in-Ok
unfolding first_refusal_of
returns-in-Ok c = rw (eq-eqb _ 0 c.if-answer-ne0.false, c.accepted.ensures, ← c.in-Ok.ensures) refl

pub returns-in-Err : goal.returns-in-Err
unfolding first_refusal_of
returns-in-Err c = rw (eq-eqb _ 0 c.if-answer-ne0.false, c.refused.ensures, ← c.in-Err.ensures) refl
