-- `numbers::bit` meets its contract. Assumes nothing.
use borrow.Author.Tests.{ne_eqb}
use Rattle.text.specs.Number.{bit_of}
use Rattle.numbers.specs.Read.{read}
use Rattle.numbers.proofs.bit.Goals as goal

pub returns-then-s-ne1 : goal.returns-then-s-ne1
unfolding read bit_of
returns-then-s-ne1 c = simp (ne_eqb _ _ c.if-s-ne1.true)

pub returns-in-48 : goal.returns-in-48
unfolding read bit_of
returns-in-48 c = simp (c.if-s-ne1.false, c.in-48.is)

pub returns-in-49 : goal.returns-in-49
unfolding read bit_of
returns-in-49 c = simp (c.if-s-ne1.false, c.in-49.is)

pub returns-in_default : goal.returns-in_default
unfolding read bit_of
returns-in_default c = simp (c.if-s-ne1.false, ne_eqb _ _ c.in_default.in_default-own.rest.1, ne_eqb _ _ c.in_default.in_default-own.rest.0.1)
