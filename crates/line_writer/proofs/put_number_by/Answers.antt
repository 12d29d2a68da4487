-- `line_writer::put_number_by` meets its contract. Assumes nothing.
use borrow.Author.Tests.{eq-eqb, ne_eqb}
use Rattle.text.specs.Template.{value_text}
use Rattle.line_writer.proofs.put_number_by.Goals as goal

pub put_hex-requires : goal.put_hex-requires
unfolding value_text
put_hex-requires c = simp (eq-eqb _ _ c.if-t-eq72.true) at c.requires

pub returns-then-t-eq72 : goal.returns-then-t-eq72
unfolding value_text
returns-then-t-eq72 c = rw (eq-eqb _ _ c.if-t-eq72.true) c.put_hex.ensures

pub put_number-requires : goal.put_number-requires
unfolding value_text
put_number-requires c = simp (ne_eqb _ _ c.if-t-eq72.false) at c.requires

pub returns : goal.returns
unfolding value_text
returns c = rw (ne_eqb _ _ c.if-t-eq72.false) c.put_number.ensures
