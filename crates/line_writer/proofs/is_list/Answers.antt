-- `line_writer::is_list` meets its contract. Assumes nothing.
use borrow.Author.Tests.{ne_eqb}
use Rattle.line_writer.specs.Line.{is_list_of}
use Rattle.line_writer.proofs.is_list.Goals as goal

pub returns-in-76 : goal.returns-in-76
unfolding is_list_of
returns-in-76 c = simp c.in-76.is

pub returns-in-81 : goal.returns-in-81
unfolding is_list_of
returns-in-81 c = simp c.in-81.is

pub returns-in-67 : goal.returns-in-67
unfolding is_list_of
returns-in-67 c = simp c.in-67.is

pub returns-in_default : goal.returns-in_default
unfolding is_list_of
returns-in_default c = let r = c.in_default.in_default-own.rest in simp (ne_eqb _ _ r.1, ne_eqb _ _ r.0.1, ne_eqb _ _ r.0.0.1)
