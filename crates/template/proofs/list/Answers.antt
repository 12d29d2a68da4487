-- `template::list` meets its contract. Assumes nothing.
use borrow.Author.Tests.{ne_eqb}
use Rattle.text.specs.List.{list_T}
use Rattle.template.specs.Fields.{list_by_of}
use Rattle.template.proofs.list.Goals as goal

pub returns-in-76 : goal.returns-in-76
unfolding list_by_of
returns-in-76 c = simp c.in-76.is c.list_l.ensures

pub returns-in-81 : goal.returns-in-81
unfolding list_by_of
returns-in-81 c = simp c.in-81.is c.list_q.ensures

pub returns-in-84 : goal.returns-in-84
unfolding list_by_of list_T
returns-in-84 c = simp c.in-84.is c.list_by.ensures

pub returns-in_default : goal.returns-in_default
unfolding list_by_of
returns-in_default c = let r = c.in_default.in_default-own.rest in simp (ne_eqb _ _ r.1, ne_eqb _ _ r.0.1, ne_eqb _ _ r.0.0.1) c.list_c.ensures
