-- `template::put_value` meets its contract. Assumes nothing.
use borrow.Author.Tests.{ne_eqb}
use Rattle.text.specs.Template.{value_of}
use Rattle.template.specs.Fields.{list_by_of}
use Rattle.template.specs.Laws.Reading.{no_value, list_value}
use Rattle.template.proofs.put_value.Goals as goal

pub returns-in-78 : goal.returns-in-78
unfolding value_of
returns-in-78 c = simp (c.in-78.is, ← c.number.ensures) c.put_number.ensures

pub returns-in-72 : goal.returns-in-72
unfolding value_of
returns-in-72 c = simp (c.in-72.is, ← c.hex16.ensures) c.put_number-in-72.ensures

pub returns-in-66 : goal.returns-in-66
unfolding value_of
returns-in-66 c = simp (c.in-66.is, ← c.bit.ensures) c.put_number-in-66.ensures

pub returns-in-76 : goal.returns-in-76
unfolding value_of list_by_of
returns-in-76 c =
    let a = c.args in
    let key = c.in-76.is in
    list_value a.letter a.bytes.now (simp key) (simp key) (simp key) c.put_list.ensures

pub returns-in-81 : goal.returns-in-81
unfolding value_of list_by_of
returns-in-81 c =
    let a = c.args in
    let key = c.in-81.is in
    list_value a.letter a.bytes.now (simp key) (simp key) (simp key) c.put_list-in-81.ensures

pub returns-in-84 : goal.returns-in-84
unfolding value_of list_by_of
returns-in-84 c =
    let a = c.args in
    let key = c.in-84.is in
    list_value a.letter a.bytes.now (simp key) (simp key) (simp key) c.put_list-in-84.ensures

pub returns-in-67 : goal.returns-in-67
unfolding value_of list_by_of
returns-in-67 c =
    let a = c.args in
    let key = c.in-67.is in
    list_value a.letter a.bytes.now (simp key) (simp key) (simp key) c.put_list-in-67.ensures

pub returns-in_default : goal.returns-in_default
unfolding value_of
returns-in_default c =
    let r = c.in_default.in_default-own.rest in
    no_value _ _ _ _ _ _ (simp (ne_eqb _ _ r.1, ne_eqb _ _ r.0.1, ne_eqb _ _ r.0.0.1, ne_eqb _ _ r.0.0.0.1, ne_eqb _ _ r.0.0.0.0.1, ne_eqb _ _ r.0.0.0.0.0.1, ne_eqb _ _ r.0.0.0.0.0.0.1))
