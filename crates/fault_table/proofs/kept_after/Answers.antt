-- `fault_table::kept_after` meets its contract. Assumes nothing.
use Rattle.std.proofs.Common.{inl, inr}
use native.Mathlib.Omega.{arith}
use Rattle.fault_table.specs.Laws.Keeping.{an_element, a_weighted_element}
use Rattle.fault_table.specs.Laws.Kept.{element_kept, header_kept, edition_kept, none_kept}
use Rattle.fault_table.proofs.kept_after.Goals as goal

pub overflow_add-result : goal.overflow_add-result
overflow_add-result c = omega (arith, c.requires)

pub returns-in-Element : goal.returns-in-Element
returns-in-Element c = λ f vs w s. elim c.in-Element.is [ inl e ↦ element_kept _ w (an_element e vs w s.says) | inr e ↦ element_kept _ w (a_weighted_element e vs w s.says) ]

pub returns-in-Header : goal.returns-in-Header
returns-in-Header c = λ f vs w s. elim c.in-Header.is [ inl e ↦ header_kept _ vs w s.says e | inr e ↦ edition_kept _ vs w s.says e ]

pub returns-in_default : goal.returns-in_default
returns-in_default c = λ f vs w s. none_kept _ vs w s.says c.in_default.not-Header c.in_default.not-Element c.in_default.not-WeightedElement c.in_default.not-EditionHeader
