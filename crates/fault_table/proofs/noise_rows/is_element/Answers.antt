-- `fault_table::noise_rows::is_element` meets its contract. Assumes nothing.
use Rattle.std.proofs.Common.{inl, inr}
use Rattle.fault_table.specs.Laws.Keeping.{an_element, a_weighted_element, no_element_lem}
use Rattle.fault_table.proofs.noise_rows.is_element.Goals as goal

pub returns-in-Element : goal.returns-in-Element
returns-in-Element c = λ vs w s. elim c.in-Element.is [ inl e ↦ an_element e vs w s | inr e ↦ a_weighted_element e vs w s ]

pub returns-in_default : goal.returns-in_default
returns-in_default c = λ vs w s. no_element_lem _ c.in_default.not-Element c.in_default.not-WeightedElement vs w s
