-- `unitaries::gates::apply_cy` meets its contract.
use Rattle.unitaries.specs.Laws.Gates.{cy_acts}
use Rattle.unitaries.proofs.gates.apply_cy.Goals as goal

pub returns : goal.returns
returns c = λ d. cy_acts _ _ (c.apply_s.ensures d) (c.apply_cnot.ensures d) (c.apply_s-2.ensures d)
