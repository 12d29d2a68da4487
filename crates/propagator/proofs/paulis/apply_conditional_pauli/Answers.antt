-- `propagator::paulis::apply_conditional_pauli` meets its contract.
use native.Mathlib.Omega.{arith}
use Rattle.propagator.specs.Laws.Lists.{rows_in}
use Rattle.propagator.specs.Laws.Paulis.{conditional_acts}
use Rattle.propagator.proofs.paulis.apply_conditional_pauli.Goals as goal

pub sum_listed-requires : goal.sum_listed-requires
sum_listed-requires c = (omega arith, rows_in _ _ _ _ c.requires.3 c.requires.5)

pub add_pauli-requires : goal.add_pauli-requires
add_pauli-requires c = (omega (arith, c.sum_listed.auto, c.requires.0), c.requires.1, c.requires.2, c.requires.4)

pub returns : goal.returns
returns c = λ parity. let p = c.requires in conditional_acts _ _ _ _ _ _ _ parity _ _ _ _ _ p.0 p.5 p.6 c.sum_listed.ensures (c.add_pauli.ensures _)
