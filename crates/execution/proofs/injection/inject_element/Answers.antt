-- `execution::injection::inject_element` meets its contract. Assumes nothing.
use Rattle.faults.specs.Laws.Drawn.{held_element}
use Rattle.execution.specs.Laws.Elements.{element_depolarizing, depolarizing_ready, listed_ready}
use native.Mathlib.Omega.{arith}
use Rattle.execution.proofs.injection.inject_element.Goals as goal

pub element_x-requires : goal.element_x-requires
element_x-requires c = let r = depolarizing_ready c.requires.0 _ c.in-Depolarizing.is in (omega (arith, c.requires.0.room), r.few)

pub inject_depolarizing-requires : goal.inject_depolarizing-requires
inject_depolarizing-requires c =
    let r = depolarizing_ready c.requires.0 _ c.in-Depolarizing.is in
    let qubits = c.element_x.ensures in
    (c.requires.1, c.requires.2, rw qubits r.operands.below, rw qubits r.operands.apart, r.small, c.requires.3)

pub inject_listed-requires : goal.inject_listed-requires
inject_listed-requires c = (listed_ready c.requires.0 c.in_default.not-Depolarizing, c.requires.1, c.requires.2, c.requires.3)

pub returns-in-Depolarizing : goal.returns-in-Depolarizing
returns-in-Depolarizing c =
    record {
      acts = λ D sums chooses held below m deltas.
          rw (element_depolarizing chooses _ c.in-Depolarizing.is _ held _, ← c.element_x.ensures) (c.inject_depolarizing.ensures m deltas);
    }

pub returns-in_default : goal.returns-in_default
returns-in_default c =
    record {
      acts = λ D sums chooses held below m deltas.
          c.inject_listed.ensures _ (held_element chooses c.in_default.not-Depolarizing _ below _ held) m deltas;
    }
