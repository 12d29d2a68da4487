-- `noise_text::put_element` meets its contract. Assumes nothing.
use Rattle.noise_text.specs.Laws.Elements.{whole_in, whole_is, qubits_in}
use Rattle.noise_text.specs.Elements.{element_in}
use lib.ListN.{length-take}
use native.Mathlib.Omega.{arith}
use Rattle.noise_text.proofs.put_element.Goals as goal

pub element_x-requires : goal.element_x-requires
element_x-requires c = let r = qubits_in c.in-Depolarizing.is c.requires.1 in (r.inside, r.few)

pub put_depolarizing-requires : goal.put_depolarizing-requires
put_depolarizing-requires c =
    let r = qubits_in c.in-Depolarizing.is c.requires.1 in
    (c.requires.0, rw (c.element_x.ensures, length-take) (omega (arith, r.few)), r.small)

pub put_kept-requires : goal.put_kept-requires
put_kept-requires c = (c.requires.0, whole_in c.args.distribution c.in_default.not-Depolarizing c.requires.1)

pub returns-in-Depolarizing : goal.returns-in-Depolarizing
unfolding element_in
returns-in-Depolarizing c = rw (c.in-Depolarizing.is, ← c.element_x.ensures) c.put_depolarizing.ensures

pub returns-in_default : goal.returns-in_default
returns-in_default c = rw (← whole_is c.args.elements.now c.args.e c.args.distribution c.in_default.not-Depolarizing) c.put_kept.ensures
