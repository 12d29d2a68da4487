-- `execution::injection::inject_listed` meets its contract. Assumes nothing.
use mathlib.Core.Path.{◌∙◌}
use Rattle.propagator.specs.Laws.Lists.{sound_in}
use Rattle.execution.proofs.injection.inject_listed.Goals as goal

pub inject_pauli-requires : goal.inject_pauli-requires
inject_pauli-requires c =
    let r = c.requires.0 in
    (c.requires.1, c.requires.2, rw (c.element_x.ensures ∙ r.held.x, c.element_z.ensures ∙ r.held.z) (sound_in _ _ r.sound), c.requires.3)

pub returns : goal.returns
returns c = λ P held m d. rw (← (c.element_x.ensures ∙ held.x), ← (c.element_z.ensures ∙ held.z)) (c.inject_pauli.ensures m d)
