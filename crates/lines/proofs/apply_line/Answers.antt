-- `lines::apply_line` meets its contract. Assumes nothing.
use Rattle.lines.specs.Laws.Obey.{frame_ready, frame_obeyed, obeyed_as, idle_obeyed}
use Rattle.lines.proofs.apply_line.Goals as goal

pub returns-in-Unitary : goal.returns-in-Unitary
returns-in-Unitary c = (frame_obeyed c.in-Unitary.is c.unitary.ensures, c.requires.2)

pub returns-in-Clifford : goal.returns-in-Clifford
returns-in-Clifford c = (frame_obeyed c.in-Clifford.is c.clifford.ensures, c.requires.2)

pub returns-in-Exponential : goal.returns-in-Exponential
returns-in-Exponential c = (frame_obeyed c.in-Exponential.is c.exponential.ensures, c.requires.2)

pub returns-in-Controlled : goal.returns-in-Controlled
returns-in-Controlled c = (frame_obeyed c.in-Controlled.is c.controlled.ensures, c.requires.2)

pub returns-in-Permute : goal.returns-in-Permute
returns-in-Permute c = (frame_obeyed c.in-Permute.is c.permute.ensures, c.requires.2)

pub returns-in-Measure : goal.returns-in-Measure
returns-in-Measure c = (obeyed_as c.in-Measure.is c.measure.ensures.0, c.measure.ensures.1)

pub returns-in-Conditional : goal.returns-in-Conditional
returns-in-Conditional c = (obeyed_as c.in-Conditional.is c.conditional.ensures, c.requires.2)

pub returns-in-Reset : goal.returns-in-Reset
returns-in-Reset c = (frame_obeyed c.in-Reset.is c.reset.ensures, c.requires.2)

pub returns-in-Inject : goal.returns-in-Inject
returns-in-Inject c = (frame_obeyed c.in-Inject.is c.inject.ensures, c.requires.2)

pub returns-in-Flip : goal.returns-in-Flip
returns-in-Flip c = (obeyed_as c.in-Flip.is (c.flip.ensures.0 _ _ _), c.flip.ensures.1)

pub returns-in_default : goal.returns-in_default
returns-in_default c =
    let d = c.in_default in (
      idle_obeyed _ _ _ record {
        unitary = d.not-Unitary;
        clifford = d.not-Clifford;
        exponential = d.not-Exponential;
        controlled = d.not-Controlled;
        permute = d.not-Permute;
        measure = d.not-Measure;
        conditional = d.not-Conditional;
        reset = d.not-Reset;
        inject = d.not-Inject;
        flip = d.not-Flip;
      },
      c.requires.2,
    )
