-- `lines_back::line_back` meets its contract. Assumes nothing.
use mathlib.Core.Path.{refl}
use Rattle.instructions.specs.Laws.Meaning.{other_no_noise}
use Rattle.lines_back.specs.Laws.Forms.{readable_as, acts, ready, acted_as, is_noise, remembered, nothing_done}
use Rattle.lines_back.proofs.line_back.Goals as goal

pub unitary-requires : goal.unitary-requires
unfolding acts
unitary-requires c = ready (readable_as c.in-Unitary.is c.requires.0) refl

pub clifford-requires : goal.clifford-requires
unfolding acts
clifford-requires c = ready (readable_as c.in-Clifford.is c.requires.0) refl

pub exponential-requires : goal.exponential-requires
unfolding acts
exponential-requires c = ready (readable_as c.in-Exponential.is c.requires.0) refl

pub controlled-requires : goal.controlled-requires
unfolding acts
controlled-requires c = ready (readable_as c.in-Controlled.is c.requires.0) refl

pub permute-requires : goal.permute-requires
unfolding acts
permute-requires c = ready (readable_as c.in-Permute.is c.requires.0) refl

pub measure-requires : goal.measure-requires
unfolding acts
measure-requires c = ready (readable_as c.in-Measure.is c.requires.0) refl

pub conditional-requires : goal.conditional-requires
unfolding acts
conditional-requires c = (ready (readable_as c.in-Conditional.is c.requires.0) refl, c.requires.1)

pub reset-requires : goal.reset-requires
unfolding acts
reset-requires c = ready (readable_as c.in-Reset.is c.requires.0) refl

pub inject-requires : goal.inject-requires
unfolding acts
inject-requires c = ready (readable_as c.in-Inject.is c.requires.0) refl

pub flip-requires : goal.flip-requires
unfolding acts
flip-requires c = ready (readable_as c.in-Flip.is c.requires.0) refl

pub returns-in-Unitary : goal.returns-in-Unitary
unfolding acts
returns-in-Unitary c = acted_as c.in-Unitary.is refl (c.unitary.ensures _ _) c.requires.1 c.with_observable.ensures

pub returns-in-Clifford : goal.returns-in-Clifford
unfolding acts
returns-in-Clifford c = acted_as c.in-Clifford.is refl (c.clifford.ensures _ _) c.requires.1 c.with_observable-in-Clifford.ensures

pub returns-in-Exponential : goal.returns-in-Exponential
unfolding acts
returns-in-Exponential c = acted_as c.in-Exponential.is refl (c.exponential.ensures _ _) c.requires.1 c.with_observable-in-Exponential.ensures

pub returns-in-Controlled : goal.returns-in-Controlled
unfolding acts
returns-in-Controlled c = acted_as c.in-Controlled.is refl (c.controlled.ensures _ _) c.requires.1 c.with_observable-in-Controlled.ensures

pub returns-in-Permute : goal.returns-in-Permute
unfolding acts
returns-in-Permute c = acted_as c.in-Permute.is refl (c.permute.ensures _ _) c.requires.1 c.with_observable-in-Permute.ensures

pub returns-in-Measure : goal.returns-in-Measure
unfolding acts
returns-in-Measure c = acted_as c.in-Measure.is refl (c.measure.ensures _) c.requires.1 c.with_observable-in-Measure.ensures

pub returns-in-Conditional : goal.returns-in-Conditional
unfolding acts
returns-in-Conditional c = acted_as c.in-Conditional.is refl (c.conditional.ensures.1 _) c.conditional.ensures.0 refl

pub returns-in-Reset : goal.returns-in-Reset
unfolding acts
returns-in-Reset c = acted_as c.in-Reset.is refl (c.reset.ensures _ _) c.requires.1 c.with_observable-in-Reset.ensures

pub returns-in-Inject : goal.returns-in-Inject
unfolding acts
returns-in-Inject c = acted_as c.in-Inject.is refl (c.inject.ensures _) c.requires.1 c.counted.ensures

pub returns-in-Flip : goal.returns-in-Flip
unfolding acts
returns-in-Flip c = acted_as c.in-Flip.is refl (c.flip.ensures _) c.requires.1 c.counted-in-Flip.ensures

pub returns-in-Single : goal.returns-in-Single
returns-in-Single c = remembered (is_noise c.in-Single.is) c.requires.1 refl

pub returns-in_default : goal.returns-in_default
returns-in_default c =
    let d = c.in_default in
    nothing_done
    record {
      unitary = d.not-Unitary;
      clifford = d.not-Clifford;
      exponential = d.not-Exponential;
      controlled = d.not-Controlled;
      permute = d.not-Permute;
      measure = d.not-Measure;
      conditional = d.not-Conditional;
      reset = d.not-Reset;
      inject = d.not-Inject;
      flip = d.not-Flip;
    }
    (other_no_noise _ d.not-Single d.not-Depolarizing d.not-Uniform d.not-Weighted)
    c.requires.1
