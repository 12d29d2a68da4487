-- `instructions::is_noise` meets its contract. Assumes nothing.
use mathlib.Core.Path.{sym}
use Rattle.instructions.specs.Reading.{noise_form}
use Rattle.instructions.specs.Laws.Meaning.{other_no_noise}
use Rattle.instructions.proofs.is_noise.Goals as goal

pub returns-in-Single : goal.returns-in-Single
unfolding noise_form
returns-in-Single c = rw c.in-Single.is

pub returns-in-Depolarizing : goal.returns-in-Depolarizing
unfolding noise_form
returns-in-Depolarizing c = rw c.in-Depolarizing.is

pub returns-in-Uniform : goal.returns-in-Uniform
unfolding noise_form
returns-in-Uniform c = rw c.in-Uniform.is

pub returns-in-Weighted : goal.returns-in-Weighted
unfolding noise_form
returns-in-Weighted c = rw c.in-Weighted.is

pub returns-in_default : goal.returns-in_default
returns-in_default c =
    sym
    (other_no_noise c.args.form
    c.in_default.not-Single
    c.in_default.not-Depolarizing
    c.in_default.not-Uniform
    c.in_default.not-Weighted)
