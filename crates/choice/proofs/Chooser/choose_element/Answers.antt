-- `choice::Chooser::choose_element` meets its contract: by the kind of distribution.
use Rattle.choice.specs.Laws.Choice.{chosen_one, chosen_uniform, chosen_weighted}
use native.Mathlib.Omega.{arith}
use Rattle.choice.proofs.Chooser.choose_element.Goals as goal

pub returns-in-Single : goal.returns-in-Single
returns-in-Single c = chosen_one _ c.in-Single.is (omega arith)

pub returns-in-Weighted : goal.returns-in-Weighted
returns-in-Weighted c = chosen_weighted _ _ c.in-Weighted.is c.choose_weighted.ensures

pub returns-in_default : goal.returns-in_default
returns-in_default c =
    chosen_uniform _ _ (λ e. absurd (c.in_default.not-Single e)) (λ t e. absurd (c.in_default.not-Weighted t e)) c.requires.1.bound c.choose_uniform.ensures
