-- A condition as a mask. Definitions. Assumes nothing.
use Rattle.std.specs.Prelude.{◌≡◌, ℕ, ◌/◌, ◌<◌, Bool, List}
use Rattle.job.specs.Line.{OutcomeCondition}
use Rattle.job.specs.Grammar.{is_one}
use Rattle.draws.specs.Draws.{is_satisfied}
use Rattle.rows.specs.Words.{bit_in}

-- the listed outcomes' noiseless bits sum to the parity
abbrev pub condition_of : List ℕ → ℕ → OutcomeCondition
condition_of outcomes parity = record { outcomes = outcomes; parity = is_one parity }

-- A mask of w words has the shots in which a condition on noiseless bits, by outcome and shot, is satisfied.
pub record Masks (w : ℕ) (mask : List ℕ) (c : OutcomeCondition) (noiseless : ℕ → ℕ → Bool) : Type 0 where
  pub shots : (s : ℕ) → s / 64 < w → bit_in w mask 0 s ≡ is_satisfied c (λ id. noiseless id s)
