-- Definitions. The number that refuses a caller's share, and what is so of one that none refuses. Assumes nothing.
use Rattle.std.specs.Prelude.{cond, List, ℕ, ◌≤◌, length}
use Rattle.shares.specs.Shares.{Share, sum, marks_fit, shares_fit_of, caller_fits}
use Rattle.shares.specs.Account.{Within}

-- 13 for the marks, then 25 and 26; 0 if none refuses
unfoldable pub share_number_of : Share → List ℕ → ℕ
share_number_of s main =
    let named : ℕ = cond (caller_fits s) 0 26 in
    let fitting : ℕ = cond (shares_fit_of s main) named 25 in
    cond (marks_fit s) fitting 13

-- what the parts of the list need, whoever calls
pub record Fit (shares marks main : List ℕ) : Type 0 where
  pub total : sum shares ≤ length main
  pub within : Within main shares marks
