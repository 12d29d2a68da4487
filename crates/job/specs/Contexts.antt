-- Definitions that theorems and laws about the tests use: the number of a line by its tests, the context after some lines, and lines that are
-- accepted in one. Assumes nothing.
use Rattle.std.specs.Prelude.{ℕ, ◌+◌, ◌≤◌, ◌<◌, ◌≡◌, true, false, ◌&&◌, List, [], ◌∷◌, ltb}
use Rattle.std.proofs.Math.Option.{none}
use Rattle.job.specs.declared.Header.{Header}
use Rattle.job.specs.declared.Answer.{Answer}
use Rattle.job.specs.Grammar.{read_line_of}
use Rattle.job.specs.Checks.{Context, Test}
use Rattle.job.specs.Job.{accepted, is_last, next_of, check_lines_of}
use Rattle.job.specs.Sound.{Every, Any}

-- the number that a line gets by these tests
pub data Lowest (ts : List Test) (number : ℕ) : Type 0 where
  -- 0, and every test passes
  passes : number ≡ 0 → Every (λ (t : Test). t.bad ≡ false) ts → Lowest ts number
  -- or that of a test that fails, and no test that fails has a lower one
  fails : 0 < number → Any (λ (t : Test). (t.bad ≡ true) × (t.number ≡ number)) ts → Every (λ (t : Test). t.bad ≡ true → number ≤ t.number) ts
      → Lowest ts number

-- a refusal at one of n lines from line k on
pub record RefusedAt (k n : ℕ) (a : Answer) : Type 0 where
  pub number : 0 < a.number
  pub from : k ≤ a.line
  pub below : a.line < k + n

-- the context behind some lines
unfoldable pub context_after : Context → List (List ℕ) → Context
context_after c [] = c
context_after c (l ∷ ls) = context_after (next_of c (read_line_of l)) ls

-- The context between two instructions of a job with this header, where so many outcomes are recorded.
unfoldable pub between : Header → ℕ → Context
between h r = record { begun = true; header = h; recorded = r; due = 0; total = none }

-- Lines that are accepted in a context behind the header; where there are none, no elements are due.
pub record Accepted (k : ℕ) (c : Context) (ls : List (List ℕ)) : Type 0 where
  pub begun : c.begun ≡ true
  pub ends : (is_last ls && ltb 0 c.due) ≡ false
  pub passes : check_lines_of k c ls ≡ accepted
