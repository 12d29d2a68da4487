-- Laws: the lines that are left where noise, injections and flips count as absent. Assumes nothing.
use Rattle.std.specs.Prelude.{◌≡◌, refl, Bool, true, false, cond, ℕ, ◌+◌, ◌≤◌}
use Rattle.std.proofs.Common.{ap, subst, ◌∙◌, arith}
use mathlib.Core.List.{List, [], ◌∷◌, ◌++◌}
use Rattle.pauli.specs.Bits.{Bits, none as noShots}
use Rattle.job.specs.declared.Header.{Header}
use Rattle.job.specs.Line.{Line, Instruction, Placed}
use Rattle.job.specs.Job.{job_of, recorded_by, check_job}
use Rattle.job.specs.InRange.{AllInRange}
use Rattle.job.specs.Sound.{InstructionSound, InstructionsSound}
use Rattle.job.proofs.Theorems.{checked_sound}
use Rattle.job.proofs.Laws.Range.{line_in_range}
use Rattle.job.proofs.Laws.Recorded.{instruction_within}
use Rattle.frames.specs.Forward.{Setting}
use Rattle.frames.specs.Shots.{concerns, restricted, within}
use Rattle.frames.proofs.Laws.RunShots.{kept_or_not}
use Rattle.backward.specs.Walk.{Walk, walk_back, walk, backward}
use Rattle.backward.proofs.Laws.WalkShots.{carried_restricted}
use Rattle.backward.specs.Walking.{line_first, plain_lines}
use Rattle.single_faults.specs.Table.{quiet_lines}

-- ---- in range

module _ (n m : ℕ) where
  first_in_range : (ls ms : List Line) → AllInRange n m (ls ++ ms) → AllInRange n m ls
  first_in_range [] ms a = tt
  first_in_range (l ∷ ls) ms (f, a) = (f, first_in_range ls ms a)

  last_in_range : (ls ms : List Line) → AllInRange n m (ls ++ ms) → AllInRange n m ms
  last_in_range [] ms a = a
  last_in_range (l ∷ ls) ms (f, a) = last_in_range ls ms a

  restricted_in_range : (ls : List Line) → AllInRange n m ls → AllInRange n m (restricted noShots ls)
  unfolding restricted
  restricted_in_range [] a = tt
  restricted_in_range (l ∷ ls) (f, a) =
      kept_or_not (λ ks. AllInRange n m ks) noShots l (restricted noShots ls) (f, restricted_in_range ls a) (λ h. restricted_in_range ls a)

plain_in_range : (h : Header) (r : ℕ) (is : List Placed) → r ≤ h.outcomes → InstructionsSound h r is → AllInRange h.qubits h.outcomes (plain_lines is)
unfolding plain_lines line_first InstructionSound InstructionsSound
plain_in_range h r [] k s = tt
plain_in_range h r (i ∷ is) k (first, rest) = go i.instruction first (plain_in_range h (r + recorded_by i.instruction) is (instruction_within h r i.instruction first k) rest)
  where
    go : (j : Instruction) → InstructionSound h r j → AllInRange h.qubits h.outcomes (plain_lines is)
        → AllInRange h.qubits h.outcomes (line_first j (plain_lines is))
    go (Instruction.line l) s later = (line_in_range h r l s k, later)
    go (Instruction.noise n) s later = later

plain_append : (is js : List Placed) → plain_lines (is ++ js) ≡ plain_lines is ++ plain_lines js
unfolding plain_lines line_first
plain_append [] js = refl
plain_append (i ∷ is) js = go i.instruction (plain_append is js)
  where
    go : (j : Instruction) → plain_lines (is ++ js) ≡ plain_lines is ++ plain_lines js → line_first j (plain_lines (is ++ js)) ≡ line_first j (plain_lines is) ++ plain_lines js
    go (Instruction.line l) e = ap (λ (ls : List Line). l ∷ ls) e
    go (Instruction.noise n) e = e

-- of an accepted job, its instructions cut in two
module _ (job : List ℕ) (accepted : (check_job job).number ≡ 0) (is js : List Placed) (cut : (job_of job).instructions ≡ is ++ js) where
  pub all_in_range : AllInRange (job_of job).header.qubits (job_of job).header.outcomes (plain_lines is ++ plain_lines js)
  all_in_range =
      subst (λ (ls : List Line). AllInRange (job_of job).header.qubits (job_of job).header.outcomes ls)
      (ap plain_lines cut ∙ plain_append is js)
      (plain_in_range (job_of job).header 0 (job_of job).instructions (omega arith) (checked_sound job accepted).instructions)

  pub first_quiet : AllInRange (job_of job).header.qubits (job_of job).header.outcomes (quiet_lines is)
  unfolding quiet_lines
  first_quiet = restricted_in_range _ _ (plain_lines is) (first_in_range _ _ (plain_lines is) (plain_lines js) all_in_range)

  pub last_quiet : AllInRange (job_of job).header.qubits (job_of job).header.outcomes (quiet_lines js)
  unfolding quiet_lines
  last_quiet = restricted_in_range _ _ (plain_lines js) (last_in_range _ _ (plain_lines is) (plain_lines js) all_in_range)

-- ---- without faults

restricted_within : (ls : List Line) → within noShots (restricted noShots ls) ≡ true
unfolding restricted within
restricted_within [] = refl
restricted_within (l ∷ ls) = go (concerns noShots l) refl (restricted_within ls)
  where
    go : (b : Bool) → concerns noShots l ≡ b → within noShots (restricted noShots ls) ≡ true
        → within noShots (cond b (l ∷ restricted noShots ls) (restricted noShots ls)) ≡ true
    go true e rest = rw (e, rest) refl
    go false e rest = rest

-- ---- the walk of a list in two parts

pub walk_append : (c : Setting) (ls ms : List Line) (w : Walk) → walk_back c (ls ++ ms) w ≡ walk_back c ls (walk_back c ms w)
unfolding walk_back
walk_append c [] ms w = refl
walk_append c (l ∷ ls) ms w = ap (backward c l) (walk_append c ls ms w)

-- What is carried back does not depend on injections and flips.
pub carried_quiet : (c : Setting) (is : List Placed) (S : Bits) → (walk c (quiet_lines is) S).carried ≡ (walk c (plain_lines is) S).carried
unfolding walk quiet_lines
carried_quiet c is S = carried_restricted c noShots (plain_lines is) _

pub quiet_within : (is : List Placed) → within noShots (quiet_lines is) ≡ true
unfolding quiet_lines
quiet_within is = restricted_within (plain_lines is)

-- ---- lists

pub append_one : {A : Type 0} (l : List A) (a : A) (m : List A) → (l ++ a ∷ []) ++ m ≡ l ++ a ∷ m
append_one [] a m = refl
append_one {A} (b ∷ l) a m = ap (λ (k : List A). b ∷ k) (append_one l a m)
