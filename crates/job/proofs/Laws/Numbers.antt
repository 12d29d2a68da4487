-- The numbers of a job's tests are none of the calls' own: laws. Assumes nothing.
use Rattle.std.specs.Prelude.{ℕ, suc, ◌≡◌, refl, Bool, true, false, cond, not, ◌&&◌, List, [], ◌∷◌, eqb}
use Rattle.std.proofs.Common.{sym}
use Rattle.std.proofs.Math.Option.{Option, none, some}
use Rattle.text.specs.Bytes.{lines}
use Rattle.text.proofs.Laws.Values.{both}
use Rattle.job.specs.Line.{Line}
use Rattle.job.specs.Grammar.{Written, read_line_of}
use Rattle.job.specs.Checks.{Context, Test, line_tests, noise_tests, own_tests, tests, lowest, refusal_of}
use Rattle.job.specs.Checks.{no_context_of}
use Rattle.job.specs.Job.{answer, is_last, well_ended_of, next_of, check_lines_of, check_job}
use Rattle.job.specs.Reply.{of_call}
use Rattle.job.proofs.Laws.Tests.{test_numbers}

-- no number of a list is a call's own
abbrev none_of_call : List ℕ → Bool
none_of_call [] = true
none_of_call (n ∷ ns) = not (of_call n) && none_of_call ns

tests_of_job : (c : Context) (last : Bool) (w : Written) → none_of_call (test_numbers (tests c last w)) ≡ true
unfolding own_tests noise_tests line_tests
tests_of_job c last (Written.header h) = refl
tests_of_job c last (Written.line l) = lines l
  where
    lines : (l : Line) → none_of_call (test_numbers (line_tests c l)) ≡ true
    lines (Line.unitary g qs) = refl
    lines (Line.clifford qs t) = refl
    lines (Line.pauli P) = refl
    lines (Line.exponential P) = refl
    lines (Line.controlled C T) = refl
    lines (Line.permute s qs) = refl
    lines (Line.measure P id) = refl
    lines (Line.allocate id angle) = refl
    lines (Line.conditional P ids par) = refl
    lines (Line.reset qs) = refl
    lines (Line.inject shot P) = refl
    lines (Line.flip shot id) = refl
    lines (Line.barrier qs) = refl
tests_of_job c last (Written.noise n) = refl
tests_of_job c last (Written.element w P) = refl

negated : (b : Bool) → not b ≡ true → b ≡ false
negated true e = sym e
negated false e = refl

lowest_of_job : (ts : List Test) → none_of_call (test_numbers ts) ≡ true → of_call (lowest ts) ≡ false
unfolding lowest
lowest_of_job [] e = refl
lowest_of_job (t ∷ ts) e =
    let parts = both (not (of_call t.number)) (none_of_call (test_numbers ts)) e in
    go t.bad (negated _ parts.0) (lowest_of_job ts parts.1)
  where
    go : (b : Bool) → of_call t.number ≡ false → of_call (lowest ts) ≡ false → of_call (cond b t.number (lowest ts)) ≡ false
    go true here later = here
    go false here later = later

refusal_of_job : (c : Context) (last : Bool) (said : Option Written) → of_call (refusal_of c last said) ≡ false
unfolding refusal_of
refusal_of_job c last none = refl
refusal_of_job c last (some w) = lowest_of_job (tests c last w) (tests_of_job c last w)

lines_of_job : (k : ℕ) (c : Context) (ls : List (List ℕ)) → of_call (check_lines_of k c ls).number ≡ false
unfolding check_lines_of
lines_of_job k c [] = refl
lines_of_job k c (l ∷ ls) =
    go (eqb (refusal_of c (is_last ls) (read_line_of l)) 0) (refusal_of_job c (is_last ls) (read_line_of l)) (lines_of_job (suc k) (next_of c (read_line_of l)) ls)
  where
    go : (b : Bool) → of_call (refusal_of c (is_last ls) (read_line_of l)) ≡ false → of_call (check_lines_of (suc k) (next_of c (read_line_of l)) ls).number ≡ false
        → of_call (cond b (check_lines_of (suc k) (next_of c (read_line_of l)) ls) (answer (refusal_of c (is_last ls) (read_line_of l)) k)).number ≡ false
    go true here later = later
    go false here later = here

-- The tests of a job answer none of the calls' own numbers.
pub check_of_job : (job : List ℕ) → of_call (check_job job).number ≡ false
unfolding check_job
check_of_job job = go (well_ended_of job) (lines_of_job 1 no_context_of (lines job))
  where
    go : (b : Bool) → of_call (check_lines_of 1 no_context_of (lines job)).number ≡ false → of_call (cond b (check_lines_of 1 no_context_of (lines job)) (answer 1 0)).number ≡ false
    go true all = all
    go false all = refl
