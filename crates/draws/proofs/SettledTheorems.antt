-- Theorems: the settled lines of an accepted job are sound, their run conjugates frames as demand 2 says, and their text is a job of these lines, which
-- settles to itself. Their proofs stand in Laws. Assumes nothing.
use Rattle.std.specs.Prelude.{◌≡◌, true, ℕ, ◌≤◌, length}
use Rattle.std.proofs.Math.Path.{refl, ap}
use Rattle.std.proofs.Common.{subst, ◌∙◌}
use mathlib.Core.List.{List, [], ◌∷◌, ◌++◌}
use Rattle.job.specs.Line.{Line, Placed}
use Rattle.job.specs.Job.{accepted, Job, job_of, recorded_in, check_job}
use Rattle.job.specs.Sound.{LinesSound}
use Rattle.job.proofs.Laws.Said.{instructions_accepted, lines_list}
use Rattle.job.proofs.Laws.Texts.{text_accepted, text_job}
use Rattle.frames.specs.Forward.{setting_of, forward, run, start}
use Rattle.frames.specs.Conjugation.{Within, is_unitary_kind, IsConjugate}
use Rattle.frames.proofs.Theorems.{sound_conjugates}
use Rattle.frames.proofs.Laws.Within.{within_identity, lines_within, sound_before, sound_here}
use Rattle.draws.specs.Draws.{Lent}
use Rattle.draws.specs.Settle.{SettledLine, Settled, settle, settled_list, settled_text, placed_from}
use Rattle.draws.specs.Known.{noise_free, copies}
use Rattle.draws.proofs.Laws.Settling.{run_append}
use Rattle.draws.proofs.Laws.SettledText.{texts_of, told_sound, told_says, told_gathers, settle_placed, JobSettles, job_settles, job_copied}

-- An accepted job that settles to the lines ls, whatever is lent for its shots.
module _ (job : List ℕ) (passes : (check_job job).number ≡ 0) (lent : Lent) (shots : lent.shots ≡ (job_of job).header.shots) (main : List ℕ) (ls : List SettledLine)
    (settles : settle lent (job_of job).instructions main ≡ Settled.settled ls)
  where
    known : JobSettles job ls
    known = job_settles job passes lent shots main ls settles

    -- However long their text is, the settled lines are sound, in order, as the lines of an accepted job are.
    pub settled_sound : LinesSound (job_of job).header 0 (settled_list ls)
    settled_sound = told_sound (job_of job).header 0 ls known.lines.told

    -- So in every shot of their run, before the first line, between two and behind the last, the frame is one on the job's qubits,
    pub frames_within : (shot : ℕ) (before after : List Line) → settled_list ls ≡ before ++ after
        → Within (job_of job).header.qubits (run (setting_of (job_of job).header shot) before start).frame
    unfolding start
    frames_within shot before after e =
        lines_within (job_of job).header 0 shot before
        (sound_before (job_of job).header 0 before after (subst (LinesSound (job_of job).header 0) e settled_sound)) start (within_identity (job_of job).header.qubits)

    -- and each unitary line takes it to its conjugate by the line's unitary (`job_conjugates` of crate frames says so of the job's lines).
    pub frames_conjugated : (shot : ℕ) (before : List Line) (l : Line) (after : List Line) → settled_list ls ≡ before ++ (l ∷ after)
        → is_unitary_kind l ≡ true
        → IsConjugate (job_of job).header.qubits l
        (run (setting_of (job_of job).header shot) before start).frame
        (run (setting_of (job_of job).header shot) (before ++ (l ∷ [])) start).frame
    frames_conjugated shot before l after e kind =
        let c = setting_of (job_of job).header shot in
        let (r, sound) = sound_here (job_of job).header 0 before l after (subst (LinesSound (job_of job).header 0) e settled_sound) in
        let behind : run c (before ++ (l ∷ [])) start ≡ forward c l (run c before start) = run_append c before (l ∷ []) start ∙ unfold run in refl in
        rw behind (sound_conjugates (job_of job).header r l sound kind shot (run c before start) (frames_within shot before (l ∷ after) e))

    -- The settled text passes the tests of a job where it is not too long.
    pub settled_accepted : length (settled_text (job_of job).text ls) ≤ 1048576 → check_job (settled_text (job_of job).text ls) ≡ accepted
    unfolding settled_text
    settled_accepted few =
        text_accepted (job_of job).header (job_of job).text (texts_of ls) known.says known.free known.range
        (instructions_accepted (job_of job).header 0 2 (texts_of ls) _ (told_says (job_of job).header 0 ls known.lines.told) (lines_list (job_of job).header 0 _ settled_sound)) few

    -- Its header is the job's, with its bytes, and its instructions are the settled lines with their texts, one to a line, in order.
    pub settled_job : job_of (settled_text (job_of job).text ls) ≡ record { header = (job_of job).header; text = (job_of job).text; instructions = placed_from 2 ls }
    unfolding settled_text
    settled_job =
        text_job (job_of job).header (job_of job).text (texts_of ls) known.says known.free
        ∙ ap (λ (is : List Placed). record { header = (job_of job).header; text = (job_of job).text; instructions = is }) (told_gathers (job_of job).header 0 2 ls known.lines.told)

    -- It records as many outcomes as the job.
    pub settled_recorded : recorded_in (job_of (settled_text (job_of job).text ls)).instructions ≡ recorded_in (job_of job).instructions
    settled_recorded = ap (λ (j : Job). recorded_in j.instructions) settled_job ∙ known.lines.recorded 2

    -- It settles to the same lines, and so to itself, whatever is lent then.
    pub settled_again : (other : Lent) (words : List ℕ) → settle other (job_of (settled_text (job_of job).text ls)).instructions words ≡ Settled.settled ls
    settled_again other words = ap (λ (j : Job). settle other j.instructions words) settled_job ∙ settle_placed other words 2 ls

-- An accepted job without noise settles to itself, whatever is lent (`settle_copies` says that it settles to the copies of its lines).
pub noiseless_settled : (job : List ℕ) → (check_job job).number ≡ 0 → noise_free (job_of job).instructions ≡ true
    → settled_text (job_of job).text (copies (job_of job).instructions) ≡ job
noiseless_settled job passes f = job_copied job passes f
