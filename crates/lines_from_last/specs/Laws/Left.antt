-- A job line after line, from the last to the first: what is left before a place. Laws. Assumes nothing.
use Prim.Native.Nat.{ℕ, suc, ◌+◌, ◌-◌, ◌<◌}
use Rattle.std.proofs.Common.{arith, ◌∙◌, eqb-true, length-append}
use Rattle.std.specs.Prelude.{◌≡◌, true, ◌&&◌, eqb, ltb, leb, get_or, take}
use Rattle.std.proofs.Math.Path.{sym, ap, ap₂}
use mathlib.Core.List.{List, [], ◌∷◌, ◌++◌, append_assoc, append-nil}
use Rattle.std.proofs.Math.Option.{Option, some}
use Rattle.std.proofs.Math.ListN.{length}
use Rattle.std.proofs.Math.Seq.{take-length}
use Rattle.text.specs.Bytes.{LF, pieces, lines}
use Rattle.text.proofs.Laws.Values.{both}
use Rattle.job.specs.Grammar.{Written}
use Rattle.job.specs.Job.{max_bytes, well_ended_of, check_job, gather, gathered, Job, job_of}
use Rattle.job.proofs.Theorems.{checked_sound}
use Rattle.job.proofs.Laws.Begun.{job_begun}
use Rattle.instructions.specs.Reading.{line_at}
use Rattle.lines_from_last.specs.Line.{LineBefore, LinesLeft, Known, OfJob}
use Rattle.lines_from_last.specs.Laws.Known.{job_known}

-- the last byte of a job is LF
job_ends : (job : List ℕ) → well_ended_of job ≡ true → get_or job (length job - 1) 0 ≡ LF
unfolding well_ended_of
job_ends job e = eqb-true _ _ (both (ltb 0 (length job) && leb (length job) max_bytes) (eqb (get_or job (length job - 1) 0) LF) e).1

module _ (job : List ℕ) (passes : (check_job job).number ≡ 0) where
  pub all_left : {k : ℕ} → k ≡ length (lines job) → LinesLeft job k (length job) []
  all_left number =
      record {
        within = omega arith;
        starts = λ h. job_ends job (checked_sound job passes).ended;
        number = number ∙ rw (take-length job);
        whole = rw (take-length job) (sym (append-nil (lines job)));
      }

  module _ {k e at : ℕ} {done : List (List ℕ)} (l : LinesLeft job k e done) (positive : 0 < e) (b : LineBefore job (e - 1) at) where
    abbrev text : List ℕ
    text = line_at job at (e - 1)

    cut : lines (take e job) ≡ lines (take at job) ++ text ∷ []
    cut = let p : e - 1 + 1 ≡ e = omega arith in rw p at b.splits

    lines_left : length (lines (take e job)) ≡ length (lines (take at job)) + 1
    lines_left = ap length cut ∙ length-append (lines (take at job)) (text ∷ [])

    whole_more : lines job ≡ lines (take at job) ++ text ∷ done
    whole_more = l.whole ∙ ap (λ (ls : List (List ℕ)). ls ++ done) cut ∙ append_assoc (lines (take at job)) (text ∷ []) done

    -- some lines are left
    pub line_left : 0 < k
    line_left = omega (arith, l.number, lines_left)

    pub one_done : LinesLeft job (k - 1) at (text ∷ done)
    one_done =
        record { within = omega (arith, b.within, l.within); starts = b.starts; number = omega (arith, l.number, lines_left); whole = whole_more }

    pub left_known : Known (job_of job).header text
    left_known = job_known job passes (lines (take at job)) text done whole_more

    unfoldable pub line_known : OfJob text
    line_known = record { header = (job_of job).header; range = (checked_sound job passes).header; known = left_known }

    -- what is gathered from the line and those behind it
    pub gathered_more : gathered (suc (k - 1)) (text ∷ done) ≡ gather k text (some left_known.written) (gathered (suc k) done)
    unfolding gathered
    gathered_more =
        let p : suc (k - 1) ≡ k = omega (arith, line_left) in
        ap (λ (j : ℕ). gathered j (text ∷ done)) p ∙ ap (λ (o : Option Written). gather k text o (gathered (suc k) done)) left_known.reads

  -- all lines are done
  pub none_left : {k e : ℕ} {done : List (List ℕ)} → LinesLeft job k e done → e ≡ 0 → (gathered (suc k) done).instructions ≡ (job_of job).instructions
  unfolding pieces gathered gather
  none_left {k} {e} {done} l z =
      let b = job_begun job passes in
      let before : lines (take e job) ≡ [] = rw z in
      let number : k ≡ 0 = l.number ∙ ap length before in
      let all : done ≡ b.text ∷ b.rest = sym (l.whole ∙ ap (λ (ls : List (List ℕ)). ls ++ done) before) ∙ b.split in
      ap₂ (λ (j : ℕ) (ls : List (List ℕ)). (gathered (suc j) ls).instructions) number all
      ∙ ap (λ (o : Option Written). (gather 1 b.text o (gathered 2 b.rest)).instructions) b.reads
      ∙ ap (λ (j : Job). j.instructions) (sym b.is)
