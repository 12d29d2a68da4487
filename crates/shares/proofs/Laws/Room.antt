-- Laws: what a call writes, and the marks that it leaves, do not depend on what the lent room held before. Assumes nothing.
use Rattle.std.specs.Prelude.{◌≡◌, ◌&&◌, ◌||◌, ℕ, eqb, leb, take, drop, replicate}
use Rattle.std.proofs.Math.Path.{refl, ap}
use Rattle.std.proofs.Common.{sym, subst, ◌∙◌, true≢false}
use Rattle.std.proofs.Math.Bool.{Bool, true, false, cond}
use mathlib.Core.List.{List, [], ◌∷◌, map}
use Rattle.std.proofs.lemmas.Bool.{eqb-false}
use Rattle.std.proofs.Math.ListN.{length}
use Rattle.std.proofs.lemmas.List.{length-replicate}
use Rattle.std.proofs.Math.Seq.{take_at, take-append_seam}
use Rattle.job.specs.declared.Header.{Header}
use Rattle.job.specs.declared.Answer.{Answer}
use Rattle.job.specs.Job.{answer, job_of, check_job}
use Rattle.job.specs.Reply.{TextReply, over, refused_text, text_fits_of, written_text}
use Rattle.draws.specs.Settle.{Settled, settle, settled_text}
use Rattle.draws.specs.Execute.{Ended, States, starts, execute}
use Rattle.rows.specs.Words.{pack}
use Rattle.rows.proofs.Laws.Pack.{length_tabulated, length_pack}
use Rattle.run.specs.Run.{Source, Memory, RunReply, frame_words_of, outcome_words_of, enough_words, lent_of, untouched, spent_reply, flip_totals, finished_reply, ended_reply, run_reply, with_source}
use Rattle.backward.specs.Settling.{settled_answer, settle_reply}
use Rattle.shares.specs.Shares.{Share, marks_fit, shares_fit_of, caller_fits}
use Rattle.shares.specs.Replies.{shared, takes_words, tested, shared_reply, shared_run_reply, shared_settle_reply}
use Rattle.shares.specs.Account.{zeros, emptied, room_emptied, written_words, written_bytes, written, job_in, from, with_main, share_of, Call, Reply, caller_of, calls_of, reply_to, marks_by, marks_through, StaysOwn}
use Rattle.shares.proofs.Laws.Moves.{own_number}
use Rattle.shares.proofs.Laws.Behaviours.{both_same}

as_long : (l : List ℕ) → length (zeros l) ≡ length l
as_long l = length-replicate {A = ℕ} (length l) 0

-- ---- the plain calls

zeros_over : (n : ℕ) (old : List ℕ) → take n (over (replicate n 0) old) ≡ replicate n 0
zeros_over n old = take_at (replicate n 0) _ n (length-replicate {A = ℕ} n 0)

enough_emptied : (h : Header) (m : Memory) → enough_words h (emptied m) ≡ enough_words h m
unfolding enough_words
enough_emptied h m = rw (as_long m.x, as_long m.z, as_long m.deltas, as_long m.totals) refl

module _ (job : List ℕ) where
  abbrev h : Header
  h = (job_of job).header

  spent_emptied : (m : Memory) (k : ℕ) → written_words job (spent_reply h (emptied m) k) ≡ written_words job (spent_reply h m k)
  unfolding written_words spent_reply takes_words
  spent_emptied m k =
      rw (
        zeros_over (frame_words_of h) (zeros m.x),
        zeros_over (frame_words_of h) (zeros m.z),
        zeros_over (outcome_words_of h) (zeros m.deltas),
        zeros_over h.outcomes (zeros m.totals),
        zeros_over (frame_words_of h) m.x,
        zeros_over (frame_words_of h) m.z,
        zeros_over (outcome_words_of h) m.deltas,
        zeros_over h.outcomes m.totals,
      ) refl

  finished_emptied : (m : Memory) (states : States) → written_words job (finished_reply h (emptied m) states) ≡ written_words job (finished_reply h m states)
  unfolding written_words finished_reply takes_words flip_totals
  finished_emptied m states =
      let x = take_at (pack h.qubits h.shots (λ q s. (states s).frame.x q)) in
      let xs = length_pack h.qubits h.shots (λ q s. (states s).frame.x q) in
      let z = take_at (pack h.qubits h.shots (λ q s. (states s).frame.z q)) in
      let zs = length_pack h.qubits h.shots (λ q s. (states s).frame.z q) in
      let d = take_at (pack h.outcomes h.shots (λ id s. (states s).deltas id)) in
      let ds = length_pack h.outcomes h.shots (λ id s. (states s).deltas id) in
      let t = take_at (flip_totals h states) in
      let ts = length_tabulated _ h.outcomes in
      rw (x _ _ xs, x _ _ xs, z _ _ zs, z _ _ zs, d _ _ ds, d _ _ ds, t _ _ ts, t _ _ ts) refl

  ended_emptied : (m : Memory) (e : Ended) → written_words job (ended_reply h (emptied m) e) ≡ written_words job (ended_reply h m e)
  unfolding ended_reply
  ended_emptied m (Ended.spent_at k) = spent_emptied m k
  ended_emptied m (Ended.ended states) = finished_emptied m states

  -- a refusal writes nothing
  refused_emptied : (m : Memory) (a : Answer) → takes_words a ≡ false → written_words job (untouched a (emptied m)) ≡ written_words job (untouched a m)
  unfolding written_words
  refused_emptied m a e = rw e refl

  check_emptied : (m : Memory) → eqb (check_job job).number 0 ≡ false
      → written_words job (untouched (check_job job) (emptied m)) ≡ written_words job (untouched (check_job job) m)
  check_emptied m e = refused_emptied m (check_job job) (own_number job (eqb-false _ 0 e))

  run_emptied : (m : Memory) → written_words job (run_reply job (emptied m)) ≡ written_words job (run_reply job m)
  unfolding run_reply
  run_emptied m = rw (enough_emptied h m) (go (eqb (check_job job).number 0) refl (enough_words h m))
    where
      ended : Ended
      ended = execute h (lent_of h m.source) (job_of job).instructions m.source.main starts

      go : (p : Bool) → eqb (check_job job).number 0 ≡ p → (e : Bool)
          → written_words job (cond p (cond e (ended_reply h (emptied m) ended) (untouched (answer 13 0) (emptied m))) (untouched (check_job job) (emptied m)))
          ≡ written_words job (cond p (cond e (ended_reply h m ended) (untouched (answer 13 0) m)) (untouched (check_job job) m))
      go true p true = ended_emptied m ended
      go true p false = refused_emptied m (answer 13 0) (unfold takes_words in refl)
      go false p e = check_emptied m p

  settled_emptied : (o : Settled) (out : List ℕ) → written_bytes (settled_answer (job_of job) o (zeros out)) ≡ written_bytes (settled_answer (job_of job) o out)
  unfolding settled_answer
  settled_emptied (Settled.spent_at k) out = unfold written_bytes in refl
  settled_emptied (Settled.settled ls) out = rw (as_long out) (go (settled_text (job_of job).text ls) (text_fits_of (settled_text (job_of job).text ls) out))
    where
      go : (text : List ℕ) (fits : Bool)
          → written_bytes (cond fits (written_text text (zeros out)) (record { answered = answer 15 0; figure = length text; out = zeros out }))
          ≡ written_bytes (cond fits (written_text text out) (record { answered = answer 15 0; figure = length text; out = out }))
      go text true = unfold written_bytes in rw (take-append_seam text (drop (length text) (zeros out)), take-append_seam text (drop (length text) out)) refl
      go text false = unfold written_bytes in refl

  text_refused : (out : List ℕ) (a : Answer) → eqb a.number 0 ≡ false → written_bytes (refused_text a (zeros out)) ≡ written_bytes (refused_text a out)
  unfolding written_bytes
  text_refused out a e = rw e refl

  settle_emptied : (s : Source) (out : List ℕ) → written_bytes (settle_reply job s (zeros out)) ≡ written_bytes (settle_reply job s out)
  unfolding settle_reply
  settle_emptied s out = go (eqb (check_job job).number 0) refl (leb (outcome_words_of h) (length s.noiseless))
    where
      settled : Settled
      settled = settle (lent_of h s) (job_of job).instructions s.main

      go : (p : Bool) → eqb (check_job job).number 0 ≡ p → (e : Bool)
          → written_bytes (cond p (cond e (settled_answer (job_of job) settled (zeros out)) (refused_text (answer 13 0) (zeros out))) (refused_text (check_job job) (zeros out)))
          ≡ written_bytes (cond p (cond e (settled_answer (job_of job) settled out) (refused_text (answer 13 0) out)) (refused_text (check_job job) out))
      go true p true = settled_emptied settled out
      go true p false = text_refused out (answer 13 0) refl
      go false p e = text_refused out (check_job job) p

-- ---- the calls with a share

-- Two calls that pass the same tests, whose refusals and plain replies come to the same, come to the same and leave the same marks.
module _ {A : Type 0} (of : A → A) (job : List ℕ) (enough also-enough : Bool) (s : Share) (from : Source) (refuse also-refuse : Answer → A) (plain also-plain : A)
    (answered : A → Answer) (lent : enough ≡ also-enough) (refused : (a : Answer) → takes_words a ≡ false → of (refuse a) ≡ of (also-refuse a)) (same : of plain ≡ of also-plain)
  where
    pub same_of : of (shared_reply job enough s from refuse plain (answered plain)).reply
        ≡ of (shared_reply job also-enough s from also-refuse also-plain (answered also-plain)).reply
    unfolding shared_reply tested
    same_of = rw lent (go (eqb (check_job job).number 0) refl (also-enough && marks_fit s) (shares_fit_of s from.main) (caller_fits s))
      where
        tests : Bool → Bool → Bool → Bool → (Answer → A) → A → A
        tests p l f k to r = cond p (cond l (cond f (cond k r (to (answer 26 0))) (to (answer 25 0))) (to (answer 13 0))) (to (check_job job))

        go : (p : Bool) → eqb (check_job job).number 0 ≡ p → (l f k : Bool) → of (tests p l f k refuse plain) ≡ of (tests p l f k also-refuse also-plain)
        go true p true true true = same
        go true p true true false = refused (answer 26 0) (unfold takes_words in refl)
        go true p true false k = refused (answer 25 0) (unfold takes_words in refl)
        go true p false f k = refused (answer 13 0) (unfold takes_words in refl)
        go false p l f k = refused (check_job job) (own_number job (eqb-false _ 0 p))

    pub marks_of : answered plain ≡ answered also-plain
        → (shared_reply job enough s from refuse plain (answered plain)).marks ≡ (shared_reply job also-enough s from also-refuse also-plain (answered also-plain)).marks
    unfolding shared_reply
    marks_of e = rw (lent, e) refl

takes_not_zero : (a : Answer) → takes_words a ≡ false → eqb a.number 0 ≡ false
unfolding takes_words
takes_not_zero a e = go (eqb a.number 0) e
  where
    go : (b : Bool) → (b || eqb a.number 14) ≡ false → b ≡ false
    go true e = absurd (true≢false e)
    go false e = refl

module _ (main shares : List ℕ) where
  caller_emptied : (k : Call) → caller_of (room_emptied k) ≡ caller_of k
  unfolding caller_of room_emptied
  caller_emptied (Call.run c job m) = refl
  caller_emptied (Call.settle c job s out) = refl

  stays_emptied : (k : Call) (marks : List ℕ) → StaysOwn main shares k marks → StaysOwn main shares (room_emptied k) marks
  unfolding StaysOwn room_emptied
  stays_emptied (Call.run c job m) marks stay = λ p e. stay p (sym (enough_emptied (job_of job).header m) ∙ e)
  stays_emptied (Call.settle c job s out) marks stay = stay

  marks_emptied : (k : Call) (marks : List ℕ) → marks_by main shares (room_emptied k) marks ≡ marks_by main shares k marks
  unfolding marks_by room_emptied shared_run_reply shared_settle_reply
  marks_emptied (Call.run c job m) marks =
      let s = share_of main shares c marks in
      let n = with_main main m in
      let plain = run_emptied job (with_source n (shared s n.source)) in
      marks_of (written_words job) job _ _ s n.source (λ a. untouched a (emptied n)) (λ a. untouched a n) _ _ (λ (r : RunReply). r.answered)
      (enough_emptied (job_of job).header n) (refused_emptied job n) plain (unfold written_words in ap (λ (r : RunReply). r.answered) plain)
  marks_emptied (Call.settle c job s out) marks =
      let share = share_of main shares c marks in
      let plain = settle_emptied job (shared share (from main s)) out in
      marks_of written_bytes job _ _ share (from main s) (λ a. refused_text a (zeros out)) (λ a. refused_text a out) _ _ (λ (r : TextReply). r.answered)
      refl (λ a e. text_refused job out a (takes_not_zero a e)) plain (unfold written_bytes in ap (λ (r : TextReply). r.answered) plain)

  reply_emptied : (k : Call) (marks : List ℕ)
      → written (job_in (room_emptied k)) (reply_to main shares (room_emptied k) marks) ≡ written (job_in k) (reply_to main shares k marks)
  unfolding reply_to room_emptied job_in written shared_run_reply shared_settle_reply
  reply_emptied (Call.run c job m) marks =
      let s = share_of main shares c marks in
      let n = with_main main m in
      ap Reply.ran (same_of (written_words job) job _ _ s n.source (λ a. untouched a (emptied n)) (λ a. untouched a n) _ _ (λ (r : RunReply). r.answered)
      (enough_emptied (job_of job).header n) (refused_emptied job n) (run_emptied job (with_source n (shared s n.source))))
  reply_emptied (Call.settle c job s out) marks =
      let share = share_of main shares c marks in
      ap Reply.wrote (same_of written_bytes job _ _ share (from main s) (λ a. refused_text a (zeros out)) (λ a. refused_text a out) _ _ (λ (r : TextReply). r.answered)
      refl (λ a e. text_refused job out a (takes_not_zero a e)) (settle_emptied job (shared share (from main s)) out))

  -- ---- a sequence

  through_emptied : (ks : List Call) (marks : List ℕ) → marks_through main shares (map room_emptied ks) marks ≡ marks_through main shares ks marks
  unfolding marks_through
  through_emptied [] marks = refl
  through_emptied (k ∷ ks) marks =
      ap (marks_through main shares (map room_emptied ks)) (marks_emptied k marks) ∙ through_emptied ks (marks_by main shares k marks)

  calls_emptied : (c : ℕ) (ks : List Call) → calls_of c (map room_emptied ks) ≡ map room_emptied (calls_of c ks)
  unfolding calls_of
  calls_emptied c [] = refl
  calls_emptied c (k ∷ ks) = rw (caller_emptied k) (go (eqb (caller_of k) c) (calls_emptied c ks))
    where
      go : (b : Bool) → calls_of c (map room_emptied ks) ≡ map room_emptied (calls_of c ks)
          → cond b (room_emptied k ∷ calls_of c (map room_emptied ks)) (calls_of c (map room_emptied ks)) ≡ map room_emptied (cond b (k ∷ calls_of c ks) (calls_of c ks))
      go true ih = ap (λ (l : List Call). room_emptied k ∷ l) ih
      go false ih = ih

  pub both_written : (start : List ℕ) (c : ℕ) (ks ls : List Call) → map room_emptied (calls_of c ks) ≡ map room_emptied (calls_of c ls)
      → (k l : Call) → caller_of k ≡ c → room_emptied k ≡ room_emptied l
      → StaysOwn main shares k (marks_through main shares ks start) → StaysOwn main shares l (marks_through main shares ls start)
      → written (job_in k) (reply_to main shares k (marks_through main shares ks start))
      ≡ written (job_in l) (reply_to main shares l (marks_through main shares ls start))
  both_written start c ks ls same k l mine alike stay also =
      let a = marks_through main shares ks start in
      let b = marks_through main shares ls start in
      let first = subst (StaysOwn main shares (room_emptied k)) (sym (through_emptied ks start)) (stays_emptied k a stay) in
      let other : StaysOwn main shares (room_emptied k) b = subst (λ (e : Call). StaysOwn main shares e b) (sym alike) (stays_emptied l b also) in
      let second = subst (StaysOwn main shares (room_emptied k)) (sym (through_emptied ls start)) other in
      let replies = both_same main shares start c (map room_emptied ks) (map room_emptied ls) (calls_emptied c ks ∙ same ∙ sym (calls_emptied c ls))
      (room_emptied k) (caller_emptied k ∙ mine) first second in
      let reply : reply_to main shares (room_emptied k) a ≡ reply_to main shares (room_emptied k) b =
      ap (reply_to main shares (room_emptied k)) (sym (through_emptied ks start)) ∙ replies ∙ ap (reply_to main shares (room_emptied k)) (through_emptied ls start) in
      sym (reply_emptied k a) ∙ ap (written (job_in (room_emptied k))) reply
      ∙ ap (λ (e : Call). written (job_in e) (reply_to main shares e b)) alike ∙ reply_emptied l b
