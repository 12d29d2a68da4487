-- Laws: a caller's calls, whatever the others do. Assumes nothing.
use Rattle.std.specs.Prelude.{◌≡◌, cond, ◌&&◌, ltb, length}
use Rattle.std.proofs.Math.Path.{refl, sym, ap, ap₂}
use Rattle.std.proofs.Common.{◌∙◌, arith, eqb-true, ltb-true}
use Rattle.std.proofs.Math.Bool.{Bool, true, false}
use mathlib.Core.List.{List, [], ◌∷◌, ◌++◌}
use Prim.Native.Nat.{ℕ, ◌+◌, ◌<◌, min}
use Rattle.std.proofs.lemmas.Bool.{eqb-false}
use Rattle.text.proofs.Laws.Values.{both}
use Rattle.std.proofs.Math.Dec.{eqb}
use Rattle.std.proofs.Math.ListN.{get_or}
use Rattle.job.specs.declared.Answer.{Answer}
use Rattle.job.specs.Job.{answer, job_of, check_job}
use Rattle.job.specs.Reply.{TextReply, refused_text}
use Rattle.draws.specs.Settle.{settle}
use Rattle.draws.proofs.Laws.Left.{stays, own_taken}
use Rattle.run.specs.Run.{Source, Memory, RunReply, enough_words, lent_of, untouched, run_reply, with_source}
use Rattle.shares.specs.Shares.{own_left, common_left, available, marks_fit, shares_fit_of, moved, marks_after}
use Rattle.shares.specs.Replies.{shared, taken_by, takes_words, marks_for, Shared, tested, shared_reply, shared_run_reply, shared_settle_reply}
use Rattle.shares.specs.Account.{from, with_main, share_of, Call, Reply, caller_of, calls_of, reply_to, marks_by, handed_by, marks_through, StaysOwn, takes, TakesAlike, TakeAlike, RunOrStays, AllRunOrStay, Within, StaysWithin}
use Rattle.shares.proofs.Laws.Moves.{Called}
use Rattle.shares.proofs.Laws.Sequences.{get_D_other, call_called, call_within}
use Rattle.shares.proofs.Laws.Spent.{run_takes}
use Rattle.shares.proofs.Laws.Alike.{SettlesAlike, own_after, same_fit, same_marked, SameSettled, same_call}

-- ---- the same own mark

module _ (main shares : List ℕ) (c : ℕ) where
  -- two lists of marks, within the parts, of which the caller's own are the same
  pub record Agree (marks other : List ℕ) : Type 0 where
    pub within : Within main shares marks
    pub also : Within main shares other
    pub own : get_or marks c 0 ≡ get_or other c 0

  module _ {marks other : List ℕ} (a : Agree marks other) where
    pub same_own : own_left shares marks c main ≡ own_left shares other c main
    unfolding own_left
    same_own = rw a.own refl

    fit : shares_fit_of (share_of main shares c marks) main ≡ shares_fit_of (share_of main shares c other) main
    fit = same_fit main shares c a.within a.also

    marked : marks_fit (share_of main shares c marks) ≡ marks_fit (share_of main shares c other)
    marked = same_marked main shares c a.within a.also

    -- ---- the words taken of the own stretch

    module _ (job : List ℕ) (s : Source) where
      abbrev taken : List ℕ → ℕ
      taken m = taken_by (job_of job) (shared (share_of main shares c m) (from main s))

      own_same : min (taken marks) (length (own_left shares marks c main)) ≡ min (taken other) (length (own_left shares other c main))
      unfolding taken_by available
      own_same =
          rw same_own
          (own_taken (lent_of (job_of job).header s) (job_of job).instructions (own_left shares other c main) (common_left shares marks main) (common_left shares other main))

      pub same_after : c < length shares → (b : Answer) (d : Answer) → takes_words b ≡ takes_words d
          → get_or (marks_for (job_of job) (share_of main shares c marks) (from main s) b) c 0 ≡ get_or (marks_for (job_of job) (share_of main shares c other) (from main s) d) c 0
      unfolding marks_for
      same_after below b d t = rw t (go (takes_words d))
        where
          go : (u : Bool) → get_or (cond u (marks_after (share_of main shares c marks) main (taken marks)) marks) c 0
              ≡ get_or (cond u (marks_after (share_of main shares c other) main (taken other)) other) c 0
          go true =
              own_after main shares c marks a.within below (taken marks) ∙ ap₂ ◌+◌ a.own own_same
              ∙ sym (own_after main shares c other a.also below (taken other))
          go false = a.own

    module _ {A : Type 0} (job : List ℕ) (enough : Bool) (s : Source) (refuse : Answer → A) (plain also-plain : A) (answered : A → Answer) where
      abbrev mine : Shared A
      mine = shared_reply job enough (share_of main shares c marks) (from main s) refuse plain (answered plain)

      abbrev theirs : Shared A
      theirs = shared_reply job enough (share_of main shares c other) (from main s) refuse also-plain (answered also-plain)

      -- The own mark after a call is the same, if words are taken in both cases or in neither.
      pub same_mark : takes_words (answered mine.reply) ≡ takes_words (answered theirs.reply) → get_or mine.marks c 0 ≡ get_or theirs.marks c 0
      unfolding shared_reply tested
      same_mark t =
          rw (fit, marked)
          (go (eqb (check_job job).number 0) (enough && marks_fit (share_of main shares c other)) (shares_fit_of (share_of main shares c other) main) (ltb c (length shares)) refl
          (rw (fit, marked) at t))
        where
          answer_of : Bool → Bool → Bool → Bool → A → Answer
          answer_of p l f k r = answered (cond p (cond l (cond f (cond k r (refuse (answer 26 0))) (refuse (answer 25 0))) (refuse (answer 13 0))) (refuse (check_job job)))

          go : (p l f k : Bool) → ltb c (length shares) ≡ k → takes_words (answer_of p l f k plain) ≡ takes_words (answer_of p l f k also-plain)
              → get_or (cond p (cond l (cond f (cond k (marks_for (job_of job) (share_of main shares c marks) (from main s) (answered plain)) marks) marks) marks) marks) c 0
              ≡ get_or (cond p (cond l (cond f (cond k (marks_for (job_of job) (share_of main shares c other) (from main s) (answered also-plain)) other) other) other) other) c 0
          go true true true true k t = same_after job s (ltb-true _ _ k) _ _ t
          go true true true false k t = a.own
          go true true false b k t = a.own
          go true false f b k t = a.own
          go false l f b k t = a.own

    -- ---- a call of the caller's

    -- A job that settles to the same from the own words whatever follows them,
    pub own_settled : (job : List ℕ) (s : Source)
        → ((more : List ℕ) → SettlesAlike job s (own_left shares marks c main ++ more) (own_left shares marks c main))
        → SameSettled main shares c a.within a.also job s
    unfolding available
    own_settled job s same =
        same (common_left shares marks main) ∙ sym (same (common_left shares other main))
        ∙ ap (λ (l : List ℕ). settle (lent_of (job_of job).header s) (job_of job).instructions (l ++ common_left shares other main)) same_own

    -- as one does that stays within the own stretch.
    same_settled : (job : List ℕ) (s : Source) → StaysWithin (lent_of (job_of job).header s) (job_of job).instructions (own_left shares marks c main)
        → SameSettled main shares c a.within a.also job s
    unfolding StaysWithin
    same_settled job s w = own_settled job s (stays (lent_of (job_of job).header s) (job_of job).instructions (own_left shares marks c main) w).same

    pub call_same : (k : Call) → caller_of k ≡ c → StaysOwn main shares k marks → reply_to main shares k marks ≡ reply_to main shares k other
    call_same = same_call main shares c a.within a.also same_settled

    -- A run takes words or not by the tests alone.
    pub run_takes_alike : (job : List ℕ) (m : Memory) → takes main shares (Call.run c job m) marks ≡ takes main shares (Call.run c job m) other
    unfolding takes shared_run_reply shared_reply tested enough_words
    run_takes_alike job m =
        rw (fit, marked)
        (go (eqb (check_job job).number 0) refl (enough_words (job_of job).header m && marks_fit (share_of main shares c other)) refl (shares_fit_of (share_of main shares c other) main) (ltb c (length shares)))
      where
        ran : List ℕ → RunReply
        ran marks = run_reply job (with_source m (shared (share_of main shares c marks) (from main m.source)))

        no : Answer → RunReply
        no b = untouched b (with_main main m)

        tests : Bool → Bool → Bool → Bool → RunReply → Bool
        tests p l f k r = takes_words (cond p (cond l (cond f (cond k r (no (answer 26 0))) (no (answer 25 0))) (no (answer 13 0))) (no (check_job job))).answered

        go : (p : Bool) → eqb (check_job job).number 0 ≡ p → (l : Bool) → (enough_words (job_of job).header m && marks_fit (share_of main shares c other)) ≡ l → (f k : Bool)
            → tests p l f k (ran marks) ≡ tests p l f k (ran other)
        go true p true l true true = took marks ∙ sym (took other)
          where
            took : (marks : List ℕ) → takes_words (ran marks).answered ≡ true
            took marks = run_takes job (with_source m (shared (share_of main shares c marks) (from main m.source))) (eqb-true _ 0 p) (both (enough_words (job_of job).header m) _ l).0
        go true p true l true false = refl
        go true p true l false k = refl
        go true p false l f k = refl
        go false p l' l f k = refl

    pub call_alike : (k : Call) → caller_of k ≡ c → RunOrStays main shares k marks → takes main shares k marks ≡ takes main shares k other
    unfolding caller_of RunOrStays
    call_alike (Call.run d job m) e w = rw e (run_takes_alike job m)
    call_alike (Call.settle d job s out) e w = unfold takes reply_to in ap answered_takes (call_same (Call.settle d job s out) e w)
      where
        answered_takes : Reply → Bool
        answered_takes (Reply.ran r) = takes_words r.answered
        answered_takes (Reply.wrote r) = takes_words r.answered

    pub call_mark : (k : Call) → caller_of k ≡ c → takes main shares k marks ≡ takes main shares k other → get_or (marks_by main shares k marks) c 0 ≡ get_or (marks_by main shares k other) c 0
    unfolding caller_of takes marks_by shared_run_reply shared_settle_reply
    call_mark (Call.run d job m) e t =
        rw e (same_mark job _ m.source (λ b. untouched b (with_main main m)) _ _ (λ (r : RunReply). r.answered) (rw e at t))
    call_mark (Call.settle d job s out) e t = rw e (same_mark job _ s (λ b. refused_text b out) _ _ (λ (r : TextReply). r.answered) (rw e at t))

  -- ---- a sequence

  pub agree_call : {marks other : List ℕ} → Agree marks other → (k : Call) → caller_of k ≡ c → takes main shares k marks ≡ takes main shares k other
      → Agree (marks_by main shares k marks) (marks_by main shares k other)
  agree_call a k e t =
      record { within = call_within main shares k _ a.within; also = call_within main shares k _ a.also; own = call_mark a k e t }

  -- a call of another's leaves the own mark alone
  pub other_keeps : (k : Call) (marks : List ℕ) → c < length shares → (caller_of k ≡ c → ⊥) → get_or (marks_by main shares k marks) c 0 ≡ get_or marks c 0
  other_keeps k marks below e = go (call_called main shares k marks)
    where
      go : Called (share_of main shares (caller_of k) marks) main (marks_by main shares k marks) (handed_by main shares k marks)
          → get_or (marks_by main shares k marks) c 0 ≡ get_or marks c 0
      go (Called.took m) =
          ap (λ (l : List ℕ). get_or l c 0) m.marks_are
          ∙ get_D_other (moved marks (caller_of k) m.own) (length shares) c m.common (λ (h : length shares ≡ c). omega (arith, h, below))
          ∙ get_D_other marks (caller_of k) c m.own e
      go (Called.none same h) = ap (λ (l : List ℕ). get_or l c 0) same

  agree_other : {marks other : List ℕ} → Agree marks other → c < length shares → (k : Call) → (caller_of k ≡ c → ⊥) → Agree marks (marks_by main shares k other)
  agree_other {marks} {other} a below k e =
      record { within = a.within; also = call_within main shares k other a.also; own = a.own ∙ sym (other_keeps k other below e) }

  -- The caller's own calls alone, beside the calls of all.
  pub agree_through : (marks other : List ℕ) → Agree marks other → c < length shares → (ks : List Call) → TakeAlike main shares c ks marks other
      → Agree (marks_through main shares (calls_of c ks) marks) (marks_through main shares ks other)
  unfolding calls_of marks_through TakeAlike
  agree_through marks other a below [] w = a
  agree_through marks other a below (k ∷ ks) w = go (eqb (caller_of k) c) refl (λ n o b. agree_through n o b below ks) w
    where
      go : (b : Bool) → eqb (caller_of k) c ≡ b
          → ((n o : List ℕ) → Agree n o → TakeAlike main shares c ks n o → Agree (marks_through main shares (calls_of c ks) n) (marks_through main shares ks o))
          → TakesAlike b (takes main shares k marks ≡ takes main shares k other) (TakeAlike main shares c ks (marks_by main shares k marks) (marks_by main shares k other))
          (TakeAlike main shares c ks marks (marks_by main shares k other))
          → Agree (marks_through main shares (cond b (k ∷ calls_of c ks) (calls_of c ks)) marks) (marks_through main shares ks (marks_by main shares k other))
      go true e ih v = unfold TakesAlike in ih _ _ (agree_call a k (eqb-true _ _ e) v.0) v.1
      go false e ih v = unfold TakesAlike in ih _ _ (agree_other a below k (eqb-false _ _ e)) v

  -- Runs, and settlings that stay within the own stretch, take their words in both cases or in neither.
  pub alike_through : (marks other : List ℕ) → Agree marks other → c < length shares → (ks : List Call) → AllRunOrStay main shares (calls_of c ks) marks
      → TakeAlike main shares c ks marks other
  unfolding calls_of TakeAlike AllRunOrStay
  alike_through marks other a below [] w = tt
  alike_through marks other a below (k ∷ ks) w = go (eqb (caller_of k) c) refl (λ n o b. alike_through n o b below ks) w
    where
      go : (b : Bool) → eqb (caller_of k) c ≡ b
          → ((n o : List ℕ) → Agree n o → AllRunOrStay main shares (calls_of c ks) n → TakeAlike main shares c ks n o)
          → AllRunOrStay main shares (cond b (k ∷ calls_of c ks) (calls_of c ks)) marks
          → TakesAlike b (takes main shares k marks ≡ takes main shares k other) (TakeAlike main shares c ks (marks_by main shares k marks) (marks_by main shares k other))
          (TakeAlike main shares c ks marks (marks_by main shares k other))
      go true e ih v =
          unfold TakesAlike in
          let alike = call_alike a k (eqb-true _ _ e) v.0 in
          (alike, ih _ _ (agree_call a k (eqb-true _ _ e) alike) v.1)
      go false e ih v = unfold TakesAlike in ih _ _ (agree_other a below k (eqb-false _ _ e)) v
