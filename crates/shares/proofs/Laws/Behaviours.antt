-- Laws: a caller's calls in two behaviours of the others. Assumes nothing.
use Rattle.std.proofs.Math.Path.{◌≡◌, refl, sym, ap, subst}
use Rattle.std.proofs.Common.{◌∙◌, true≢false, arith, eqb-true, lt-ltb, ltb-true, le-leb, leb-true}
use Rattle.std.specs.Prelude.{Bool, ℕ, zero, suc, ◌-◌, ◌≤◌, ◌<◌, ltb, leb, length, take, drop}
use Rattle.std.proofs.Math.Bool.{true, false, cond}
use mathlib.Core.List.{List, [], ◌∷◌, ◌++◌}
use Rattle.std.proofs.lemmas.Bool.{eqb-false}
use Rattle.std.proofs.Math.Dec.{eqb}
use Rattle.std.proofs.Math.ListN.{get_or, length-append, length-drop}
use Rattle.job.specs.Job.{job_of}
use Rattle.job.specs.Reply.{TextReply, refused_text}
use Rattle.draws.specs.Settle.{settle}
use Rattle.draws.specs.Left.{left_after}
use Rattle.draws.proofs.Laws.Left.{Fewer, Uses, uses, stays}
use Rattle.run.specs.Run.{Source, lent_of}
use Rattle.shares.specs.Shares.{sum, stretch_from, own_left, common_left, available, each_within_of, moved}
use Rattle.shares.specs.Replies.{shared, taken_by, takes_words, tested, shared_reply, shared_run_reply, shared_settle_reply}
use Rattle.shares.specs.Account.{from, share_of, Call, Reply, caller_of, calls_of, reply_to, marks_by, handed_by, marks_through, StaysOwn, StaysWithin, takes, Within}
use Rattle.shares.proofs.Laws.Moves.{Called, moves}
use Rattle.shares.proofs.Laws.Sequences.{call_called, call_within, through_within}
use Rattle.shares.proofs.Laws.Alike.{own_after, same_fit, same_marked, SameSettled, same_text, same_call}
use Rattle.shares.proofs.Laws.Alone.{Agree, same_own, own_settled, call_same, call_mark, run_takes_alike, other_keeps}

get_D_grows : (marks : List ℕ) (i j t : ℕ) → get_or marks j 0 ≤ get_or (moved marks i t) j 0
unfolding moved
get_D_grows [] i j t = omega arith
get_D_grows (k ∷ marks) zero zero t = omega arith
get_D_grows (k ∷ marks) zero (suc j) t = omega arith
get_D_grows (k ∷ marks) (suc i) zero t = omega arith
get_D_grows (k ∷ marks) (suc i) (suc j) t = get_D_grows marks i j t

none_long : (l : List ℕ) → length l ≡ 0 → l ≡ []
none_long [] e = refl
none_long (x ∷ l) e = absurd (omega (arith, e))

module _ (main shares : List ℕ) (c : ℕ) where
  abbrev stretch : List ℕ
  stretch = take (get_or shares c 0) (drop (stretch_from shares c) main)

  -- the marks after a call, and after a sequence of calls
  abbrev next : Call → List ℕ → List ℕ
  next = marks_by main shares

  abbrev through : List Call → List ℕ → List ℕ
  through = marks_through main shares

  -- what is left of the main list after a job on these words
  abbrev left_of : List ℕ → Source → List ℕ → List ℕ
  left_of job s words = left_after (lent_of (job_of job).header s) (job_of job).instructions words

  -- nothing is left of the own stretch
  abbrev Used : List ℕ → Type 0
  Used marks = length stretch ≤ get_or marks c 0

  left_number : (marks : List ℕ) → length (own_left shares marks c main) ≡ length stretch - get_or marks c 0
  unfolding own_left
  left_number marks = length-drop (get_or marks c 0) stretch

  -- The own marks are the same, or in one of the two nothing is left of the own stretch.
  pub data Like (marks other : List ℕ) : Type 0 where
    alike : get_or marks c 0 ≡ get_or other c 0 → Like marks other
    used_first : Used marks → Like marks other
    used_second : Used other → Like marks other

  pub record Behaved (marks other : List ℕ) : Type 0 where
    pub within : Within main shares marks
    pub also : Within main shares other
    pub like : Like marks other

  flip : {marks other : List ℕ} → Behaved marks other → Behaved other marks
  flip {marks} {other} b = record { within = b.also; also = b.within; like = go b.like }
    where
      go : Like marks other → Like other marks
      go (Like.alike own) = Like.alike (sym own)
      go (Like.used_first used) = Like.used_second used
      go (Like.used_second used) = Like.used_first used

  -- ---- nothing is left of the own stretch

  module _ {marks other : List ℕ} (w : Within main shares marks) (v : Within main shares other) where
    -- A job that stays within nothing does the same, whatever is available.
    nothing_left : Used marks → (job : List ℕ) (s : Source)
        → StaysWithin (lent_of (job_of job).header s) (job_of job).instructions (own_left shares marks c main) → SameSettled main shares c w v job s
    unfolding available StaysWithin
    nothing_left used job s stay =
        let none : own_left shares marks c main ≡ [] = none_long _ (omega (arith, left_number marks, used)) in
        let none-stay = subst (StaysWithin (lent_of (job_of job).header s) (job_of job).instructions) none stay in
        let t = stays (lent_of (job_of job).header s) (job_of job).instructions [] none-stay in
        rw none (t.same (common_left shares marks main) ∙ sym (t.same (own_left shares other c main ++ common_left shares other main)))

    used_same : Used marks → (k : Call) → caller_of k ≡ c → StaysOwn main shares k marks → reply_to main shares k marks ≡ reply_to main shares k other
    used_same used = same_call main shares c w v (nothing_left used)

  -- Two behaviours in which a call stays within the own stretch: it replies the same.
  pub last_same : {marks other : List ℕ} → Behaved marks other → (k : Call) → caller_of k ≡ c
      → StaysOwn main shares k marks → StaysOwn main shares k other → reply_to main shares k marks ≡ reply_to main shares k other
  last_same {marks} {other} b k e stay also = go b.like
    where
      go : Like marks other → reply_to main shares k marks ≡ reply_to main shares k other
      go (Like.alike own) = call_same main shares c (record { within = b.within; also = b.also; own = own }) k e stay
      go (Like.used_first used) = used_same b.within b.also used k e stay
      go (Like.used_second used) = sym (used_same b.also b.within used k e also)

  -- ---- one call

  grows : (k : Call) (marks : List ℕ) → get_or marks c 0 ≤ get_or (next k marks) c 0
  grows k marks = go (call_called main shares k marks)
    where
      go : Called (share_of main shares (caller_of k) marks) main (next k marks) (handed_by main shares k marks)
          → get_or marks c 0 ≤ get_or (next k marks) c 0
      go (Called.took m) =
          let e : get_or (next k marks) c 0 ≡ get_or (moved (moved marks (caller_of k) m.own) (length shares) m.common) c 0 =
          ap (λ (l : List ℕ). get_or l c 0) m.marks_are in
          omega (arith, e, get_D_grows marks (caller_of k) c m.own, get_D_grows (moved marks (caller_of k) m.own) (length shares) c m.common)
      go (Called.none same h) =
          let e : get_or (next k marks) c 0 ≡ get_or marks c 0 = ap (λ (l : List ℕ). get_or l c 0) same in
          omega (arith, e)

  taken_all : (job : List ℕ) (s : Source) (marks : List ℕ)
      → Fewer (left_of job s (own_left shares marks c main ++ common_left shares marks main)) (common_left shares marks main)
      → length (own_left shares marks c main) ≤ taken_by (job_of job) (shared (share_of main shares c marks) (from main s))
  unfolding taken_by available
  taken_all job s marks f = omega (arith, f.few, length-append (own_left shares marks c main) (common_left shares marks main))

  -- Settling that went on into the common part and takes its words uses the own stretch up.
  used_up : (job : List ℕ) (s : Source) (out marks : List ℕ) → Within main shares marks → c < length shares
      → takes main shares (Call.settle c job s out) marks ≡ true → ((more : List ℕ) → Fewer (left_of job s (own_left shares marks c main ++ more)) more)
      → Used (next (Call.settle c job s out) marks)
  unfolding takes marks_by shared_settle_reply
  used_up job s out marks w below t less =
      let went = moves (λ (r : TextReply). r.answered) (λ b. refused_text b out) (λ b. refl) job _ (share_of main shares c marks) (from main s) _ t in
      let taken = taken_by (job_of job) (shared (share_of main shares c marks) (from main s)) in
      let after = ap (λ (l : List ℕ). get_or l c 0) went ∙ own_after main shares c marks w below taken in
      omega (arith, after, taken_all job s marks (less (common_left shares marks main)), left_number marks)

  module _ (job : List ℕ) (s : Source) (out : List ℕ) {marks other : List ℕ} (below : c < length shares) (a : Agree main shares c marks other) where
    abbrev k : Call
    k = Call.settle c job s out

    abbrev after : Type 0
    after = Like (next k marks) (next k other)

    equal : takes main shares k marks ≡ takes main shares k other → after
    unfolding caller_of
    equal t = Like.alike (call_mark main shares c a k refl t)

    settled_alike : SameSettled main shares c a.within a.also job s → takes main shares k marks ≡ takes main shares k other
    unfolding takes
    settled_alike e = ap (λ (r : TextReply). takes_words r.answered) (same_text main shares c a.within a.also job s out (λ p l. e))

    by_use : Uses (lent_of (job_of job).header s) (job_of job).instructions (own_left shares marks c main) → after
    by_use (Uses.within rest left same) = equal (settled_alike (own_settled main shares c a job s same))
    by_use (Uses.past i sp corr less) = cases (takes main shares k marks) refl (takes main shares k other) refl
      where
        cases : (p : Bool) → takes main shares k marks ≡ p → (q : Bool) → takes main shares k other ≡ q → after
        cases true p true q = equal (p ∙ sym q)
        cases false p false q = equal (p ∙ sym q)
        cases true p false q = Like.used_first (used_up job s out marks a.within below p less)
        cases false p true q =
            Like.used_second (used_up job s out other a.also below q
            (λ more. subst (λ (l : List ℕ). Fewer (left_of job s (l ++ more)) more) (same_own main shares c a) (less more)))

    settle_like : after
    settle_like = by_use (uses (lent_of (job_of job).header s) (job_of job).instructions (own_left shares marks c main))

  -- A run takes its words in both or in neither. So does settling, or the one that takes them uses the own stretch up.
  kind_like : {marks other : List ℕ} → c < length shares → Agree main shares c marks other → (k : Call) → caller_of k ≡ c
      → Like (next k marks) (next k other)
  unfolding caller_of
  kind_like below a (Call.run d job m) e =
      rw e (Like.alike (call_mark main shares c a (Call.run c job m) refl (run_takes_alike main shares c a job m)))
  kind_like below a (Call.settle d job s out) e = rw e (settle_like job s out below a)

  call_like : {marks other : List ℕ} → Behaved marks other → c < length shares → (k : Call) → caller_of k ≡ c
      → Behaved (next k marks) (next k other)
  call_like {marks} {other} b below k e =
      record { within = call_within main shares k _ b.within; also = call_within main shares k _ b.also; like = go b.like }
    where
      go : Like marks other → Like (next k marks) (next k other)
      go (Like.alike own) = kind_like below (record { within = b.within; also = b.also; own = own }) k e
      go (Like.used_first used) = Like.used_first (omega (arith, used, grows k marks))
      go (Like.used_second used) = Like.used_second (omega (arith, used, grows k other))

  -- a call of another's, on either side
  first_other : {marks other : List ℕ} → Behaved marks other → c < length shares → (k : Call) → (caller_of k ≡ c → ⊥) → Behaved (next k marks) other
  first_other {marks} {other} b below k e = record { within = call_within main shares k _ b.within; also = b.also; like = go b.like }
    where
      kept : get_or (next k marks) c 0 ≡ get_or marks c 0
      kept = other_keeps main shares c k marks below e

      go : Like marks other → Like (next k marks) other
      go (Like.alike own) = Like.alike (kept ∙ own)
      go (Like.used_first used) = Like.used_first (omega (arith, used, kept))
      go (Like.used_second used) = Like.used_second used

  second_other : {marks other : List ℕ} → Behaved marks other → c < length shares → (k : Call) → (caller_of k ≡ c → ⊥) → Behaved marks (next k other)
  second_other b below k e = flip (first_other (flip b) below k e)

  -- ---- a sequence

  -- the others' calls after all of the caller's
  rest_through : (marks other : List ℕ) → Behaved marks other → c < length shares → (ls : List Call) → calls_of c ls ≡ []
      → Behaved marks (through ls other)
  unfolding calls_of marks_through
  rest_through marks other b below [] e = b
  rest_through marks other b below (l ∷ ls) e = go (eqb (caller_of l) c) refl (λ o d. rest_through marks o d below ls) e
    where
      go : (t : Bool) → eqb (caller_of l) c ≡ t → ((o : List ℕ) → Behaved marks o → calls_of c ls ≡ [] → Behaved marks (through ls o))
          → cond t (l ∷ calls_of c ls) (calls_of c ls) ≡ [] → Behaved marks (through ls (next l other))
      go true t ih e = let no : ◌≡◌ {A = ℕ} 0 1 = cc in absurd (omega arith)
      go false t ih e = ih _ (second_other b below l (eqb-false _ _ t)) e

  -- the caller's next call on the one side, found on the other
  found_through : (marks other : List ℕ) → Behaved marks other → c < length shares → (k : Call) → caller_of k ≡ c → (ks : List Call)
      → ((m o : List ℕ) → Behaved m o → (ls : List Call) → calls_of c ks ≡ calls_of c ls → Behaved (through ks m) (through ls o))
      → (ls : List Call) → k ∷ calls_of c ks ≡ calls_of c ls
      → Behaved (through ks (next k marks)) (through ls other)
  unfolding calls_of marks_through
  found_through marks other b below k mine ks later [] e = let no : ◌≡◌ {A = ℕ} 0 1 = cc in absurd (omega arith)
  found_through marks other b below k mine ks later (l ∷ ls) e =
      go (eqb (caller_of l) c) refl (λ o d f. found_through marks o d below k mine ks later ls f) e
    where
      go : (t : Bool) → eqb (caller_of l) c ≡ t
          → ((o : List ℕ) → Behaved marks o → k ∷ calls_of c ks ≡ calls_of c ls → Behaved (through ks (next k marks)) (through ls o))
          → k ∷ calls_of c ks ≡ cond t (l ∷ calls_of c ls) (calls_of c ls)
          → Behaved (through ks (next k marks)) (through ls (next l other))
      go true t ih e =
          let same : k ≡ l = cc in
          let rest : calls_of c ks ≡ calls_of c ls = cc in
          subst (λ (x : Call). Behaved (through ks (next k marks)) (through ls (next x other))) same
          (later _ _ (call_like b below k mine) ls rest)
      go false t ih e = ih _ (second_other b below l (eqb-false _ _ t)) e

  pub both_through : (marks other : List ℕ) → Behaved marks other → c < length shares → (ks ls : List Call) → calls_of c ks ≡ calls_of c ls
      → Behaved (through ks marks) (through ls other)
  unfolding calls_of marks_through
  both_through marks other b below [] ls e = rest_through marks other b below ls (sym e)
  both_through marks other b below (k ∷ ks) ls e = go (eqb (caller_of k) c) refl (λ m o d ns f. both_through m o d below ks ns f) e
    where
      go : (t : Bool) → eqb (caller_of k) c ≡ t
          → ((m o : List ℕ) → Behaved m o → (ns : List Call) → calls_of c ks ≡ calls_of c ns → Behaved (through ks m) (through ns o))
          → cond t (k ∷ calls_of c ks) (calls_of c ks) ≡ calls_of c ls
          → Behaved (through ks (next k marks)) (through ls other)
      go true t ih e = found_through marks other b below k (eqb-true _ _ t) ks ih ls e
      go false t ih e = ih _ _ (first_other b below k (eqb-false _ _ t)) ls e

-- ---- any start, any caller

within_decided : (main shares marks : List ℕ) → Dec (Within main shares marks)
within_decided main shares marks =
    go (ltb (length shares) (length marks)) refl (each_within_of shares marks) refl (leb (get_or marks (length shares) 0) (length main - sum shares)) refl
  where
    go : (m : Bool) → ltb (length shares) (length marks) ≡ m → (e : Bool) → each_within_of shares marks ≡ e
        → (l : Bool) → leb (get_or marks (length shares) 0) (length main - sum shares) ≡ l → Dec (Within main shares marks)
    go true m true e true l = yes (record { marked_all = ltb-true _ _ m; each = e; common = leb-true _ _ l })
    go true m true e false l = no (λ w. true≢false (sym (le-leb _ _ w.common) ∙ l))
    go true m false e l' l = no (λ w. true≢false (sym w.each ∙ e))
    go false m e' e l' l = no (λ w. true≢false (sym (lt-ltb _ _ w.marked_all) ∙ m))

-- If more is marked taken than the parts hold, every call is refused, and the marks stay.
still : (main shares marks : List ℕ) → (Within main shares marks → ⊥) → (ks : List Call) → marks_through main shares ks marks ≡ marks
unfolding marks_through
still main shares marks beyond [] = refl
still main shares marks beyond (k ∷ ks) = go (still main shares marks beyond ks) (call_called main shares k marks)
  where
    go : marks_through main shares ks marks ≡ marks
        → Called (share_of main shares (caller_of k) marks) main (marks_by main shares k marks) (handed_by main shares k marks)
        → marks_through main shares ks (marks_by main shares k marks) ≡ marks
    go ih (Called.took m) = absurd (beyond (record { marked_all = m.fit.marked; each = m.fit.within; common = m.fit.common }))
    go ih (Called.none same h) = ap (marks_through main shares ks) same ∙ ih

-- A call of a caller that there is not is refused by the same number, whatever the marks.
no_caller : (main shares : List ℕ) (c : ℕ) {marks other : List ℕ} → Within main shares marks → Within main shares other
    → ltb c (length shares) ≡ false → (k : Call) → caller_of k ≡ c → reply_to main shares k marks ≡ reply_to main shares k other
unfolding caller_of reply_to shared_run_reply shared_settle_reply shared_reply tested
no_caller main shares c w v none (Call.run d job m) e =
    rw e (ap Reply.ran (rw (same_fit main shares c w v, same_marked main shares c w v, none) refl))
no_caller main shares c w v none (Call.settle d job s out) e =
    rw e (ap Reply.wrote (rw (same_fit main shares c w v, same_marked main shares c w v, none) refl))

pub both_same : (main shares start : List ℕ) (c : ℕ) (ks ls : List Call) → calls_of c ks ≡ calls_of c ls → (k : Call) → caller_of k ≡ c
    → StaysOwn main shares k (marks_through main shares ks start) → StaysOwn main shares k (marks_through main shares ls start)
    → reply_to main shares k (marks_through main shares ks start) ≡ reply_to main shares k (marks_through main shares ls start)
both_same main shares start c ks ls same k e stay also = go (within_decided main shares start) (ltb c (length shares)) refl
  where
    go : Dec (Within main shares start) → (b : Bool) → ltb c (length shares) ≡ b
        → reply_to main shares k (marks_through main shares ks start) ≡ reply_to main shares k (marks_through main shares ls start)
    go (no beyond) b t = ap (reply_to main shares k) (still main shares start beyond ks ∙ sym (still main shares start beyond ls))
    go (yes w) true t =
        last_same main shares c
        (both_through main shares c start start (record { within = w; also = w; like = Like.alike refl }) (ltb-true _ _ t) ks ls same) k e stay also
    go (yes w) false t = no_caller main shares c (through_within main shares ks start w) (through_within main shares ls start w) t k e
