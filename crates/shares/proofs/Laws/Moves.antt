-- Laws: what a call with a share does to the marks, and the places that it is handed. Assumes nothing.
use Rattle.std.specs.Prelude.{◌≡◌, Bool, ◌&&◌, ◌⊎◌, eqb, leb, length, get_or, take}
use Rattle.std.proofs.Math.Path.{refl, sym, ap}
use Rattle.std.proofs.Common.{◌∙◌, inl, inr, arith, eqb-true, eq-eqb, ne_eqb, ltb-true, leb-true}
use Rattle.std.proofs.Math.Bool.{true, false, true≢false, cond}
use mathlib.Core.List.{List, [], ◌∷◌, ◌++◌}
use Prim.Native.Nat.{ℕ, zero, suc, ◌+◌, ◌-◌, ◌≤◌, ◌<◌, min}
use Rattle.std.proofs.lemmas.Bool.{eqb-false}
use Rattle.text.proofs.Laws.Values.{both}
use Rattle.job.specs.declared.Answer.{Answer}
use Rattle.job.specs.Job.{answer, Job, job_of, check_job}
use Rattle.job.specs.Reply.{of_call}
use Rattle.job.proofs.Laws.Numbers.{check_of_job}
use Rattle.run.specs.Run.{Source}
use Rattle.shares.specs.Shares.{Share, sum, stretch_from, own_left, common_left, marks_fit, max_callers, each_within_of, shares_fit_of, caller_fits, moved, marks_after}
use Rattle.shares.specs.Replies.{shared, taken_by, takes_words, marks_for, Shared, tested, shared_reply}
use Rattle.shares.specs.Account.{places, available_places, handed, Passes}
use Rattle.shares.proofs.Laws.Places.{take_places}
use Rattle.shares.proofs.Laws.Words.{available_length}

-- ---- what passes the tests

pub record Fits (s : Share) (main : List ℕ) : Type 0 where
  pub marked : length s.shares < length s.marks
  pub total : sum s.shares ≤ length main
  pub within : each_within_of s.shares s.marks ≡ true
  pub common : get_or s.marks (length s.shares) 0 ≤ length main - sum s.shares
  pub caller : s.caller < length s.shares

pub fits : (s : Share) (main : List ℕ) → marks_fit s ≡ true → shares_fit_of s main ≡ true → caller_fits s ≡ true → Fits s main
unfolding shares_fit_of
fits s main m f c =
    let common = both _ (leb (get_or s.marks (length s.shares) 0) (length main - sum s.shares)) f in
    let within = both _ (each_within_of s.shares s.marks) common.0 in
    let total = both (leb 1 (length s.shares) && leb (length s.shares) max_callers) (leb (sum s.shares) (length main)) within.0 in
    record {
      marked = ltb-true _ _ m;
      total = leb-true _ _ total.1;
      within = within.1;
      common = leb-true _ _ common.1;
      caller = ltb-true _ _ c;
    }

-- ---- a call

-- so many words of the own stretch, and of the common part
pub record Moves (s : Share) (main marks : List ℕ) (places-handed : List ℕ) : Type 0 where
  pub fit : Fits s main
  pub own : ℕ
  pub common : ℕ
  pub own_within : own ≤ length (own_left s.shares s.marks s.caller main)
  pub common_within : common ≤ length (common_left s.shares s.marks main)
  pub marks_are : marks ≡ moved (moved s.marks s.caller own) (length s.shares) common
  pub handed_are : places-handed
      ≡ places (stretch_from s.shares s.caller + get_or s.marks s.caller 0) own ++ places (sum s.shares + get_or s.marks (length s.shares) 0) common

pub data Called (s : Share) (main marks handed-places : List ℕ) : Type 0 where
  took : Moves s main marks handed-places → Called s main marks handed-places
  none : marks ≡ s.marks → handed-places ≡ [] → Called s main marks handed-places

-- the first of two lists of places
first_places : (n at a to b : ℕ) → n ≤ a + b → take n (places at a ++ places to b) ≡ places at (min n a) ++ places to (n - min n a)
unfolding places
first_places zero at a to b h =
    let here : min 0 a ≡ 0 = omega arith in
    let there : 0 - min 0 a ≡ 0 = omega arith in
    rw (there, here) refl
first_places (suc n) at zero to b h =
    let here : min (suc n) 0 ≡ 0 = omega arith in
    let there : suc n - min (suc n) 0 ≡ suc n = omega arith in
    rw (there, here) (take_places to (suc n) b (omega (arith, h)))
first_places (suc n) at (suc a) to b h =
    let here : min (suc n) (suc a) ≡ suc (min n a) = omega arith in
    let there : suc n - min (suc n) (suc a) ≡ n - min n a = omega arith in
    rw (there, here) (ap (λ (l : List ℕ). at ∷ l) (first_places n (suc at) a to b (omega (arith, h))))

module _ (j : Job) (s : Share) (from : Source) (f : Fits s from.main) where
  abbrev own : List ℕ
  own = own_left s.shares s.marks s.caller from.main

  abbrev common : List ℕ
  common = common_left s.shares s.marks from.main

  abbrev taken : ℕ
  taken = taken_by j (shared s from)

  taken_few : taken ≤ length own + length common
  unfolding taken_by
  taken_few = omega (arith, available_length s from.main)

  abbrev of_own : ℕ
  of_own = min taken (length own)

  pub takes : Moves s from.main (marks_after s from.main taken) (take taken (available_places s from.main))
  unfolding marks_after available_places
  takes =
      record {
        fit = f;
        own = of_own;
        common = taken - of_own;
        own_within = omega arith;
        common_within = omega (arith, taken_few);
        marks_are = refl;
        handed_are = first_places taken _ (length own) _ (length common) taken_few;
      }

-- 0 and 14 take words, and no other number does
pub takes_zero : (a : Answer) → a.number ≡ 0 → takes_words a ≡ true
unfolding takes_words
takes_zero a e = rw e refl

takes_spent : (a : Answer) → a.number ≡ 14 → takes_words a ≡ true
unfolding takes_words
takes_spent a e = rw e refl

pub takes_by : (a : Answer) → (a.number ≡ 0 ⊎ a.number ≡ 14) → takes_words a ≡ true
takes_by a (inl e) = takes_zero a e
takes_by a (inr e) = takes_spent a e

pub takes_none : (a : Answer) → (a.number ≡ 0 → ⊥) → (a.number ≡ 14 → ⊥) → takes_words a ≡ false
unfolding takes_words
takes_none a not-zero not_spent = rw (ne_eqb a.number 0 not-zero) (ne_eqb a.number 14 not_spent)

pub own_number : (job : List ℕ) → ((check_job job).number ≡ 0 → ⊥) → takes_words (check_job job) ≡ false
own_number job refused = takes_none (check_job job) refused not_spent
  where
    not_spent : (check_job job).number ≡ 14 → ⊥
    not_spent e = let clash : true ≡ false = ap of_call (sym e) ∙ check_of_job job in absurd (true≢false clash)

-- Whatever the call is, and whatever it answers:
module _ {A : Type 0} (answered : A → Answer) (refuse : Answer → A) (refuses : (a : Answer) → answered (refuse a) ≡ a)
    (job : List ℕ) (enough : Bool) (s : Share) (from : Source) (plain : A) where
  abbrev r : Shared A
  r = shared_reply job enough s from refuse plain (answered plain)

  refused_none : (a : Answer) → takes_words a ≡ false → r.reply ≡ refuse a → r.marks ≡ s.marks
      → Called s from.main r.marks (handed (job_of job) s from (answered r.reply))
  unfolding handed
  refused_none a t e m = Called.none m (ap (λ (b : Bool). cond b (take (taken_by (job_of job) (shared s from)) (available_places s from.main)) []) (ap takes_words (ap answered e ∙ refuses a) ∙ t))

  pub called : Called s from.main r.marks (handed (job_of job) s from (answered r.reply))
  unfolding shared_reply tested takes_words
  called = passes (eqb (check_job job).number 0) refl
    where
      went : Fits s from.main → (b : Bool) → takes_words (answered plain) ≡ b
          → Called s from.main (marks_for (job_of job) s from (answered plain)) (handed (job_of job) s from (answered plain))
      went f true t = unfold marks_for handed in rw t (Called.took (takes (job_of job) s from f))
      went f false t = unfold marks_for handed in rw t (Called.none refl refl)

      caller : eqb (check_job job).number 0 ≡ true → (enough && marks_fit s) ≡ true → shares_fit_of s from.main ≡ true → (b : Bool) → caller_fits s ≡ b
          → Called s from.main r.marks (handed (job_of job) s from (answered r.reply))
      caller p l f true c = rw (p, l, f, c) (went (fits s from.main (both enough (marks_fit s) l).1 f c) (takes_words (answered plain)) refl)
      caller p l f false c = refused_none (answer 26 0) refl (rw (p, l, f, c) refl) (rw (p, l, f, c) refl)

      shares : eqb (check_job job).number 0 ≡ true → (enough && marks_fit s) ≡ true → (b : Bool) → shares_fit_of s from.main ≡ b
          → Called s from.main r.marks (handed (job_of job) s from (answered r.reply))
      shares p l true f = caller p l f (caller_fits s) refl
      shares p l false f = refused_none (answer 25 0) refl (rw (p, l, f) refl) (rw (p, l, f) refl)

      lent : eqb (check_job job).number 0 ≡ true → (b : Bool) → (enough && marks_fit s) ≡ b
          → Called s from.main r.marks (handed (job_of job) s from (answered r.reply))
      lent p true l = shares p l (shares_fit_of s from.main) refl
      lent p false l = refused_none (answer 13 0) refl (rw (p, l) refl) (rw (p, l) refl)

      passes : (b : Bool) → eqb (check_job job).number 0 ≡ b
          → Called s from.main r.marks (handed (job_of job) s from (answered r.reply))
      passes true p = lent p (enough && marks_fit s) refl
      passes false p = refused_none (check_job job) (own_number job (eqb-false _ 0 p)) (rw p refl) (rw p refl)

  -- The marks move only where words are taken.
  pub kept : takes_words (answered r.reply) ≡ false → r.marks ≡ s.marks
  unfolding shared_reply tested marks_for
  kept t = go (eqb (check_job job).number 0) (enough && marks_fit s) (shares_fit_of s from.main) (caller_fits s) t
    where
      after : List ℕ
      after = marks_after s from.main (taken_by (job_of job) (shared s from))

      go : (p l f c : Bool)
          → takes_words (answered (cond p (cond l (cond f (cond c plain (refuse (answer 26 0))) (refuse (answer 25 0))) (refuse (answer 13 0))) (refuse (check_job job)))) ≡ false
          → cond p (cond l (cond f (cond c (cond (takes_words (answered plain)) after s.marks) s.marks) s.marks) s.marks) s.marks ≡ s.marks
      go true true true true t = rw t refl
      go true true true false t = refl
      go true true false c t = refl
      go true false f c t = refl
      go false l f c t = refl

  -- A call whose answer no test gives has passed every test.
  pub passed_by : (P : Answer → Bool) → P (answer 26 0) ≡ false → P (answer 25 0) ≡ false → P (answer 13 0) ≡ false → (((check_job job).number ≡ 0 → ⊥) → P (check_job job) ≡ false)
      → P (answered r.reply) ≡ true → Passes job enough s from.main
  unfolding shared_reply tested
  passed_by P not26 not25 not13 not-tests t =
      go (eqb (check_job job).number 0) refl (enough && marks_fit s) refl (shares_fit_of s from.main) refl (caller_fits s) refl t
    where
      no : (a : Answer) → P a ≡ false → P (answered (refuse a)) ≡ true → ⊥
      no a f t = true≢false (sym t ∙ ap P (refuses a) ∙ f)

      go : (p : Bool) → eqb (check_job job).number 0 ≡ p → (l : Bool) → (enough && marks_fit s) ≡ l → (f : Bool) → shares_fit_of s from.main ≡ f → (c : Bool) → caller_fits s ≡ c
          → P (answered (cond p (cond l (cond f (cond c plain (refuse (answer 26 0))) (refuse (answer 25 0))) (refuse (answer 13 0))) (refuse (check_job job)))) ≡ true
          → Passes job enough s from.main
      go true p true l true f true c t = record { tests = eqb-true _ 0 p; lent = l; shares = f; caller = c }
      go true p true l true f false c t = absurd (no (answer 26 0) not26 t)
      go true p true l false f c' c t = absurd (no (answer 25 0) not25 t)
      go true p false l f' f c' c t = absurd (no (answer 13 0) not13 t)
      go false p l' l f' f c' c t = absurd (no (check_job job) (not-tests (eqb-false _ 0 p)) t)

  -- So has one that takes words.
  pub passed : takes_words (answered r.reply) ≡ true → Passes job enough s from.main
  unfolding takes_words
  passed = passed_by takes_words refl refl refl (own_number job)

  -- A call that takes words marks as many as its job takes.
  pub moves : takes_words (answered r.reply) ≡ true → r.marks ≡ marks_after s from.main (taken_by (job_of job) (shared s from))
  unfolding shared_reply tested marks_for
  moves t =
      let p = passed t in
      let went : r.reply ≡ plain = rw (eq-eqb _ _ p.tests, p.lent, p.shares, p.caller) refl in
      rw (eq-eqb _ _ p.tests, p.lent, p.shares, p.caller, sym (ap (λ (x : A). takes_words (answered x)) went) ∙ t) refl
