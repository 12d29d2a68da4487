-- Laws: a call with a share by what the functions of this crate give: the words available by the two parts, and the marks that it leaves by the words taken.
-- Assumes nothing.
use Rattle.std.specs.Prelude.{◌≡◌, Bool, true, false, cond, length, drop}
use Rattle.std.proofs.Math.Path.{refl, ap}
use Rattle.std.proofs.Common.{◌∙◌, length-append, length-drop}
use mathlib.Core.List.{List, ◌++◌}
use Prim.Native.Nat.{ℕ, ◌+◌, ◌-◌, ◌^◌, ◌≤◌, ◌<◌, min}
use native.Mathlib.Omega.{arith}
use Rattle.std.proofs.Math.ListN.{get_or, set}
use Rattle.std.proofs.Math.Seq.{set-get_or}
use Rattle.job.specs.declared.Answer.{Answer}
use Rattle.job.specs.Job.{Job}
use Rattle.draws.specs.Left.{left_after}
use Rattle.run.specs.Run.{Source, lent_of}
use Rattle.shares.specs.Shares.{Share, own_left, common_left, available, marks_fit, shares_fit_of, caller_fits, moved, marks_after}
use Rattle.shares.specs.Replies.{taken_by, takes_words, marks_for}
use Rattle.shares.proofs.Laws.Places.{within_at}
use Rattle.shares.proofs.Laws.Words.{own_length, common_length}
use Rattle.shares.proofs.Laws.Moves.{fits}
use Rattle.share_marks.specs.Fit.{Fit, share_number_of}
use Rattle.share_marks.proofs.Laws.Sums.{sum_part}

-- ---- what is so where no number refuses

pub fit_of : (s : Share) (main : List ℕ) → share_number_of s main ≡ 0 → Fit s.shares s.marks main × (s.caller < length s.shares)
unfolding share_number_of
fit_of s main e = go (marks_fit s) refl (shares_fit_of s main) refl (caller_fits s) refl e
  where
    go : (m : Bool) → marks_fit s ≡ m → (f : Bool) → shares_fit_of s main ≡ f → (c : Bool) → caller_fits s ≡ c
        → ◌≡◌ {A = ℕ} (cond m (cond f (cond c 0 26) 25) 13) 0 → Fit s.shares s.marks main × (s.caller < length s.shares)
    go true m true f true c e =
        let h = fits s main m f c in
        (record { total = h.total; within = record { marked_all = h.marked; each = h.within; common = h.common } }, h.caller)
    go true m true f false c e = absurd (omega (arith, e))
    go true m false f c' c e = absurd (omega (arith, e))
    go false m f' f c' c e = absurd (omega (arith, e))

-- ---- the words available, and the marks after so many of them are taken

module _ (s : Share) (main : List ℕ) where
  abbrev own : List ℕ
  own = own_left s.shares s.marks s.caller main

  abbrev common : List ℕ
  common = common_left s.shares s.marks main

  pub words_available : own ++ common ≡ available s main
  unfolding available
  words_available = refl

  -- no mark passes 2^64
  pub marks_room : Fit s.shares s.marks main → s.caller < length s.shares → length main < 2 ^ 64 → (taken : ℕ) → taken ≤ length (own ++ common)
      → (s.caller < length s.shares) × (length s.shares < length s.marks)
      × (get_or s.marks s.caller 0 + length own < 2 ^ 64)
      × (get_or s.marks (length s.shares) 0 + (taken - length own) < 2 ^ 64)
  marks_room f below short taken few =
      let mark = within_at s.shares s.marks s.caller f.within.each below (omega (arith, below, f.within.marked_all)) in
      let stretch = sum_part s.shares s.caller in
      let long = length-append own common in (
        below,
        f.within.marked_all,
        omega (arith, short, f.total, mark, stretch, own_length s.shares s.marks s.caller main),
        omega (arith, short, f.total, f.within.common, few, long, common_length s.shares s.marks main),
      )

  pub marks_after_lem : (taken : ℕ) → moved (moved s.marks s.caller (min taken (length own))) (length s.shares) (taken - min taken (length own)) ≡ marks_after s main taken
  unfolding marks_after
  marks_after_lem taken = refl

  -- no word taken, no mark moved
  pub marks_kept : marks_after s main 0 ≡ s.marks
  unfolding marks_after moved
  marks_kept =
      let none : min 0 (length own) ≡ 0 = omega arith in
      rw none (kept (set s.marks s.caller (get_or s.marks s.caller 0 + 0)) (length s.shares) ∙ kept s.marks s.caller)
    where
      kept : (marks : List ℕ) (i : ℕ) → set marks i (get_or marks i 0 + 0) ≡ marks
      kept marks i = let e : get_or marks i 0 + 0 ≡ get_or marks i 0 = omega arith in ap (set marks i) e ∙ set-get_or marks i 0

-- The marks that a call leaves, where it leaves the words available at a place: where its job does, or with a number that takes none at their beginning.
pub marks_for_lem : (j : Job) (s : Share) (from : Source) (a : Answer) (taken : ℕ) → taken ≤ length (available s from.main)
    → drop taken (available s from.main)
    ≡ cond (takes_words a) (left_after (lent_of j.header from) j.instructions (available s from.main)) (available s from.main)
    → marks_after s from.main taken ≡ marks_for j s from a
unfolding marks_for taken_by
marks_for_lem j s from a taken few left = go (takes_words a) left
  where
    words : List ℕ
    words = available s from.main

    go : (b : Bool) → drop taken words ≡ cond b (left_after (lent_of j.header from) j.instructions words) words
        → marks_after s from.main taken
        ≡ cond b (marks_after s from.main (length words - length (left_after (lent_of j.header from) j.instructions words))) s.marks
    go true e =
        let n : taken ≡ length words - length (left_after (lent_of j.header from) j.instructions words) =
        omega (arith, few, ap length e, length-drop taken words) in
        ap (marks_after s from.main) n
    go false e =
        let n : taken ≡ 0 = omega (arith, few, ap length e, length-drop taken words) in
        ap (marks_after s from.main) n ∙ marks_kept s from.main
