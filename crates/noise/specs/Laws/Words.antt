-- The part of a list that a noise line reads from, in two pieces, and words that bring no fault. Laws. Assumes nothing.
use Rattle.std.specs.Prelude.{◌≡◌, ℕ, zero, suc, ◌+◌, ◌-◌, ◌%◌, ◌^◌, ◌<◌, ◌≤◌, Bool, true, false, cond, List, [], ◌∷◌, ◌++◌, length, take, drop, slice_index, refl, Float, Some, None, Option as Given}
use native.Mathlib.Omega.{arith}
use Rattle.std.proofs.Math.Path.{sym}
use Rattle.std.proofs.Common.{ap, ◌∙◌, length-drop, take_all, get_or-append-add}
use mathlib.Core.List.{append-nil}
use Rattle.std.proofs.Math.Option.{Option, none, some}
use Rattle.std.proofs.Math.ListN.{get_or-append}
use Rattle.std.proofs.Math.Seq.{drop-cons}
use Rattle.draws.specs.Draws.{falls, Lent, part_of}
use Rattle.draws.proofs.Laws.Spent.{drop_append}
use Rattle.noise.specs.Kinds.{correlation_of}
use Rattle.noise.specs.Words.{skip_of, more_of, WordIs, WordRead}

-- what a list holds from a place on, cut at its length
pub tail_whole : (ws : List ℕ) (i : ℕ) → take (length ws - i) (drop i ws) ≡ drop i ws
tail_whole ws i = let h : length (drop i ws) ≤ length ws - i = simp length-drop (omega arith) in take_all (length ws - i) (drop i ws) h

module _ (lent : Lent) (k : Given ℕ) (main r : List ℕ) where
  pub part_main : k ≡ None → r ≡ main → r ≡ part_of lent (correlation_of k) main
  unfolding part_of correlation_of
  part_main e q = rw e q

  pub part_second : (c base : ℕ) (second : List ℕ) → k ≡ Some c → lent.second ≡ second → lent.base ≡ base
      → r ≡ drop ((base + c) % 2 ^ 64) second → r ≡ part_of lent (correlation_of k) main
  unfolding part_of correlation_of
  part_second c base second e s b q = rw (e, s, b) q

-- the part of a main list that lies in two pieces
pub part_both : (lent : Lent) (k : Given ℕ) (main more first second : List ℕ) (position : ℕ) → first ≡ part_of lent (correlation_of k) (drop position main)
    → second ≡ more_of (correlation_of k) (drop (position - length main) more) → first ++ second ≡ part_of lent (correlation_of k) (drop position (main ++ more))
part_both lent k main more first second position a b = rw (a, b) (go (correlation_of k))
  where
    go : (c : Option ℕ) → part_of lent c (drop position main) ++ more_of c (drop (position - length main) more) ≡ part_of lent c (drop position (main ++ more))
    go none = unfold part_of more_of in sym (drop_append position main more)
    go (some c) = unfold part_of more_of in append-nil (drop ((lent.base + c) % 2 ^ 64) lent.second)

-- ---- two parts

pub both_first : (ws more : List ℕ) (i : ℕ) → i < length ws → slice_index ws i ≡ slice_index (ws ++ more) i
both_first ws more i h = sym (get_or-append ws more 0 i h)

pub both_second : (ws more : List ℕ) (i : ℕ) → length ws ≤ i → slice_index more (i - length ws) ≡ slice_index (ws ++ more) i
both_second ws more i h =
    let back : length ws + (i - length ws) ≡ i = omega arith in
    sym (get_or-append-add ws more (i - length ws) 0) ∙ ap (λ (j : ℕ). slice_index (ws ++ more) j) back

-- ---- the word at a place

module _ {words : List ℕ} {at : ℕ} where
  pub word_there : {w : ℕ} → at < length words → w ≡ slice_index words at → WordRead words at (Some w)
  unfolding WordIs
  word_there h e = record { is = (h, e) }

  pub words_ended : length words ≤ at → WordRead words at None
  unfolding WordIs
  words_ended h = record { is = h }

  module _ {r : Given ℕ} (q : WordRead words at r) where
    pub word_read : {w : ℕ} → r ≡ Some w → (at < length words) × (w ≡ slice_index words at)
    unfolding WordIs
    word_read e = rw e at q.is

    pub none_read : r ≡ None → length words ≤ at
    unfolding WordIs
    none_read e = rw e at q.is

-- ---- words that bring no fault

skip_nil : (p : Float) (most : ℕ) → skip_of p most [] ≡ 0
unfolding skip_of
skip_nil p zero = refl
skip_nil p (suc most) = refl

-- so many as there are words are the most
skip_all : (p : Float) (most : ℕ) (ws : List ℕ) → length ws ≤ most → skip_of p (length ws) ws ≡ skip_of p most ws
unfolding skip_of
skip_all p most [] h = sym (skip_nil p most)
skip_all p zero (w ∷ ws) h = absurd (omega arith)
skip_all p (suc most) (w ∷ ws) h = rw (skip_all p most ws (omega arith))

pub skip_end : (p : Float) (most : ℕ) (ws : List ℕ) (at left : ℕ) → left ≡ length ws - at → left ≤ most → skip_of p left (drop at ws) ≡ skip_of p most (drop at ws)
skip_end p most ws at left e h =
    let long : length (drop at ws) ≡ left = length-drop at ws ∙ sym e in
    ap (λ (k : ℕ). skip_of p k (drop at ws)) (sym long) ∙ skip_all p most (drop at ws) (omega (arith, long))

-- a word that follows so many without a fault, if they are not the most and not all, brings one
pub skip_falls : (p : Float) (most : ℕ) (ws : List ℕ) → skip_of p most ws < most → skip_of p most ws < length ws → falls (slice_index ws (skip_of p most ws)) p ≡ true
unfolding skip_of
skip_falls p zero ws h l = absurd (omega arith)
skip_falls p (suc most) [] h l = absurd (omega arith)
skip_falls p (suc most) (w ∷ ws) h l = go (falls w p) refl (skip_falls p most ws) h l
  where
    go : (b : Bool) → falls w p ≡ b → (skip_of p most ws < most → skip_of p most ws < length ws → falls (slice_index ws (skip_of p most ws)) p ≡ true)
        → cond b 0 (suc (skip_of p most ws)) < suc most → cond b 0 (suc (skip_of p most ws)) < suc (length ws)
        → falls (slice_index (w ∷ ws) (cond b 0 (suc (skip_of p most ws)))) p ≡ true
    go true f ih a b = f
    go false f ih a b = ih (omega arith) (omega arith)

module _ (p : Float) (ws : List ℕ) (at i n : ℕ) where
  -- no word is left, a fault, and a word that brings none
  pub skip_done : n ≤ i → skip_of p (n - i) (drop (at + i) ws) ≡ 0
  unfolding skip_of
  skip_done h = let z : n - i ≡ 0 = omega arith in rw z

  pub skip_stops : i < n → at + i < length ws → falls (slice_index ws (at + i)) p ≡ true → skip_of p (n - i) (drop (at + i) ws) ≡ 0
  unfolding skip_of
  skip_stops h l e = let left : n - i ≡ suc (n - (i + 1)) = omega arith in rw (left, drop-cons ws (at + i) 0, e)

  pub skip_more : i < n → at + i < length ws → falls (slice_index ws (at + i)) p ≡ false
      → skip_of p (n - i) (drop (at + i) ws) ≡ suc (skip_of p (n - (i + 1)) (drop (at + (i + 1)) ws))
  unfolding skip_of
  skip_more h l e =
      let left : n - i ≡ suc (n - (i + 1)) = omega arith in
      let next : at + (i + 1) ≡ suc (at + i) = omega arith in
      rw (left, drop-cons ws (at + i) 0, e, next)
