-- Laws: the parts of the list by places. Assumes nothing.
use Rattle.std.specs.Prelude.{◌≡◌, List, [], ◌∷◌, ℕ, zero, suc, ◌+◌, ◌-◌, ◌≤◌, ◌<◌, min, length, take, drop}
use Rattle.std.proofs.Common.{sym, ◌∙◌, drop-drop}
use Rattle.std.proofs.Math.Path.{ap}
use native.Mathlib.Omega.{arith}
use Rattle.std.proofs.Math.ListN.{get_or, length-drop}
use Rattle.std.proofs.Math.Seq.{take_all, take-length, take-nil}
use Rattle.shares.specs.Shares.{sum, stretch_from, own_left, common_left}
use Rattle.shares.proofs.Laws.Places.{within_at}
use Rattle.share_marks.specs.Fit.{Fit}
use Rattle.share_marks.proofs.Laws.Sums.{sum_next, sum_first}

drop_take : (m n : ℕ) (l : List ℕ) → drop m (take n l) ≡ take (n - m) (drop m l)
drop_take zero n l = let e : n ≡ n - 0 = omega arith in ap (λ (k : ℕ). take k l) e
drop_take (suc m) zero l = let e : 0 ≡ 0 - suc m = omega arith in ap (λ (k : ℕ). take k (drop (suc m) l)) e
drop_take (suc m) (suc n) [] = sym (take-nil (suc n - suc m))
drop_take (suc m) (suc n) (x ∷ l) =
    let e : n - m ≡ suc n - suc m = omega arith in drop_take m n l ∙ ap (λ (k : ℕ). take k (drop m l)) e

-- ---- a caller's stretch, which begins at `start`

pub record Stretch (shares marks main : List ℕ) (caller start : ℕ) : Type 0 where
  pub begins : start ≡ stretch_from shares caller
  pub ends : start + get_or shares caller 0 ≤ length main
  pub within : get_or marks caller 0 ≤ get_or shares caller 0

module _ {shares marks main : List ℕ} (f : Fit shares marks main) where
  pub stretch : {caller start : ℕ} → caller < length shares → start ≡ min (sum (take caller shares)) (length main + 1) → Stretch shares marks main caller start
  stretch {caller} {start} h e =
      let whole : sum (take (length shares) shares) ≡ sum shares = ap sum (take-length shares) in
      let below = sum_first shares (caller + 1) (length shares) (omega (arith, h)) in
      let next = sum_next shares caller h in
      record {
        begins = omega (arith, e, whole, below, next, f.total);
        ends = omega (arith, e, whole, below, next, f.total);
        within = within_at shares marks caller f.within.each h (omega (arith, h, f.within.marked_all));
      }

  -- the place behind all stretches
  pub behind_all : {start : ℕ} → start ≡ min (sum (take (length shares) shares)) (length main + 1) → start ≡ sum shares
  behind_all e = let whole : sum (take (length shares) shares) ≡ sum shares = ap sum (take-length shares) in omega (arith, e, whole, f.total)

module _ (shares marks main : List ℕ) where
  pub own_part : (caller start : ℕ) → Stretch shares marks main caller start
      → take (start + get_or shares caller 0 - (start + get_or marks caller 0)) (drop (start + get_or marks caller 0) main) ≡ own_left shares marks caller main
  unfolding own_left
  own_part caller start s =
      let m = get_or marks caller 0 in
      let n = get_or shares caller 0 in
      let count : start + n - (start + m) ≡ n - m = omega arith in
      rw (count, s.begins)
      (sym (drop_take m n (drop (stretch_from shares caller) main) ∙ ap (take (n - m)) (drop-drop m (stretch_from shares caller) main)))

  pub common_part : (start : ℕ) → start ≡ sum shares
      → take (length main - (start + get_or marks (length shares) 0)) (drop (start + get_or marks (length shares) 0) main) ≡ common_left shares marks main
  unfolding common_left
  common_part start e =
      let k = get_or marks (length shares) 0 in
      take_all (length main - (start + k)) (drop (start + k) main) (omega (arith, length-drop (start + k) main))
      ∙ rw e (sym (drop-drop k (sum shares) main))
