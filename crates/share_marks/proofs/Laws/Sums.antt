-- Laws: sums of the first shares, and marks within them. Assumes nothing.
use Rattle.std.specs.Prelude.{◌≡◌, true, false, List, [], ◌∷◌, ℕ, zero, suc, ◌+◌, ◌≤◌, ◌<◌, min, length, get_or, take, drop}
use Rattle.std.proofs.Common.{ap, arith, add-one, drop_of_length-le}
use borrow.Author.Tests.{le-leb, lt-leb}
use Rattle.std.proofs.Math.Seq.{take-length}
use Rattle.text.proofs.Laws.Pieces.{step}
use Rattle.shares.specs.Shares.{sum, each_within_of}

-- ---- sums

sum_suc : (l : List ℕ) (i : ℕ) → i < length l → sum (take (suc i) l) ≡ sum (take i l) + get_or l i 0
unfolding sum
sum_suc [] i h = omega (arith, h)
sum_suc (n ∷ l) zero h = omega arith
sum_suc (n ∷ l) (suc i) h = let e = sum_suc l i (omega (arith, h)) in omega (arith, e)

pub sum_next : (l : List ℕ) (i : ℕ) → i < length l → sum (take (i + 1) l) ≡ sum (take i l) + get_or l i 0
sum_next l i h = rw add-one (sum_suc l i h)

pub sum_first : (l : List ℕ) (i n : ℕ) → i ≤ n → sum (take i l) ≤ sum (take n l)
unfolding sum
sum_first l zero n h = omega arith
sum_first l (suc i) zero h = omega (arith, h)
sum_first [] (suc i) (suc n) h = omega arith
sum_first (x ∷ l) (suc i) (suc n) h = let e = sum_first l i n (omega (arith, h)) in omega (arith, e)

pub sum_part : (l : List ℕ) (i : ℕ) → get_or l i 0 ≤ sum l
unfolding sum
sum_part [] i = omega arith
sum_part (n ∷ l) zero = omega arith
sum_part (n ∷ l) (suc i) = omega (arith, sum_part l i)

-- the running total: one share more, and where it passes the most
pub sum_more : (l : List ℕ) (i : ℕ) {total : ℕ} → total ≡ sum (take i l) → i < length l → total + get_or l i 0 ≡ sum (take (i + 1) l)
sum_more l i so_far h = omega (arith, so_far, sum_next l i h)

module _ (l : List ℕ) (i n most : ℕ) {total : ℕ} (so_far : total ≡ sum (take i l)) where
  pub sum_passes : i < n → n ≤ length l → most < total + get_or l i 0 → most + 1 ≡ min (sum (take n l)) (most + 1)
  sum_passes h within over = omega (arith, so_far, sum_next l i (omega (arith, h, within)), sum_first l (i + 1) n (omega (arith, h)), over)

-- the sum of all, by the sum up to the most
module _ (l : List ℕ) (most : ℕ) {total : ℕ} (e : total ≡ min (sum (take (length l) l)) (most + 1)) where
  whole : sum (take (length l) l) ≡ sum l
  whole = ap sum (take-length l)

  pub sum_over : most < total → most < sum l
  sum_over h = omega (arith, e, whole, h)

  pub sum_all : total ≤ most → total ≡ sum l
  sum_all h = omega (arith, e, whole, h)

-- ---- marks within shares

module _ (shares marks : List ℕ) (i : ℕ) (enough : length shares ≤ length marks) where
  pub within_here : i < length shares → get_or shares i 0 < get_or marks i 0 → each_within_of (drop i shares) (drop i marks) ≡ false
  unfolding each_within_of
  within_here h e = rw (step shares i h, step marks i (omega (arith, h, enough)), lt-leb (get_or marks i 0) (get_or shares i 0) e)

  pub within_next : i < length shares → get_or marks i 0 ≤ get_or shares i 0 → each_within_of (drop i shares) (drop i marks) ≡ each_within_of (drop (i + 1) shares) (drop (i + 1) marks)
  unfolding each_within_of
  within_next h e = rw (step shares i h, step marks i (omega (arith, h, enough)), le-leb (get_or marks i 0) (get_or shares i 0) e)

  pub within_end : length shares ≤ i → each_within_of (drop i shares) (drop i marks) ≡ true
  unfolding each_within_of
  within_end h = rw (drop_of_length-le shares h)
