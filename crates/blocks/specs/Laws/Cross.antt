-- Pairs of rows of a block: what stands at each place afterwards. Assumes nothing.
use Rattle.std.specs.Prelude.{◌≡◌, Bool, List, length, set}
use Rattle.std.proofs.Math.Path.{refl}
use Rattle.std.proofs.Common.{◌∙◌, ⊎_elim, arith, add-zero, not-suc-le-zero, eq-or-lt_of_le, le_of_suc-le-suc, add-one, length-set, get_or-set_same, get_or-set_other}
use Rattle.std.proofs.Math.Bool.{true, false, cond}
use Prim.Native.Nat.{ℕ, zero, suc, ◌+◌, ◌<◌, ◌≤◌}
use Rattle.std.proofs.Math.ListN.{get_or}
use Rattle.blocks.specs.Exchange.{partner, crossed}

-- ---- two stores

module _ (l : List ℕ) (i x j y : ℕ) where
  length_two : length (set (set l i x) j y) ≡ length l
  length_two = length-set (set l i x) j y ∙ length-set l i x

  two_other : (k : ℕ) → (k ≡ i → ⊥) → (k ≡ j → ⊥) → get_or (set (set l i x) j y) k 0 ≡ get_or l k 0
  two_other k p q = get_or-set_other (set l i x) j k y 0 q ∙ get_or-set_other l i k x 0 p

  two_first : (i ≡ j → ⊥) → i < length l → get_or (set (set l i x) j y) i 0 ≡ x
  two_first p h = get_or-set_other (set l i x) j i y 0 p ∙ get_or-set_same l i x 0 h

  two_second : j < length l → get_or (set (set l i x) j y) j 0 ≡ y
  two_second h = get_or-set_same (set l i x) j y 0 (rw (length-set l i x) h)

-- ---- the pairs

module _ (h mask at : ℕ) (l : List ℕ) where
  -- a word of pair n
  abbrev put : Bool → ℕ → ℕ
  put b n = partner h mask b (get_or l (at + n) 0) (get_or l (at + h + n) 0)

  abbrev up_to : ℕ → List ℕ
  up_to n = crossed h mask at n l

  pub crossed_none : l ≡ crossed h mask at 0 l
  unfolding crossed
  crossed_none = refl

  pub length_crossed : (n : ℕ) → length (crossed h mask at n l) ≡ length l
  unfolding crossed
  length_crossed zero = refl
  length_crossed (suc n) = length_two (up_to n) (at + n) (put false n) (at + h + n) (put true n) ∙ length_crossed n

  -- a word of no pair is as it was
  pub crossed_out : (n k : ℕ) → (at ≤ k → k < at + n → ⊥) → (at + h ≤ k → k < at + h + n → ⊥) → get_or (crossed h mask at n l) k 0 ≡ get_or l k 0
  unfolding crossed
  crossed_out zero k p q = refl
  crossed_out (suc n) k p q =
      two_other (up_to n) (at + n) (put false n) (at + h + n) (put true n) k
      (λ (e : k ≡ at + n). p (omega arith) (omega arith))
      (λ (e : k ≡ at + h + n). q (omega arith) (omega arith))
      ∙ crossed_out n k (λ a b. p a (omega arith)) (λ a b. q a (omega arith))

  -- the pair of turn n, and one of an earlier turn
  last : (b : Bool) (n : ℕ) → n < h → at + h + n < length l → get_or (crossed h mask at (suc n) l) (at + cond b h 0 + n) 0 ≡ put b n
  unfolding crossed
  last false n k fits =
      rw (add-zero at) (two_first (up_to n) (at + n) (put false n) (at + h + n) (put true n) (λ (e : at + n ≡ at + h + n). omega arith) (rw length_crossed (omega arith)))
  last true n k fits = two_second (up_to n) (at + n) (put false n) (at + h + n) (put true n) (rw length_crossed (omega arith))

  apart : (b : Bool) (n j : ℕ) → j < n → n < h → (at + cond b h 0 + j ≡ at + n → ⊥) × (at + cond b h 0 + j ≡ at + h + n → ⊥)
  apart false n j p q = (λ (e : at + 0 + j ≡ at + n). omega arith, λ (e : at + 0 + j ≡ at + h + n). omega arith)
  apart true n j p q = (λ (e : at + h + j ≡ at + n). omega arith, λ (e : at + h + j ≡ at + h + n). omega arith)

  earlier : (b : Bool) (n j : ℕ) → j < n → n < h → get_or (crossed h mask at (suc n) l) (at + cond b h 0 + j) 0 ≡ get_or (crossed h mask at n l) (at + cond b h 0 + j) 0
  unfolding crossed
  earlier b n j p q =
      two_other (up_to n) (at + n) (put false n) (at + h + n) (put true n) (at + cond b h 0 + j) (apart b n j p q).0 (apart b n j p q).1

  -- the words of pair j
  pub crossed_in : (b : Bool) (n j : ℕ) → j < n → n ≤ h → at + h + n ≤ length l → get_or (crossed h mask at n l) (at + cond b h 0 + j) 0 ≡ put b j
  crossed_in b zero j k le fits = absurd (not-suc-le-zero k)
  crossed_in b (suc n) j k le fits =
      ⊎_elim
      (λ (e : j ≡ n). rw e (last b n le (omega arith)))
      (λ (p : j < n). earlier b n j p le ∙ crossed_in b n j p (omega arith) (omega arith))
      (eq-or-lt_of_le (le_of_suc-le-suc k))

  -- a turn: neither word of the pair has been written yet
  pub crossed_more : (n x y : ℕ) (m : List ℕ) → n < h → m ≡ crossed h mask at n l
      → x ≡ partner h mask false (get_or m (at + n) 0) (get_or m (at + h + n) 0)
      → y ≡ partner h mask true (get_or m (at + n) 0) (get_or m (at + h + n) 0)
      → set (set m (at + n) x) (at + h + n) y ≡ crossed h mask at (n + 1) l
  unfolding crossed
  crossed_more n x y m k e p q =
      let low : get_or m (at + n) 0 ≡ get_or l (at + n) 0 = rw e (crossed_out n (at + n) (λ a b. omega arith) (λ a b. omega arith)) in
      let high : get_or m (at + h + n) 0 ≡ get_or l (at + h + n) 0 = rw e (crossed_out n (at + h + n) (λ a b. omega arith) (λ a b. omega arith)) in
      rw (add-one, p, q, low, high, e)
