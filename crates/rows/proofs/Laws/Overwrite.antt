-- Runs of words that are written: what stands at each place afterwards, and a turn of each loop. Assumes nothing.
use Rattle.std.specs.Prelude.{◌≡◌, List, ◌⊎◌, length, get_or, set}
use Rattle.std.proofs.Math.Path.{refl, ap}
use Rattle.std.proofs.Common.{sym, ◌∙◌, inl, inr, arith, not-suc-le-zero, eq-or-lt_of_le, le_of_suc-le-suc, suc-mul, mul-le-mul_right, add-one, get_or-set_same, set-set}
use Rattle.std.proofs.Math.Logic.{⊎_elim}
use Prim.Native.Nat.{ℕ, zero, suc, ◌+◌, ◌*◌, ◌<◌, ◌≤◌}
use Rattle.std.proofs.Math.Numerals.{lt_of_le_of_ne}
use Rattle.std.proofs.Math.Decide.{dec_lt}
use Rattle.std.proofs.Math.ListN.{length-set}
use Rattle.std.proofs.Math.Seq.{get_or-set_other}
use Rattle.std.proofs.lemmas.List.{set_comm}
use Rattle.std.specs.Int.Bits.{bit_xor}
use Rattle.rows.specs.Overwrite.{overwrite, cleared, copied, xored, swapped, flipped}

module _ (at : ℕ) (f : ℕ → ℕ) (l : List ℕ) where
  -- before and after a turn of a loop that writes the run in order
  pub overwrite_none : l ≡ overwrite at 0 f l
  unfolding overwrite
  overwrite_none = refl

  pub overwrite_more : (n v : ℕ) (m : List ℕ) → m ≡ overwrite at n f l → v ≡ f n → set m (at + n) v ≡ overwrite at (n + 1) f l
  unfolding overwrite
  overwrite_more n v m e q = rw (add-one, e, q)

  pub length_overwrite : (n : ℕ) → length (overwrite at n f l) ≡ length l
  unfolding overwrite
  length_overwrite zero = refl
  length_overwrite (suc n) = length-set (overwrite at n f l) (at + n) (f n) ∙ length_overwrite n

  -- a word outside the run is as it was
  pub overwrite_out : (n k : ℕ) → (at ≤ k → k < at + n → ⊥) → get_or (overwrite at n f l) k 0 ≡ get_or l k 0
  unfolding overwrite
  overwrite_out zero k h = refl
  overwrite_out (suc n) k h =
      get_or-set_other (overwrite at n f l) (at + n) k (f n) 0 (λ (e : k ≡ at + n). h (omega arith) (omega arith))
      ∙ overwrite_out n k (λ a b. h a (omega arith))

  -- word j of the run is f j
  pub overwrite_in : (n j : ℕ) → j < n → at + n ≤ length l → get_or (overwrite at n f l) (at + j) 0 ≡ f j
  unfolding overwrite
  overwrite_in zero j h fits = absurd (not-suc-le-zero h)
  overwrite_in (suc n) j h fits =
      ⊎_elim
      (λ (e : j ≡ n). rw e (get_or-set_same (overwrite at n f l) (at + n) (f n) 0 (rw length_overwrite (omega arith))))
      (λ (p : j < n). get_or-set_other (overwrite at n f l) (at + n) (at + j) (f n) 0 (λ (e : at + j ≡ at + n). omega arith)
      ∙ overwrite_in n j p (omega arith))
      (eq-or-lt_of_le (le_of_suc-le-suc h))

-- ---- lengths

pub length_cleared : (at n : ℕ) (l : List ℕ) → length (cleared at n l) ≡ length l
unfolding cleared
length_cleared at n l = length_overwrite at _ l n

pub length_copied : (at from n : ℕ) (src l : List ℕ) → length (copied at from n src l) ≡ length l
unfolding copied
length_copied at from n src l = length_overwrite at _ l n

pub length_xored : (at from n : ℕ) (src l : List ℕ) → length (xored at from n src l) ≡ length l
unfolding xored
length_xored at from n src l = length_overwrite at _ l n

pub length_flipped : (w s r : ℕ) (l : List ℕ) → length (flipped w s r l) ≡ length l
unfolding flipped
length_flipped w s r l = length-set l _ _

-- ---- runs that do not meet

-- two runs of n words that do not meet
abbrev pub Apart : ℕ → ℕ → ℕ → Type 0
Apart n a b = (a + n ≤ b) ⊎ (b + n ≤ a)

pub apart_out : (n a b k : ℕ) → Apart n a b → b ≤ k → k < b + n → a ≤ k → k < a + n → ⊥
apart_out n a b k (inl p) h₁ h₂ h₃ h₄ = omega arith
apart_out n a b k (inr p) h₁ h₂ h₃ h₄ = omega arith

-- a row ends at or before the start of each later one
pub before_row : (w p q : ℕ) → p < q → p * w + w ≤ q * w
before_row w p q h = rw (← suc-mul) (mul-le-mul_right w h)

-- a row that starts before another ends at or before its start
pub row_order : (w p q : ℕ) → p * w < q * w → p * w + w ≤ q * w
row_order w p q h = by_order (dec_lt p q)
  where
    by_order : Dec (p < q) → p * w + w ≤ q * w
    by_order (yes l) = before_row w p q l
    by_order (no n) =
        let after : q ≤ p = omega arith in
        let below : q * w ≤ p * w = mul-le-mul_right w after in
        omega arith

-- two rows do not meet
pub rows_apart : (w r s : ℕ) → (r ≡ s → ⊥) → Apart w (r * w) (s * w)
rows_apart w r s ne = by_order (dec_lt r s)
  where
    by_order : Dec (r < s) → Apart w (r * w) (s * w)
    by_order (yes h) = inl (before_row w r s h)
    by_order (no h) = inr (before_row w s r (lt_of_le_of_ne (omega arith) (λ (e : s ≡ r). ne (sym e))))

-- ---- before and after a turn of each loop

pub cleared_none : (at : ℕ) (l : List ℕ) → l ≡ cleared at 0 l
unfolding cleared
cleared_none at l = overwrite_none at _ l

pub cleared_more : (at j : ℕ) (l m : List ℕ) → m ≡ cleared at j l → set m (at + j) 0 ≡ cleared at (j + 1) l
unfolding cleared
cleared_more at j l m e = overwrite_more at _ l j 0 m e refl

module _ (at from : ℕ) (src l : List ℕ) where
  pub copied_none : l ≡ copied at from 0 src l
  unfolding copied
  copied_none = overwrite_none at _ l

  pub copied_more : (j v : ℕ) (m : List ℕ) → m ≡ copied at from j src l → v ≡ get_or src (from + j) 0 → set m (at + j) v ≡ copied at from (j + 1) src l
  unfolding copied
  copied_more j v m e q = overwrite_more at _ l j v m e q

  -- the word that the next turn writes is as it was
  pub copied_next : (j : ℕ) (m : List ℕ) → m ≡ copied at from j src l → get_or m (at + j) 0 ≡ get_or l (at + j) 0
  unfolding copied
  copied_next j m e = rw e (overwrite_out at _ l j (at + j) (λ a b. omega arith))

  pub xored_none : l ≡ xored at from 0 src l
  unfolding xored
  xored_none = overwrite_none at _ l

  -- y, which the turn adds, is the word of src
  pub xored_more : (j y : ℕ) (m : List ℕ) → m ≡ xored at from j src l → y ≡ get_or src (from + j) 0
      → set m (at + j) (bit_xor (get_or m (at + j) 0) y) ≡ xored at from (j + 1) src l
  unfolding xored
  xored_more j y m e q = overwrite_more at _ l j _ m e (rw (e, q, overwrite_out at _ l j (at + j) (λ a b. omega arith)))

-- the word that the turn adds, where it lies in the same list, in a run that does not meet the one that is written
pub xored_next : (n at from j : ℕ) (l m : List ℕ) → Apart n at from → j < n → m ≡ xored at from j l l → get_or m (from + j) 0 ≡ get_or l (from + j) 0
unfolding xored
xored_next n at from j l m apart h e =
    rw e (overwrite_out at _ l j (from + j) (λ p q. apart_out n at from (from + j) apart (omega arith) (omega arith) p (omega arith)))

-- a store outside the run may come before it
overwrite_set : (at : ℕ) (f : ℕ → ℕ) (l : List ℕ) (n k v : ℕ) → (at ≤ k → k < at + n → ⊥) → set (overwrite at n f l) k v ≡ overwrite at n f (set l k v)
unfolding overwrite
overwrite_set at f l zero k v out = refl
overwrite_set at f l (suc n) k v out =
    set_comm (overwrite at n f l) (at + n) k (f n) v (λ (e : at + n ≡ k). out (omega arith) (omega arith))
    ∙ ap (λ (m : List ℕ). set m (at + n) (f n)) (overwrite_set at f l n k v (λ p q. out p (omega arith)))

-- a turn of the loop that exchanges two runs
pub swapped_none : (a b : ℕ) (l : List ℕ) → l ≡ swapped a b 0 l
unfolding swapped overwrite
swapped_none a b l = refl

module _ (n a b j : ℕ) (l m : List ℕ) (apart : Apart n a b) (h : j < n) (e : m ≡ swapped a b j l) where
  -- neither word of the turn has been written yet
  swapped_out : (k : ℕ) → (a ≤ k → k < a + j → ⊥) → (b ≤ k → k < b + j → ⊥) → get_or m k 0 ≡ get_or l k 0
  unfolding swapped
  swapped_out k p q = rw e (overwrite_out b _ _ j k q ∙ overwrite_out a _ l j k p)

  a_out : b ≤ a + j → a + j < b + j → ⊥
  a_out p q = apart_out n a b (a + j) apart p (omega arith) (omega arith) (omega arith)

  b_out : a ≤ b + j → b + j < a + j → ⊥
  b_out p q = apart_out n a b (b + j) apart (omega arith) (omega arith) p (omega arith)

  first_store : set m (a + j) (get_or m (b + j) 0) ≡ overwrite b j (λ i. get_or l (a + i) 0) (overwrite a (j + 1) (λ i. get_or l (b + i) 0) l)
  unfolding swapped
  first_store =
      rw (swapped_out (b + j) b_out (λ p q. omega arith), e)
      (overwrite_set b _ _ j (a + j) _ a_out ∙ ap (overwrite b j _) (overwrite_more a _ l j _ _ refl refl))

  pub swapped_more : set (set m (a + j) (get_or m (b + j) 0)) (b + j) (get_or m (a + j) 0) ≡ swapped a b (j + 1) l
  unfolding swapped
  swapped_more = overwrite_more b _ _ j _ _ first_store (swapped_out (a + j) (λ p q. omega arith) a_out)

-- ---- runs that are added together

overwrite_same : (at : ℕ) (f g : ℕ → ℕ) (l : List ℕ) (n : ℕ) → ((j : ℕ) → j < n → f j ≡ g j) → overwrite at n f l ≡ overwrite at n g l
unfolding overwrite
overwrite_same at f g l zero same = refl
overwrite_same at f g l (suc n) same =
    ap (λ (m : List ℕ). set m (at + n) (f n)) (overwrite_same at f g l n (λ j h. same j (omega arith)))
    ∙ ap (λ (v : ℕ). set (overwrite at n g l) (at + n) v) (same n (omega arith))

module _ (at from n : ℕ) (src l : List ℕ) (k : ℕ) (out : at ≤ k → k < at + n → ⊥) where
  xored_out : get_or (xored at from n src l) k 0 ≡ get_or l k 0
  unfolding xored
  xored_out = overwrite_out at _ l n k out

  xored_set : (v : ℕ) → set (xored at from n src l) k v ≡ xored at from n src (set l k v)
  unfolding xored
  xored_set v =
      overwrite_set at _ l n k v out
      ∙ overwrite_same at _ _ (set l k v) n (λ j h. ap (λ (x : ℕ). bit_xor x (get_or src (from + j) 0))
      (sym (get_or-set_other l k (at + j) v 0 (λ (e : at + j ≡ k). out (omega arith) (omega arith)))))

-- a turn of the loop that adds a run to two others, of which the first ends before the second or begins no earlier
module _ (p q from j : ℕ) (src l m : List ℕ) (out : q ≤ p + j → p + j < q + j → ⊥) (e : m ≡ xored q from j src (xored p from j src l)) where
  first_of_two : set m (p + j) (bit_xor (get_or m (p + j) 0) (get_or src (from + j) 0)) ≡ xored q from j src (xored p from (j + 1) src l)
  first_of_two =
      rw (e, xored_out q from j src (xored p from j src l) (p + j) out)
      (xored_set q from j src (xored p from j src l) (p + j) out _ ∙ ap (xored q from j src) (xored_more p from src l j _ _ refl refl))

  pub twice_more : (m' : List ℕ) → m' ≡ set m (p + j) (bit_xor (get_or m (p + j) 0) (get_or src (from + j) 0))
      → set m' (q + j) (bit_xor (get_or m' (q + j) 0) (get_or src (from + j) 0)) ≡ xored q from (j + 1) src (xored p from (j + 1) src l)
  twice_more m' e' = xored_more q from src (xored p from (j + 1) src l) j _ m' (e' ∙ first_of_two) refl

-- a turn of the loop that adds four runs to one
module _ (at j : ℕ) (src : List ℕ) where
  yet : (from : ℕ) (l : List ℕ) → get_or (xored at from j src l) (at + j) 0 ≡ get_or l (at + j) 0
  yet from l = xored_out at from j src l (at + j) (λ p q. omega arith)

  -- the word that is stored, u, takes one run more
  also : (from u : ℕ) (l l' : List ℕ) → at + j < length l → set l (at + j) u ≡ l'
      → set (xored at from j src l) (at + j) (bit_xor u (get_or src (from + j) 0)) ≡ xored at from (j + 1) src l'
  also from u l l' h e =
      let m = set (xored at from j src l) (at + j) u in
      let first : m ≡ xored at from j src l' = xored_set at from j src l (at + j) (λ p q. omega arith) u ∙ ap (xored at from j src) e in
      let back : get_or m (at + j) 0 ≡ u = get_or-set_same (xored at from j src l) (at + j) u 0 (rw length_xored h) in
      sym (set-set (xored at from j src l) (at + j) u (bit_xor u (get_or src (from + j) 0)))
      ∙ ap (λ (v : ℕ). set m (at + j) (bit_xor v (get_or src (from + j) 0))) (sym back)
      ∙ xored_more at from src l' j _ m first refl

  -- v and the runs' words of this turn
  abbrev four : ℕ → ℕ → ℕ → ℕ → ℕ → ℕ
  four a b c d v = bit_xor (bit_xor (bit_xor (bit_xor v (get_or src (a + j) 0)) (get_or src (b + j) 0)) (get_or src (c + j) 0)) (get_or src (d + j) 0)

  pub four_more : (a b c d : ℕ) (l m : List ℕ) → at + j < length l
      → m ≡ xored at d j src (xored at c j src (xored at b j src (xored at a j src l)))
      → set m (at + j) (four a b c d (get_or m (at + j) 0))
      ≡ xored at d (j + 1) src (xored at c (j + 1) src (xored at b (j + 1) src (xored at a (j + 1) src l)))
  four_more a b c d l m h e =
      let one = xored at a j src l in
      let two = xored at b j src one in
      let three = xored at c j src two in
      let read : get_or m (at + j) 0 ≡ get_or one (at + j) 0 = ap (λ (x : List ℕ). get_or x (at + j) 0) e ∙ yet d three ∙ yet c two ∙ yet b one in
      let in_one : at + j < length one = rw length_xored h in
      let in_two : at + j < length two = rw length_xored in_one in
      let in_three : at + j < length three = rw length_xored in_two in
      ap (λ (v : ℕ). set m (at + j) (four a b c d v)) read
      ∙ ap (λ (x : List ℕ). set x (at + j) (four a b c d (get_or one (at + j) 0))) e
      ∙ also d _ three _ in_three (also c _ two _ in_two (also b _ one _ in_one (xored_more at a src l j _ one refl refl)))
