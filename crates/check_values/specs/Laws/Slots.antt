-- The tests on lists, a list or a member at a time. Laws. Assumes nothing.
use Rattle.std.specs.Prelude.{ℕ, suc, ◌+◌, ◌-◌, ◌≤◌, ◌<◌, max, ◌≡◌, refl, Bool, true, false, ◌&&◌, List, [], ◌∷◌, eqb, ltb, leb, length, take, drop}
use Rattle.std.proofs.Common.{add-one, sym, ap, ◌∙◌, drop_of_length-le, length-drop}
use native.Mathlib.Omega.{arith}
use Rattle.std.proofs.Math.Bool.{and-true}
use borrow.Author.Tests.{ltb-true, ltb-false, lt-ltb, le-ltb, eqb-true, eqb-false, eq-eqb, ne_eqb}
use Rattle.std.proofs.Math.ListN.{get_or}
use Rattle.std.proofs.Math.Seq.{take-length}
use Rattle.pauli.specs.Bits.{outside, members}
use Rattle.text.specs.Template.{Value, list_at_of}
use Rattle.numbers.specs.Read.{largest_of}
use Rattle.text.proofs.Laws.Pieces.{step}
use Rattle.job.specs.Checks.{all_below, each_below_of, each_short, distinct}
use Rattle.check_values.specs.Slots.{lists_from}

-- ---- below, by the largest member

max_below : (a b n : ℕ) → ltb (max a b) n ≡ (ltb a n && ltb b n)
max_below a b n = go (ltb a n) (ltb b n) refl refl
  where
    go : (s t : Bool) → ltb a n ≡ s → ltb b n ≡ t → ltb (max a b) n ≡ (s && t)
    go true true p q = lt-ltb (max a b) n (omega (arith, ltb-true a n p, ltb-true b n q))
    go true false p q = le-ltb (max a b) n (omega (arith, ltb-false b n q))
    go false t p q = le-ltb (max a b) n (omega (arith, ltb-false a n p))

pub below_none : (n : ℕ) (l : List ℕ) → length l ≡ 0 → all_below n l ≡ true
unfolding all_below
below_none n [] h = refl
below_none n (q ∷ l) h = absurd (omega arith)

-- of a list that is not empty
pub below_largest : (n : ℕ) (l : List ℕ) → (length l ≡ 0 → ⊥) → ltb (largest_of l) n ≡ all_below n l
unfolding all_below largest_of
below_largest n [] h = absurd (h refl)
below_largest n (q ∷ []) h = let m : max q 0 ≡ q = omega arith in rw m (sym (and-true (ltb q n)))
below_largest n (q ∷ b ∷ l) h =
    max_below q (largest_of (b ∷ l)) n ∙ ap (λ (t : Bool). ltb q n && t) (below_largest n (b ∷ l) (λ (e : suc (length l) ≡ 0). omega arith))

-- ---- below, member after member

module _ (n : ℕ) (l : List ℕ) (i : ℕ) where
  pub below_fails : i < length l → n ≤ get_or l i 0 → all_below n (drop i l) ≡ false
  unfolding all_below
  below_fails h e = rw (step l i h, le-ltb (get_or l i 0) n e)

  pub below_next : i < length l → get_or l i 0 < n → all_below n (drop i l) ≡ all_below n (drop (i + 1) l)
  unfolding all_below
  below_next h e = rw (step l i h, lt-ltb (get_or l i 0) n e)

  pub below_end : length l ≤ i → all_below n (drop i l) ≡ true
  unfolding all_below
  below_end h = rw (drop_of_length-le l h)

-- ---- a test of each list

-- `all` is the test `one` of each list
pub record Each (one : List ℕ → Bool) (all : List (List ℕ) → Bool) : Type 0 where
  pub nil : all [] ≡ true
  pub cons : (l : List ℕ) (ls : List (List ℕ)) → all (l ∷ ls) ≡ (one l && all ls)

pub each_below : (n : ℕ) → Each (all_below n) (each_below_of n)
unfolding each_below_of
each_below n = record { nil = refl; cons = λ l ls. refl }

pub each_short_lem : Each (λ (l : List ℕ). leb (length l) 31) each_short
unfolding each_short
each_short_lem = record { nil = refl; cons = λ l ls. refl }

lists_next : (vs : List Value) (i e : ℕ) → i < e → lists_from i (e - i) vs ≡ list_at_of i vs ∷ lists_from (i + 1) (e - (i + 1)) vs
unfolding lists_from
lists_next vs i e h = let k : e - i ≡ suc (e - (i + 1)) = omega arith in rw (k, add-one i)

module _ {one : List ℕ → Bool} {all : List (List ℕ) → Bool} (each : Each one all) (vs : List Value) (i e : ℕ) where
  pub each_fails : i < e → one (list_at_of i vs) ≡ false → all (lists_from i (e - i) vs) ≡ false
  each_fails h b = ap all (lists_next vs i e h) ∙ each.cons (list_at_of i vs) (lists_from (i + 1) (e - (i + 1)) vs) ∙ rw b

  pub each_next : i < e → one (list_at_of i vs) ≡ true → all (lists_from i (e - i) vs) ≡ all (lists_from (i + 1) (e - (i + 1)) vs)
  each_next h b = ap all (lists_next vs i e h) ∙ each.cons (list_at_of i vs) (lists_from (i + 1) (e - (i + 1)) vs) ∙ rw b

  pub each_end : e ≤ i → all (lists_from i (e - i) vs) ≡ true
  unfolding lists_from
  each_end h = let k : e - i ≡ 0 = omega arith in rw k each.nil

-- what holds from a up to i, and at i
pub up_to : (P : ℕ → Type 0) (a i : ℕ) → ((j : ℕ) → a ≤ j → j < i → P j) → P i → (j : ℕ) → a ≤ j → j < i + 1 → P j
up_to P a i before here j h g = go (eqb j i) refl
  where
    go : (b : Bool) → eqb j i ≡ b → P j
    go true e = rw (eqb-true j i e) here
    go false e = before j h (omega (arith, eqb-false j i e))

-- ---- members, none twice

module _ (l : List ℕ) (i : ℕ) where
  pub member_here : (n : ℕ) → i < length l → get_or l i 0 ≡ n → members (drop i l) n ≡ true
  unfolding members outside
  member_here n h e = rw (step l i h, eq-eqb n (get_or l i 0) (sym e))

  pub member_next : (n : ℕ) → i < length l → (get_or l i 0 ≡ n → ⊥) → members (drop i l) n ≡ members (drop (i + 1) l) n
  unfolding members outside
  member_next n h e = rw (step l i h, ne_eqb n (get_or l i 0) (λ (q : n ≡ get_or l i 0). e (sym q)))

  pub member_end : (n : ℕ) → length l ≤ i → members (drop i l) n ≡ false
  unfolding members outside
  member_end n h = rw (drop_of_length-le l h)

  pub twice : i < length l → members (drop (i + 1) l) (get_or l i 0) ≡ true → distinct (drop i l) ≡ false
  unfolding distinct
  twice h e = rw (step l i h, e)

  pub once : i < length l → members (drop (i + 1) l) (get_or l i 0) ≡ false → distinct (drop i l) ≡ distinct (drop (i + 1) l)
  unfolding distinct
  once h e = rw (step l i h, e)

  pub distinct_end : length l ≤ i → distinct (drop i l) ≡ true
  unfolding distinct
  distinct_end h = rw (drop_of_length-le l h)

-- from a place to the end
pub rest_whole : (s : List ℕ) (a : ℕ) → take (length s - a) (drop a s) ≡ drop a s
rest_whole s a = rw (← length-drop a s) (take-length (drop a s))
