-- What the tests on lists say of the members at their places, and of sums over them: laws. Assumes nothing.
use Rattle.std.specs.Prelude.{ℕ, zero, suc, ◌≤◌, ◌<◌, ◌≡◌, Bool, true, false, not, ◌&&◌, eqb, ltb, length, get_or}
use Rattle.std.proofs.Common.{arith, sym, ap, ◌∙◌, true≢false, ltb-true, lt-ltb, eqb-true, eq-eqb}
use Rattle.std.proofs.Math.Path.{refl, fun_ext}
use mathlib.Core.List.{List, [], ◌∷◌}
use Rattle.std.proofs.lemmas.Bool.{not-true, not-false}
use Rattle.std.proofs.Math.Decide.{ℕ_discrete}
use Rattle.pauli.specs.Bits.{Bits, none, only, ◌⊕◌, ◌∩◌, ◌△◌, outside, members, parity, sum_over}
use Rattle.pauli.proofs.Laws.Parity.{at_or_off, parity_△_right, parity_only_right, parity_none_right}
use Rattle.text.specs.List.{rises_from, is_rising_of}
use Rattle.text.proofs.Laws.Values.{both}
use Rattle.job.specs.Clifford.{every}
use Rattle.job.specs.Checks.{all_below, distinct}
use Rattle.job.specs.Sound.{Every}

-- ---- every member

pub every_at : {A : Type 0} (P : A → Type 0) (l : List A) (d : A) → Every P l → (i : ℕ) → i < length l → P (get_or l i d)
every_at P [] d e i h = absurd (omega arith)
every_at P (a ∷ l) d e zero h = e.0
every_at P (a ∷ l) d e (suc i) h = every_at P l d e.1 i (omega arith)

pub every_map : {A : Type 0} (P Q : A → Type 0) (l : List A) → ((a : A) → P a → Q a) → Every P l → Every Q l
every_map P Q [] f p = tt
every_map P Q (a ∷ l) f p = (f a p.0, every_map P Q l f p.1)

-- a test of each number below n, at one of them
pub every_holds : (n : ℕ) (f : ℕ → Bool) → every n f ≡ true → (i : ℕ) → i < n → f i ≡ true
unfolding every
every_holds zero f e i h = absurd (omega arith)
every_holds (suc n) f e i h = go (ℕ_discrete i n) (both (f n) (every n f) e).0 (every_holds n f (both (f n) (every n f) e).1 i)
  where
    go : Dec (i ≡ n) → f n ≡ true → (i < n → f i ≡ true) → f i ≡ true
    go (yes p) here rest = ap f p ∙ here
    go (no p) here rest = rest (omega (arith, p))

-- ---- below

module _ (n : ℕ) where
  pub below_first : (q : ℕ) (qs : List ℕ) → all_below n (q ∷ qs) ≡ true → (q < n) × (all_below n qs ≡ true)
  unfolding all_below
  below_first q qs e = let parts = both (ltb q n) (all_below n qs) e in (ltb-true _ _ parts.0, parts.1)

  pub below_at : (l : List ℕ) → all_below n l ≡ true → (i : ℕ) → i < length l → get_or l i 0 < n
  below_at [] e i h = absurd (omega arith)
  below_at (q ∷ l) e zero h = (below_first q l e).0
  below_at (q ∷ l) e (suc i) h = below_at l (below_first q l e).1 i (omega arith)

  pub below_all : (l : List ℕ) → ((i : ℕ) → i < length l → get_or l i 0 < n) → all_below n l ≡ true
  unfolding all_below
  below_all [] h = refl
  below_all (q ∷ l) h = rw (lt-ltb q n (h 0 (omega arith))) (below_all l (λ i k. h (suc i) (omega arith)))

pub below_more : (n m : ℕ) (l : List ℕ) → n ≤ m → all_below n l ≡ true → all_below m l ≡ true
below_more n m l h e = below_all m l (λ i k. omega (arith, below_at n l e i k))

-- ---- members, none twice

-- a number that is at some place is a member
pub member_at : (l : List ℕ) (i : ℕ) → i < length l → members l (get_or l i 0) ≡ true
unfolding members outside
member_at [] i h = absurd (omega arith)
member_at (q ∷ l) zero h = rw (eq-eqb q q refl)
member_at (q ∷ l) (suc i) h = go (eqb (get_or l i 0) q) (member_at l i (omega arith))
  where
    go : (b : Bool) → not (outside l (get_or l i 0)) ≡ true → not (not b && outside l (get_or l i 0)) ≡ true
    go true e = refl
    go false e = e

-- a member is at some place
pub at_member : (l : List ℕ) (q : ℕ) → members l q ≡ true → (i : ℕ) × (i < length l) × (get_or l i 0 ≡ q)
unfolding members outside
at_member [] q e = absurd (true≢false (sym e))
at_member (a ∷ l) q e = go (eqb q a) refl e (at_member l q)
  where
    go : (b : Bool) → eqb q a ≡ b → not (not b && outside l q) ≡ true → (not (outside l q) ≡ true → (i : ℕ) × (i < length l) × (get_or l i 0 ≡ q))
        → (i : ℕ) × (i < suc (length l)) × (get_or (a ∷ l) i 0 ≡ q)
    go true s e ih = (0, omega arith, sym (eqb-true q a s))
    go false s e ih = let (i, h, p) = ih e in (suc i, omega arith, p)

pub distinct_first : (q : ℕ) (qs : List ℕ) → distinct (q ∷ qs) ≡ true → (members qs q ≡ false) × (distinct qs ≡ true)
unfolding distinct
distinct_first q qs e = let parts = both (not (members qs q)) (distinct qs) e in (not-true _ parts.0, parts.1)

-- two places of a list without repeats hold two numbers
pub distinct_at : (l : List ℕ) → distinct l ≡ true → (i j : ℕ) → i < length l → j < length l → get_or l i 0 ≡ get_or l j 0 → i ≡ j
distinct_at [] d i j h k e = absurd (omega arith)
distinct_at (q ∷ l) d zero zero h k e = refl
distinct_at (q ∷ l) d zero (suc j) h k e =
    absurd (true≢false (sym (member_at l j (omega arith)) ∙ ap (members l) (sym e) ∙ (distinct_first q l d).0))
distinct_at (q ∷ l) d (suc i) zero h k e =
    absurd (true≢false (sym (member_at l i (omega arith)) ∙ ap (members l) e ∙ (distinct_first q l d).0))
distinct_at (q ∷ l) d (suc i) (suc j) h k e = ap suc (distinct_at l (distinct_first q l d).1 i j (omega arith) (omega arith) e)

-- ---- rising

rises_first : (a b : ℕ) (l : List ℕ) → rises_from a (b ∷ l) ≡ true → (a < b) × (rises_from b l ≡ true)
unfolding rises_from
rises_first a b l e = let parts = both (ltb a b) (rises_from b l) e in (ltb-true _ _ parts.0, parts.1)

pub rising_rest : (a : ℕ) (l : List ℕ) → is_rising_of (a ∷ l) ≡ true → is_rising_of l ≡ true
unfolding is_rising_of
rising_rest a [] e = refl
rising_rest a (b ∷ l) e = (rises_first a b l e).1

-- what follows a is above it
rises_above : (a : ℕ) (l : List ℕ) → rises_from a l ≡ true → (i : ℕ) → i < length l → a < get_or l i 0
rises_above a [] e i h = absurd (omega arith)
rises_above a (b ∷ l) e zero h = (rises_first a b l e).0
rises_above a (b ∷ l) e (suc i) h =
    let parts = rises_first a b l e in omega (arith, parts.0, rises_above b l parts.1 i (omega arith))

-- what rises from a has no member a
rises_apart : (a : ℕ) (l : List ℕ) → rises_from a l ≡ true → members l a ≡ false
rises_apart a l e = go (members l a) refl
  where
    go : (b : Bool) → members l a ≡ b → b ≡ false
    go true m = let (i, h, p) = at_member l a m in absurd (omega (arith, rises_above a l e i h))
    go false m = refl

-- a rising list has no repeat
pub rising_distinct : (l : List ℕ) → is_rising_of l ≡ true → distinct l ≡ true
unfolding is_rising_of distinct
rising_distinct [] e = refl
rising_distinct (a ∷ l) e = rw (rises_apart a l e) (rising_distinct l (rising_rest a l e))

-- ---- sums over a rising list

members_none : members [] ≡ none
unfolding members outside none
members_none = refl

members_first : (a : ℕ) (l : List ℕ) → members l a ≡ false → members (a ∷ l) ≡ only a △ members l
unfolding members outside only ◌△◌ ◌⊕◌
members_first a l h = fun_ext (at_or_off (λ i e. not (not e && outside l i) ≡ e ⊕ not (outside l i)) a (rw (not-false (outside l a) h)) (λ i. refl))

-- the sum over the list is the parity over the set of its members
pub sum_over_members : (m : ℕ) (s : Bits) (l : List ℕ) → is_rising_of l ≡ true → all_below m l ≡ true → sum_over l s ≡ parity m (s ∩ members l)
unfolding sum_over
sum_over_members m s [] r b = rw members_none (sym (parity_none_right m s))
sum_over_members m s (a ∷ l) r b =
    let below = below_first m a l b in
    rw (members_first a l (rises_apart a l (unfold is_rising_of in r)))
    (simp (parity_△_right, parity_only_right m a s below.0, sum_over_members m s l (rising_rest a l r) below.1))
