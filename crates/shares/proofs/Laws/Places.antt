-- Laws: lists of places, marks and what they add up to. Assumes nothing.
use Rattle.std.specs.Prelude.{◌≡◌, refl, Bool, true, false, cond, List, [], ◌∷◌, ◌++◌, ℕ, zero, suc, ◌+◌, ◌-◌, ◌≤◌, ◌<◌, eqb, leb, length, get_or, take}
use Rattle.std.proofs.Common.{ap, ap₂, ◌∙◌, arith, eq-eqb, ne_eqb, leb-true, le-leb}
use Rattle.std.proofs.Math.Decide.{dec_lt, ℕ_discrete}
use Rattle.text.proofs.Laws.Values.{both}
use Rattle.shares.specs.Shares.{sum, each_within_of, moved}
use Rattle.shares.specs.Account.{places, times, nothing_taken, left_in_stretches}

-- ---- places

pub times_append : (p : ℕ) (a b : List ℕ) → times p (a ++ b) ≡ times p a + times p b
unfolding times
times_append p [] b = omega arith
times_append p (q ∷ a) b = go (eqb p q) (times_append p a b)
  where
    go : (here : Bool) → times p (a ++ b) ≡ times p a + times p b
        → cond here (suc (times p (a ++ b))) (times p (a ++ b)) ≡ cond here (suc (times p a)) (times p a) + times p b
    go true e = omega (arith, e)
    go false e = e

pub places_append : (at n k : ℕ) → places at (n + k) ≡ places at n ++ places (at + n) k
unfolding places
places_append at zero k =
    let none : 0 + k ≡ k = omega arith in
    let here : at ≡ at + 0 = omega arith in
    ap (places at) none ∙ ap (λ (a : ℕ). places a k) here
places_append at (suc n) k =
    let more : suc n + k ≡ suc (n + k) = omega arith in
    let behind : suc at + n ≡ at + suc n = omega arith in
    ap (places at) more ∙ ap (λ (l : List ℕ). at ∷ l) (places_append (suc at) n k ∙ ap (λ (a : ℕ). places (suc at) n ++ places a k) behind)

pub length_places : (at n : ℕ) → length (places at n) ≡ n
unfolding places
length_places at zero = refl
length_places at (suc n) = ap suc (length_places (suc at) n)

pub take_places : (at n k : ℕ) → n ≤ k → take n (places at k) ≡ places at n
unfolding places
take_places at zero k h = refl
take_places at (suc n) zero h = absurd (omega (arith, h))
take_places at (suc n) (suc k) h = ap (λ (l : List ℕ). at ∷ l) (take_places (suc at) n k (omega (arith, h)))

-- a place before those, and one behind them
pub times_before : (p at n : ℕ) → p < at → times p (places at n) ≡ 0
unfolding times places
times_before p at zero h = refl
times_before p at (suc n) h = rw (ne_eqb p at (λ (e : p ≡ at). omega (arith, h, e))) (times_before p (suc at) n (omega (arith, h)))

pub times_behind : (p at n : ℕ) → at + n ≤ p → times p (places at n) ≡ 0
unfolding times places
times_behind p at zero h = refl
times_behind p at (suc n) h = rw (ne_eqb p at (λ (e : p ≡ at). omega (arith, h, e))) (times_behind p (suc at) n (omega (arith, h)))

pub times_once : (p at n : ℕ) → times p (places at n) ≤ 1
unfolding times places
times_once p at zero = omega arith
times_once p at (suc n) = go (ℕ_discrete p at) (times_once p (suc at) n)
  where
    go : Dec (p ≡ at) → times p (places (suc at) n) ≤ 1 → cond (eqb p at) (suc (times p (places (suc at) n))) (times p (places (suc at) n)) ≤ 1
    go (yes e) later = rw (eq-eqb p at e, times_before p (suc at) n (omega (arith, e))) (omega arith)
    go (no e) later = rw (ne_eqb p at e) later

-- ---- marks

-- how often a place lies before the mark of a part; the parts follow each other, the common one behind the stretches
unfoldable pub marked : ℕ → ℕ → List ℕ → List ℕ → ℕ
marked p from shares [] = 0
marked p from [] (k ∷ marks) = times p (places from k)
marked p from (n ∷ shares) (k ∷ marks) = times p (places from k) + marked p (from + n) shares marks

pub marked_before : (p from : ℕ) (shares marks : List ℕ) → p < from → marked p from shares marks ≡ 0
unfolding marked
marked_before p from [] [] h = refl
marked_before p from [] (k ∷ marks) h = times_before p from k h
marked_before p from (n ∷ shares) [] h = refl
marked_before p from (n ∷ shares) (k ∷ marks) h = ap₂ ◌+◌ (times_before p from k h) (marked_before p (from + n) shares marks (omega (arith, h)))

-- no place lies before two marks
pub marked_once : (p from : ℕ) (shares marks : List ℕ) → each_within_of shares marks ≡ true → marked p from shares marks ≤ 1
unfolding marked each_within_of
marked_once p from [] [] w = omega arith
marked_once p from [] (k ∷ marks) w = times_once p from k
marked_once p from (n ∷ shares) [] w = omega arith
marked_once p from (n ∷ shares) (k ∷ marks) w =
    go (dec_lt p (from + n)) (leb-true k n (both (leb k n) (each_within_of shares marks) w).0) (marked_once p (from + n) shares marks (both (leb k n) (each_within_of shares marks) w).1)
  where
    go : Dec (p < from + n) → k ≤ n → marked p (from + n) shares marks ≤ 1 → times p (places from k) + marked p (from + n) shares marks ≤ 1
    go (yes h) few later = rw (marked_before p (from + n) shares marks h) (omega (arith, times_once p from k))
    go (no h) few later = omega (arith, times_behind p from k (omega (arith, h, few)), later)

-- nor behind the list's end
pub marked_behind : (p from : ℕ) (shares marks : List ℕ) → each_within_of shares marks ≡ true → from + sum shares + get_or marks (length shares) 0 ≤ p
    → marked p from shares marks ≡ 0
unfolding marked each_within_of sum
marked_behind p from [] [] w h = refl
marked_behind p from [] (k ∷ marks) w h = times_behind p from k (omega (arith, h))
marked_behind p from (n ∷ shares) [] w h = refl
marked_behind p from (n ∷ shares) (k ∷ marks) w h =
    let few : k ≤ n = leb-true k n (both (leb k n) (each_within_of shares marks) w).0 in
    ap₂ ◌+◌ (times_behind p from k (omega (arith, h, few)))
    (marked_behind p (from + n) shares marks (both (leb k n) (each_within_of shares marks) w).1 (omega (arith, h)))

pub marked_none : (p from : ℕ) (shares : List ℕ) (beyond : List ℕ) → marked p from shares (nothing_taken shares beyond) ≡ 0
unfolding marked places times
marked_none p from [] beyond = refl
marked_none p from (m ∷ shares) beyond = omega (arith, marked_none p (from + m) shares beyond)

-- ---- a mark moved

pub marked_moved : (p from : ℕ) (shares marks : List ℕ) (i t : ℕ) → i ≤ length shares → i < length marks
    → marked p from shares (moved marks i t) ≡ marked p from shares marks + times p (places (from + sum (take i shares) + get_or marks i 0) t)
unfolding marked moved sum
marked_moved p from shares [] i t a b = absurd (omega (arith, b))
marked_moved p from [] (k ∷ marks) zero t a b =
    ap (times p) (places_append from k t) ∙ times_append p (places from k) (places (from + k) t)
    ∙ ap (λ (x : ℕ). times p (places from k) + times p (places x t)) (omega arith)
marked_moved p from [] (k ∷ marks) (suc i) t a b = absurd (omega (arith, a))
marked_moved p from (n ∷ shares) (k ∷ marks) zero t a b =
    ap (λ (x : ℕ). x + marked p (from + n) shares marks) (ap (times p) (places_append from k t) ∙ times_append p (places from k) (places (from + k) t))
    ∙ (let e : from + k ≡ from + 0 + k = omega arith in rw (← e) (omega arith))
marked_moved p from (n ∷ shares) (k ∷ marks) (suc i) t a b =
    ap (λ (x : ℕ). times p (places from k) + x) (marked_moved p (from + n) shares marks i t (omega (arith, a)) (omega (arith, b)))
    ∙ (let e : from + n + sum (take i shares) + get_or marks i 0 ≡ from + (n + sum (take i shares)) + get_or marks i 0 = omega arith in rw e (omega arith))

pub within_at : (shares marks : List ℕ) (i : ℕ) → each_within_of shares marks ≡ true → i < length shares → i < length marks → get_or marks i 0 ≤ get_or shares i 0
unfolding each_within_of
within_at [] marks i w a b = absurd (omega (arith, a))
within_at (n ∷ shares) [] i w a b = absurd (omega (arith, b))
within_at (n ∷ shares) (k ∷ marks) zero w a b = leb-true k n (both (leb k n) (each_within_of shares marks) w).0
within_at (n ∷ shares) (k ∷ marks) (suc i) w a b = within_at shares marks i (both (leb k n) (each_within_of shares marks) w).1 (omega (arith, a)) (omega (arith, b))

-- within its stretch
pub within_moved : (shares marks : List ℕ) (i t : ℕ) → each_within_of shares marks ≡ true → get_or marks i 0 + t ≤ get_or shares i 0
    → each_within_of shares (moved marks i t) ≡ true
unfolding each_within_of moved
within_moved [] marks i t w h = refl
within_moved (n ∷ shares) [] i t w h = refl
within_moved (n ∷ shares) (k ∷ marks) zero t w h = rw (le-leb (k + t) n h) (both (leb k n) (each_within_of shares marks) w).1
within_moved (n ∷ shares) (k ∷ marks) (suc i) t w h =
    rw (both (leb k n) (each_within_of shares marks) w).0 (within_moved shares marks i t (both (leb k n) (each_within_of shares marks) w).1 h)

-- behind the stretches
pub within_common : (shares marks : List ℕ) (i t : ℕ) → each_within_of shares marks ≡ true → length shares ≤ i → each_within_of shares (moved marks i t) ≡ true
unfolding each_within_of moved
within_common [] marks i t w h = refl
within_common (n ∷ shares) [] i t w h = refl
within_common (n ∷ shares) (k ∷ marks) zero t w h = absurd (omega (arith, h))
within_common (n ∷ shares) (k ∷ marks) (suc i) t w h =
    rw (both (leb k n) (each_within_of shares marks) w).0 (within_common shares marks i t (both (leb k n) (each_within_of shares marks) w).1 (omega (arith, h)))

pub within_none : (shares beyond : List ℕ) → each_within_of shares (nothing_taken shares beyond) ≡ true
unfolding each_within_of
within_none [] beyond = refl
within_none (m ∷ shares) beyond = rw (le-leb 0 m (omega arith)) (within_none shares beyond)

-- ---- what is left of the stretches

pub left_moved : (shares marks : List ℕ) (i t : ℕ) → i < length shares → i < length marks → get_or marks i 0 + t ≤ get_or shares i 0
    → left_in_stretches shares (moved marks i t) + t ≡ left_in_stretches shares marks
unfolding left_in_stretches moved
left_moved [] marks i t a b h = absurd (omega (arith, a))
left_moved (n ∷ shares) [] i t a b h = absurd (omega (arith, b))
left_moved (n ∷ shares) (k ∷ marks) zero t a b h = omega (arith, h)
left_moved (n ∷ shares) (k ∷ marks) (suc i) t a b h =
    let e = left_moved shares marks i t (omega (arith, a)) (omega (arith, b)) h in
    omega (arith, e)

pub left_common : (shares marks : List ℕ) (i t : ℕ) → length shares ≤ i → left_in_stretches shares (moved marks i t) ≡ left_in_stretches shares marks
unfolding left_in_stretches moved
left_common [] marks i t h = refl
left_common (n ∷ shares) [] i t h = refl
left_common (n ∷ shares) (k ∷ marks) zero t h = absurd (omega (arith, h))
left_common (n ∷ shares) (k ∷ marks) (suc i) t h = ap (λ (x : ℕ). (n - k) + x) (left_common shares marks i t (omega (arith, h)))

pub left_none : (shares beyond : List ℕ) → left_in_stretches shares (nothing_taken shares beyond) ≡ sum shares
unfolding left_in_stretches sum
left_none [] beyond = refl
left_none (m ∷ shares) beyond = omega (arith, left_none shares beyond)
