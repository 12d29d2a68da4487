-- Values that can be written by the letters of a template, and that take few bytes. Laws. Assumes nothing.
use Rattle.std.specs.Prelude.{◌≡◌, refl, Bool, true, false, cond, List, [], ◌∷◌, ◌++◌, ℕ, zero, suc, ◌+◌, ◌*◌, ◌/◌, ◌%◌, ◌^◌, ◌<◌, ◌≤◌, ltb, length}
use Rattle.std.proofs.Common.{arith, pow-suc, ltb-false, length-append}
use Rattle.text.specs.Number.{decimal, decimal_digits, hex_digits}
use Rattle.text.specs.List.{commas_by, list_text_by}
use Rattle.text.specs.Template.{Value, is_letter_of, value_text, first_text, line_text}
use Rattle.text.specs.Written.{AllSmall, Suits, FirstSuits, AllSuit}
use Rattle.job.specs.Checks.{all_below}
use Rattle.job.proofs.Laws.Lists.{below_first, below_more}
use Rattle.made.proofs.Laws.Choice.{Few, Stretch}

-- ---- lengths

-- a number of at most k digits
digits_length : (f k n : ℕ) → n < 10 ^ suc k → length (decimal_digits f n) ≤ suc k
unfolding decimal_digits
digits_length zero k n h = omega arith
digits_length (suc f) k n h = go k h (ltb n 10) refl (λ (j : ℕ). digits_length f j (n / 10))
  where
    go : (k : ℕ) → n < 10 ^ suc k → (b : Bool) → ltb n 10 ≡ b → ((j : ℕ) → n / 10 < 10 ^ suc j → length (decimal_digits f (n / 10)) ≤ suc j)
        → length (cond b ((48 + n) ∷ []) (decimal_digits f (n / 10) ++ (48 + n % 10) ∷ [])) ≤ suc k
    go k h true e ih = omega arith
    go zero h false e ih = absurd (omega (arith, ltb-false n 10 e))
    go (suc k) h false e ih =
        let less : n / 10 < 10 ^ suc k = omega (arith, pow-suc 10 (suc k)) in
        omega (arith, ih k less, length-append (decimal_digits f (n / 10)) ((48 + n % 10) ∷ []))

-- numbers below 10,000 alone
commas_length : (l : List ℕ) → all_below 10000 l ≡ true → length (commas_by decimal l) ≤ 5 * length l
unfolding commas_by
commas_length [] b = omega arith
commas_length (n ∷ l) b =
    let (here, later) = below_first 10000 n l b in
    omega (arith, digits_length 20 3 n here, commas_length l later, length-append (decimal n) (commas_by decimal l))

list_length : (l : List ℕ) → all_below 10000 l ≡ true → length (list_text_by decimal l) ≤ 5 * length l + 1
unfolding list_text_by
list_length [] b = omega arith
list_length (n ∷ l) b =
    let (here, later) = below_first 10000 n l b in
    omega (arith, digits_length 20 3 n here, commas_length l later, length-append (decimal n) (commas_by decimal l))

-- ---- values by their letters

-- a value that suits its letter, of at most 41 bytes
pub record Brief (t : ℕ) (d : Value) : Type 0 where
  pub suits : Suits t d
  pub short : length (value_text t d) ≤ 41

all_small : (l : List ℕ) → all_below (2 ^ 64) l ≡ true → AllSmall l
all_small [] b i = omega arith
all_small (q ∷ l) b zero = (below_first (2 ^ 64) q l b).0
all_small (q ∷ l) b (suc i) = all_small l (below_first (2 ^ 64) q l b).1 i

small_below : (l : List ℕ) → all_below 10000 l ≡ true → AllSmall l
small_below l b = all_small l (below_more 10000 (2 ^ 64) l (omega arith) b)

pub brief_N : (n : ℕ) → n < 10000 → Brief 78 (Value.number n)
unfolding value_text
brief_N n h = record { suits = Suits.N {n = n} (omega arith); short = omega (arith, digits_length 20 3 n h) }

pub brief_B : (n : ℕ) → n < 2 → Brief 66 (Value.number n)
unfolding value_text
brief_B n h = record { suits = Suits.B h; short = omega (arith, digits_length 20 3 n (omega arith)) }

pub brief_H : (n : ℕ) → n < 2 ^ 64 → Brief 72 (Value.number n)
unfolding value_text hex_digits
brief_H n h = record { suits = Suits.H h; short = omega arith }

module _ (n : ℕ) (few : n ≤ 10000) (l : List ℕ) where
  pub brief_L : Few n l → Brief 76 (Value.list l)
  unfolding value_text
  brief_L f =
      let b = below_more n 10000 l few f.below in
      record { suits = Suits.L (record { rising = f.rising; small = small_below l b }); short = omega (arith, f.short, list_length l b) }

  pub brief_Q : Stretch n l → Brief 81 (Value.list l)
  unfolding value_text
  brief_Q s =
      let b = below_more n 10000 l few s.below in
      record { suits = Suits.Q (record { filled = s.filled; small = small_below l b }); short = omega (arith, s.short, list_length l b) }

  -- a number or none
  pub brief_C : length l ≤ 1 → all_below n l ≡ true → Brief 67 (Value.list l)
  unfolding value_text
  brief_C h below =
      let b = below_more n 10000 l few below in
      record { suits = Suits.C (record { single = h; small = small_below l b }); short = omega (arith, list_length l b) }

-- words by their hexadecimal digits
pub brief_T : (ws : List ℕ) → 0 < length ws → all_below (2 ^ 64) ws ≡ true → length (value_text 84 (Value.list ws)) ≤ 41 → Brief 84 (Value.list ws)
brief_T ws h b short = record { suits = Suits.T (record { filled = h; small = all_small ws b }); short = short }

-- ---- lines

abbrev pub FirstBrief : ℕ → (List Value → Type 0) → List Value → Type 0
FirstBrief t rest [] = ⊥
FirstBrief t rest (d ∷ ds) = Brief t d × rest ds

-- one value for each letter of a template, in order
abbrev pub AllBrief : List ℕ → List Value → Type 0
AllBrief [] [] = Unit {0}
AllBrief [] (d ∷ ds) = ⊥
AllBrief (t ∷ ts) ds = cond (is_letter_of t) (FirstBrief t (AllBrief ts) ds) (AllBrief ts ds)

pub brief_suit : (ts : List ℕ) (ds : List Value) → AllBrief ts ds → AllSuit ts ds
brief_suit [] [] f = tt
brief_suit [] (d ∷ ds) f = absurd f
brief_suit (t ∷ ts) ds f = go (is_letter_of t) ds f (λ (ds : List Value). brief_suit ts ds)
  where
    go : (b : Bool) (ds : List Value) → cond b (FirstBrief t (AllBrief ts) ds) (AllBrief ts ds) → ((ds : List Value) → AllBrief ts ds → AllSuit ts ds)
        → cond b (FirstSuits t (AllSuit ts) ds) (AllSuit ts ds)
    go true [] f ih = absurd f
    go true (d ∷ ds) f ih = (f.0.suits, ih ds f.1)
    go false ds f ih = ih ds f

pub brief_length : (ts : List ℕ) (ds : List Value) → AllBrief ts ds → length (line_text ts ds) ≤ length ts + 41 * length ds
unfolding line_text first_text
brief_length [] ds f = omega arith
brief_length (t ∷ ts) ds f = go (is_letter_of t) ds f (λ (ds : List Value). brief_length ts ds)
  where
    go : (b : Bool) (ds : List Value) → cond b (FirstBrief t (AllBrief ts) ds) (AllBrief ts ds)
        → ((ds : List Value) → AllBrief ts ds → length (line_text ts ds) ≤ length ts + 41 * length ds)
        → length (cond b (first_text t ds (line_text ts)) (t ∷ line_text ts ds)) ≤ suc (length ts) + 41 * length ds
    go true [] f ih = absurd f
    go true (d ∷ ds) f ih = omega (arith, f.0.short, ih ds f.1, length-append (value_text t d) (line_text ts ds))
    go false ds f ih = omega (arith, ih ds f)
