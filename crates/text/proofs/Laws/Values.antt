-- What the values of a line are known for, by the letters of its template: laws. Assumes nothing.
use Prim.Native.Nat.{ℕ, zero, suc, ◌+◌, ◌-◌, ◌*◌, ◌^◌, ◌≤◌, ◌<◌}
use Rattle.std.proofs.Common.{add-zero, sym, true≢false, ltb-true, eqb-true}
use native.Mathlib.Omega.{arith}
use Rattle.std.proofs.Math.Path.{◌≡◌, refl, subst}
use Rattle.std.specs.Prelude.{Bool, not, ◌&&◌, ◌||◌, eqb, ltb, get_or, take, drop}
use Rattle.std.proofs.Math.Bool.{true, false, cond}
use mathlib.Core.List.{List, [], ◌∷◌}
use Rattle.std.proofs.Math.Option.{Option, none, some}
use Rattle.std.proofs.Math.ListN.{length}
use Rattle.text.specs.Bytes.{comma, space, until, extend, pieces, split}
use Rattle.text.specs.Number.{whenever, proper, all_decimal, decimal_from, number_of, hex_digit, all_hex_of, hex_from, hex_of, bit_of}
use Rattle.text.specs.List.{with_first, pieces_of, list_Q, list_T, is_rising_of, only_rising, is_dash_of, list_L, one_member, list_C}
use Rattle.text.specs.Template.{Value, number, list, a_number, a_list, is_letter_of, value_of, and_then, same_byte, at_end, values_of, numbers_in, lists_in, number_at, list_at_of}
use Rattle.text.specs.Written.{AllSmall, FitL, FitQ, FitC}

-- ---- Booleans and options

pub both : (a b : Bool) → (a && b) ≡ true → (a ≡ true) × (b ≡ true)
both true b e = (refl, e)
both false b e = absurd (true≢false (sym e))

pub none_some : {A : Type 0} {a : A} → none ≡ some a → ⊥
none_some e = let z : ◌≡◌ {A = ℕ} 0 1 = cc in omega arith

whenever_some : (b : Bool) (n m : ℕ) → whenever b n ≡ some m → (b ≡ true) × (n ≡ m)
whenever_some true n m e = (refl, cc)
whenever_some false n m e = absurd (none_some e)

-- ---- numbers

-- a number is below 2^64
pub number_small : (v : List ℕ) (n : ℕ) → number_of v ≡ some n → n < 2 ^ 64
unfolding number_of
number_small v n e =
    let good = whenever_some _ (decimal_from 0 v) n e in
    let tests = both (proper v && all_decimal v) _ good.0 in
    omega (arith, good.1, ltb-true (decimal_from 0 v) (2 ^ 64) tests.1)

-- so many hexadecimal digits more, so many times the bound
hex_bound : (k v : ℕ) (l : List ℕ) → all_hex_of l ≡ true → v < 16 ^ k → hex_from v l < 16 ^ (k + length l)
unfolding hex_from all_hex_of
hex_bound k v [] h small = rw add-zero small
hex_bound k v (b ∷ l) h small =
    let tests = both (ltb (hex_digit b) 16) (all_hex_of l) h in
    let d : hex_digit b < 16 = ltb-true _ _ tests.0 in
    let n : k + suc (length l) ≡ suc k + length l = omega arith in
    let more : v * 16 + hex_digit b < 16 ^ suc k = omega arith in
    rw n (hex_bound (suc k) (v * 16 + hex_digit b) l tests.1 more)

-- so is an H
pub hex_small : (v : List ℕ) (n : ℕ) → hex_of v ≡ some n → n < 2 ^ 64
unfolding hex_of
hex_small v n e =
    let good = whenever_some _ (hex_from 0 v) n e in
    let tests = both (eqb (length v) 16) (all_hex_of v) good.0 in
    let long : length v ≡ 16 = eqb-true _ _ tests.0 in
    let bound : hex_from 0 v < 16 ^ (0 + 16) = rw long at (hex_bound 0 0 v tests.1 (omega arith)) in
    omega (arith, good.1)

-- a B is 0 or 1
pub bit_small : (v : List ℕ) (n : ℕ) → bit_of v ≡ some n → n < 2
unfolding bit_of
bit_small v n e =
    let good = whenever_some _ (get_or v 0 0 - 48) n e in
    let tests = both (eqb (length v) 1) _ good.0 in
    let low : get_or v 0 0 ≤ 49 = either (eqb (get_or v 0 0) 48) (eqb (get_or v 0 0) 49) refl refl tests.1 in
    omega (arith, good.1)
  where
    either : (a b : Bool) → eqb (get_or v 0 0) 48 ≡ a → eqb (get_or v 0 0) 49 ≡ b → (a || b) ≡ true → get_or v 0 0 ≤ 49
    either true b p q t = omega (arith, eqb-true (get_or v 0 0) 48 p)
    either false true p q t = omega (arith, eqb-true (get_or v 0 0) 49 q)
    either false false p q t = absurd (true≢false (sym t))

-- ---- lists

small_more : (n : ℕ) (l : List ℕ) → n < 2 ^ 64 → AllSmall l → AllSmall (n ∷ l)
small_more n l h s zero = h
small_more n l h s (suc i) = s i

-- the pieces of a list, by a reader of one
module _ (one : List ℕ → Option ℕ) where
  pieces_small : ((p : List ℕ) (n : ℕ) → one p ≡ some n → n < 2 ^ 64) → (ps : List (List ℕ)) (l : List ℕ) → pieces_of one ps ≡ some l → AllSmall l
  unfolding pieces_of with_first
  pieces_small small [] [] e = λ i. omega arith
  pieces_small small [] (n ∷ l) e = let z : ◌≡◌ {A = ℕ} 0 1 = cc in absurd (omega arith)
  pieces_small small (p ∷ ps) l e = go (one p) (pieces_of one ps) refl (pieces_small small ps) e
    where
      go : (a : Option ℕ) (b : Option (List ℕ)) → one p ≡ a → ((k : List ℕ) → b ≡ some k → AllSmall k) → with_first a b ≡ some l → AllSmall l
      go none b h ih e = absurd (none_some e)
      go (some n) none h ih e = absurd (none_some e)
      go (some n) (some k) h ih e = let same : n ∷ k ≡ l = cc in subst AllSmall same (small_more n k (small p n h) (ih k refl))

  -- as many members as pieces
  pieces_length : (ps : List (List ℕ)) (l : List ℕ) → pieces_of one ps ≡ some l → length l ≡ length ps
  unfolding pieces_of with_first
  pieces_length [] [] e = refl
  pieces_length [] (n ∷ l) e = let z : ◌≡◌ {A = ℕ} 0 1 = cc in absurd (omega arith)
  pieces_length (p ∷ ps) l e = go (one p) (pieces_of one ps) (pieces_length ps) e
    where
      go : (a : Option ℕ) (b : Option (List ℕ)) → ((k : List ℕ) → b ≡ some k → length k ≡ length ps) → with_first a b ≡ some l → length l ≡ suc (length ps)
      go none b ih e = absurd (none_some e)
      go (some n) none ih e = absurd (none_some e)
      go (some n) (some k) ih e = let same : n ∷ k ≡ l = cc in subst (λ (m : List ℕ). length m ≡ suc (length ps)) same (omega (arith, ih k refl))

split_some : (sep : ℕ) (v : List ℕ) → 0 < length (split sep v)
unfolding pieces extend
split_some sep [] = omega arith
split_some sep (b ∷ v) = go (eqb b sep) (split sep v) (split_some sep v)
  where
    go : (t : Bool) (ps : List (List ℕ)) → 0 < length ps → 0 < length (cond t ([] ∷ ps) (extend b ps))
    go true ps h = omega arith
    go false [] h = omega arith
    go false (p ∷ ps) h = omega arith

-- a list of pieces is never empty
pieces_fit : (one : List ℕ → Option ℕ) → ((p : List ℕ) (n : ℕ) → one p ≡ some n → n < 2 ^ 64) → (v l : List ℕ) → pieces_of one (split comma v) ≡ some l → FitQ l
pieces_fit one small v l e =
    record { filled = omega (arith, pieces_length one (split comma v) l e, split_some comma v); small = pieces_small one small (split comma v) l e }

pub list_Q_fits : (v l : List ℕ) → list_Q v ≡ some l → FitQ l
unfolding list_Q
list_Q_fits = pieces_fit number_of number_small

pub list_T_fits : (v l : List ℕ) → list_T v ≡ some l → FitQ l
unfolding list_T
list_T_fits = pieces_fit hex_of hex_small

rising_fits : (o : Option (List ℕ)) (l : List ℕ) → ((k : List ℕ) → o ≡ some k → AllSmall k) → only_rising o ≡ some l → FitL l
unfolding only_rising
rising_fits none l s e = absurd (none_some e)
rising_fits (some k) l s e = go (is_rising_of k) refl e
  where
    go : (b : Bool) → is_rising_of k ≡ b → cond b (some k) none ≡ some l → FitL l
    go true r e = let same : k ≡ l = cc in subst FitL same (record { rising = r; small = s k refl })
    go false r e = absurd (none_some e)

pub list_L_fits : (v l : List ℕ) → list_L v ≡ some l → FitL l
unfolding list_L is_rising_of
list_L_fits v l e = go (is_dash_of v) e
  where
    go : (b : Bool) → cond b (some []) (only_rising (list_Q v)) ≡ some l → FitL l
    go true e = let same : [] ≡ l = cc in subst FitL same (record { rising = refl; small = λ i. omega arith })
    go false e = rising_fits (list_Q v) l (λ k q. (list_Q_fits v k q).small) e

pub list_C_fits : (v l : List ℕ) → list_C v ≡ some l → FitC l
unfolding list_C one_member
list_C_fits v l e = go (is_dash_of v) (number_of v) refl e
  where
    go : (b : Bool) (o : Option ℕ) → number_of v ≡ o → cond b (some []) (one_member o) ≡ some l → FitC l
    go true o h e = let same : [] ≡ l = cc in subst FitC same (record { single = omega arith; small = λ i. omega arith })
    go false none h e = absurd (none_some e)
    go false (some n) h e =
        let same : n ∷ [] ≡ l = cc in
        subst FitC same (record { single = omega arith; small = small_more n [] (number_small v n h) (λ i. omega arith) })

-- ---- by the letter

-- what a number is known for by its letter: a B is 0 or 1, and an N and an H are below 2^64
unfoldable pub NumberFits : ℕ → ℕ → Type 0
NumberFits t n = cond (eqb t 66) (n < 2) (n < 2 ^ 64)

-- what a list is known for by its letter: L, Q, T, C; nothing by any other
unfoldable pub ListFits : ℕ → List ℕ → Type 0
ListFits t l = cond (eqb t 76) (FitL l) (cond (eqb t 81) (FitQ l) (cond (eqb t 84) (FitQ l) (cond (eqb t 67) (FitC l) (Unit {0}))))

-- the letters for numbers, and the letters for lists
abbrev pub is_number_letter : ℕ → Bool
is_number_letter t = eqb t 78 || eqb t 72 || eqb t 66

unfoldable pub number_letters_in : List ℕ → List ℕ
number_letters_in [] = []
number_letters_in (t ∷ ts) = cond (is_letter_of t && is_number_letter t) (t ∷ number_letters_in ts) (number_letters_in ts)

unfoldable pub list_letters_in : List ℕ → List ℕ
list_letters_in [] = []
list_letters_in (t ∷ ts) = cond (is_letter_of t && not (is_number_letter t)) (t ∷ list_letters_in ts) (list_letters_in ts)

-- a value of a letter
ValueFits : ℕ → Value → Type 0
ValueFits t (number n) = (is_number_letter t ≡ true) × NumberFits t n
ValueFits t (list l) = (is_number_letter t ≡ false) × ListFits t l

number_fits : (t : ℕ) (o : Option ℕ) (d : Value) → is_number_letter t ≡ true → ((n : ℕ) → o ≡ some n → NumberFits t n) → a_number o ≡ some d → ValueFits t d
unfolding a_number ValueFits
number_fits t none d k h e = absurd (none_some e)
number_fits t (some n) d k h e = let same : number n ≡ d = cc in subst (ValueFits t) same (k, h n refl)

list_fits : (t : ℕ) (o : Option (List ℕ)) (d : Value) → is_number_letter t ≡ false → ((l : List ℕ) → o ≡ some l → ListFits t l) → a_list o ≡ some d → ValueFits t d
unfolding a_list ValueFits
list_fits t none d k h e = absurd (none_some e)
list_fits t (some l) d k h e = let same : list l ≡ d = cc in subst (ValueFits t) same (k, h l refl)

-- one letter, or one of those after it
or_fits : (t letter : ℕ) (now later : Option Value) (d : Value) → (now ≡ some d → ValueFits letter d) → (later ≡ some d → ValueFits t d)
    → cond (eqb t letter) now later ≡ some d → ValueFits t d
or_fits t letter now later d h k = go (eqb t letter) refl
  where
    go : (b : Bool) → eqb t letter ≡ b → cond b now later ≡ some d → ValueFits t d
    go true e v = rw (eqb-true t letter e) (h v)
    go false e v = k v

value_fits : (t : ℕ) (v : List ℕ) (d : Value) → value_of t v ≡ some d → ValueFits t d
unfolding value_of NumberFits ListFits
value_fits t v d =
    or_fits t 78 _ _ d (number_fits 78 (number_of v) d refl (number_small v))
    (or_fits t 72 _ _ d (number_fits 72 (hex_of v) d refl (hex_small v))
    (or_fits t 66 _ _ d (number_fits 66 (bit_of v) d refl (bit_small v))
    (or_fits t 76 _ _ d (list_fits 76 (list_L v) d refl (list_L_fits v))
    (or_fits t 81 _ _ d (list_fits 81 (list_Q v) d refl (list_Q_fits v))
    (or_fits t 84 _ _ d (list_fits 84 (list_T v) d refl (list_T_fits v))
    (or_fits t 67 _ _ d (list_fits 67 (list_C v) d refl (list_C_fits v)) (λ e. absurd (none_some e))))))))

-- ---- by the template

-- The values of a line, by the letters of its template. Past the last value of either kind there is 0 or the empty list, of which nothing is claimed.
pub record Fits (ts : List ℕ) (v : List Value) : Type 0 where
  pub number : (i : ℕ) → NumberFits (get_or (number_letters_in ts) i 0) (number_at i v)
  pub list : (i : ℕ) → ListFits (get_or (list_letters_in ts) i 0) (list_at_of i v)

fits_none : Fits [] []
unfolding number_letters_in list_letters_in numbers_in lists_in NumberFits ListFits
fits_none = record { number = λ i. omega arith; list = λ i. tt }

fits_literal : (t : ℕ) (ts : List ℕ) (v : List Value) → is_letter_of t ≡ false → Fits ts v → Fits (t ∷ ts) v
unfolding number_letters_in list_letters_in
fits_literal t ts v e f = record { number = rw e f.number; list = rw e f.list }

fits_letter : (t : ℕ) (ts : List ℕ) (d : Value) (v : List Value) → is_letter_of t ≡ true → ValueFits t d → Fits ts v → Fits (t ∷ ts) (d ∷ v)
unfolding number_letters_in list_letters_in numbers_in lists_in ValueFits
fits_letter t ts (number n) v e g f =
    record { number = rw (e, g.0) (elim [ zero ↦ g.1 | suc i ↦ f.number i ]); list = rw (e, g.0) f.list }
fits_letter t ts (list l) v e g f =
    record { number = rw (e, g.0) f.number; list = rw (e, g.0) (elim [ zero ↦ g.1 | suc i ↦ f.list i ]) }

then_fits : (t : ℕ) (ts : List ℕ) (o : Option Value) (p : Option (List Value)) (v : List Value) → is_letter_of t ≡ true
    → ((d : Value) → o ≡ some d → ValueFits t d) → ((w : List Value) → p ≡ some w → Fits ts w) → and_then o p ≡ some v → Fits (t ∷ ts) v
unfolding and_then
then_fits t ts none p v e g f h = absurd (none_some h)
then_fits t ts (some d) none v e g f h = absurd (none_some h)
then_fits t ts (some d) (some w) v e g f h = let same : d ∷ w ≡ v = cc in subst (Fits (t ∷ ts)) same (fits_letter t ts d w e (g d refl) (f w refl))

-- each value is good for its letter
pub values_fit : (ts l : List ℕ) (v : List Value) → values_of ts l ≡ some v → Fits ts v
unfolding values_of
values_fit [] [] v h = unfold at_end in let same : [] ≡ v = cc in subst (Fits []) same fits_none
values_fit [] (b ∷ l) v h = unfold at_end in absurd (none_some h)
values_fit (t ∷ ts) l v h = go (is_letter_of t) refl (values_fit ts) h
  where
    literal : (l : List ℕ) → is_letter_of t ≡ false → ((k : List ℕ) (w : List Value) → values_of ts k ≡ some w → Fits ts w) → same_byte t l (values_of ts) ≡ some v
        → Fits (t ∷ ts) v
    literal [] e ih h = unfold same_byte in absurd (none_some h)
    literal (b ∷ l) e ih h = unfold same_byte in pick (eqb b t) h
      where
        pick : (x : Bool) → cond x (values_of ts l) none ≡ some v → Fits (t ∷ ts) v
        pick true h = fits_literal t ts v e (ih l v h)
        pick false h = absurd (none_some h)

    go : (x : Bool) → is_letter_of t ≡ x → ((k : List ℕ) (w : List Value) → values_of ts k ≡ some w → Fits ts w)
        → cond x (and_then (value_of t (take (until space l) l)) (values_of ts (drop (until space l) l))) (same_byte t l (values_of ts)) ≡ some v → Fits (t ∷ ts) v
    go true e ih h = then_fits t ts _ _ v e (value_fits t (take (until space l) l)) (ih (drop (until space l) l)) h
    go false e ih h = literal l e ih h
