-- What is written reads back: digits, lists, lines by a template, and texts of lines. Laws. Assumes nothing.
use Prim.Native.Nat.{ℕ, zero, suc, ◌+◌, ◌-◌, ◌*◌, ◌/◌, ◌%◌, ◌^◌, ◌≤◌, ◌<◌}
use Rattle.std.proofs.Common.{add-one, sym, ap, ◌∙◌, ltb-true, ltb-false, lt-ltb, le-ltb, le-leb, eqb-true, eq-eqb, ne_eqb, length-append}
use native.Mathlib.Omega.{arith}
use Rattle.std.specs.Prelude.{◌≡◌, Bool, cond, not, ◌&&◌, ◌||◌, eqb, ltb, length, get_or, take, drop}
use Rattle.std.proofs.Math.Path.{refl}
use Rattle.std.proofs.Math.Bool.{true, false, and-true, and-false, and_assoc, or-true}
use mathlib.Core.List.{List, [], ◌∷◌, ◌++◌, append_assoc, append-nil}
use Rattle.std.proofs.Math.Option.{Option, some}
use Rattle.std.proofs.lemmas.Bool.{eqb-false, not-true}
use Rattle.std.proofs.Math.ListN.{get_or-append}
use Rattle.std.proofs.Math.Seq.{take-append_seam, drop-append_seam, drop-append-add}
use Rattle.text.specs.Bytes.{LF, space, comma, until, extend, pieces, split, lines, unlines}
use Rattle.text.specs.Number.{is_decimal, all_decimal, decimal_from, proper, number_of, hex_digit, all_hex_of, hex_from, hex_of, bit_of, decimal_digits, decimal, hex_byte_of, hex_digits, hexadecimal}
use Rattle.text.specs.List.{with_first, pieces_of, list_Q, list_T, only_rising, is_dash_of, list_L, one_member, list_C, commas_by, list_text_by, commas}
use Rattle.text.specs.Template.{Value, a_number, a_list, is_letter_of, value_of, and_then, same_byte, at_end, values_of, value_text, first_text, line_text}
use Rattle.text.specs.Written.{AllSmall, Suits, FirstSuits, AllSuit, at_space, of_one_line, Free, AllFree}
use Rattle.text.proofs.Laws.Values.{both}
use Rattle.text.proofs.Laws.Pieces.{first_piece, only_piece}
use Rattle.text.proofs.Laws.Numbers.{number_good, hex_good}

-- ---- bytes from one on are no separator below it

abbrev AtLeast : ℕ → List ℕ → Type 0
AtLeast a [] = Unit {0}
AtLeast a (b ∷ l) = (a ≤ b) × AtLeast a l

least_append : (a : ℕ) (k l : List ℕ) → AtLeast a k → AtLeast a l → AtLeast a (k ++ l)
least_append a [] l p q = q
least_append a (b ∷ k) l p q = (p.0, least_append a k l p.1 q)

least_free : (a sep : ℕ) (l : List ℕ) → sep < a → AtLeast a l → Free sep l
unfolding until
least_free a sep [] h p = refl
least_free a sep (b ∷ l) h p = rw (ne_eqb b sep (λ e. omega (arith, p.0)), least_free a sep l h p.1)

-- the digits of a number, and so of a list
decimal_least : (a : ℕ) → a ≤ 48 → (f n : ℕ) → AtLeast a (decimal_digits f n)
unfolding decimal_digits
decimal_least a h zero n = tt
decimal_least a h (suc f) n = go (ltb n 10) (decimal_least a h f (n / 10))
  where
    go : (t : Bool) → AtLeast a (decimal_digits f (n / 10)) → AtLeast a (cond t ((48 + n) ∷ []) (decimal_digits f (n / 10) ++ (48 + n % 10) ∷ []))
    go true ih = (omega arith, tt)
    go false ih = least_append a (decimal_digits f (n / 10)) ((48 + n % 10) ∷ []) ih (omega arith, tt)

hex_least : (a : ℕ) → a ≤ 48 → (f n : ℕ) → AtLeast a (hex_digits f n)
unfolding hex_digits
hex_least a h zero n = tt
hex_least a h (suc f) n = least_append a (hex_digits f (n / 16)) (hex_byte_of (n % 16) ∷ []) (hex_least a h f (n / 16)) (go (ltb (n % 16) 10), tt)
  where
    go : (t : Bool) → a ≤ cond t (48 + n % 16) (87 + n % 16)
    go true = omega arith
    go false = omega arith

-- the text of a number, by either digits
module _ (b : Bool) where
  one_least : (a : ℕ) → a ≤ 48 → (n : ℕ) → AtLeast a (cond b hexadecimal decimal n)
  one_least a h n = go b
    where
      go : (c : Bool) → AtLeast a (cond c hexadecimal decimal n)
      go true = hex_least a h 16 n
      go false = decimal_least a h 20 n

  commas_least : (l : List ℕ) → AtLeast 44 (commas_by (cond b hexadecimal decimal) l)
  unfolding commas_by
  commas_least [] = tt
  commas_least (n ∷ l) = (omega arith, least_append 44 (cond b hexadecimal decimal n) (commas_by (cond b hexadecimal decimal) l) (one_least 44 (omega arith) n) (commas_least l))

  list_least : (l : List ℕ) → AtLeast 44 (list_text_by (cond b hexadecimal decimal) l)
  unfolding list_text_by
  list_least [] = (omega arith, tt)
  list_least (n ∷ l) = least_append 44 (cond b hexadecimal decimal n) (commas_by (cond b hexadecimal decimal) l) (one_least 44 (omega arith) n) (commas_least l)

value_least : (t : ℕ) (d : Value) → AtLeast 44 (value_text t d)
unfolding value_text
value_least t (Value.number n) = go (eqb t 72)
  where
    go : (b : Bool) → AtLeast 44 (cond b (hexadecimal n) (decimal n))
    go true = hex_least 44 (omega arith) 16 n
    go false = decimal_least 44 (omega arith) 20 n
value_least t (Value.list l) = list_least (eqb t 84) l

-- ---- numbers

all_snoc : (l : List ℕ) (b : ℕ) → all_decimal (l ++ b ∷ []) ≡ (all_decimal l && is_decimal b)
unfolding all_decimal
all_snoc [] b = and-true (is_decimal b)
all_snoc (a ∷ l) b = rw (all_snoc l b) (sym (and_assoc (is_decimal a) (all_decimal l) (is_decimal b)))

from_snoc : (v : ℕ) (l : List ℕ) (b : ℕ) → decimal_from v (l ++ b ∷ []) ≡ decimal_from v l * 10 + (b - 48)
unfolding decimal_from
from_snoc v [] b = refl
from_snoc v (a ∷ l) b = from_snoc (v * 10 + (a - 48)) l b

digit : (n : ℕ) → n < 10 → is_decimal (48 + n) ≡ true
digit n h = simp (le-leb 48 (48 + n) (omega arith), le-leb (48 + n) 57 (omega arith))

-- what the digits of n are like: a digit at least, no other byte, no 0 in front of others, and the value n
record Digits (n : ℕ) (l : List ℕ) : Type 0 where
  filled : 0 < length l
  all : all_decimal l ≡ true
  value : decimal_from 0 l ≡ n
  first : 0 < n → 48 < get_or l 0 0
  alone : n < 10 → length l ≡ 1

one_digit : (n : ℕ) → n < 10 → Digits n ((48 + n) ∷ [])
unfolding all_decimal decimal_from
one_digit n h =
    record {
      filled = omega arith;
      all = rw (digit n h);
      value = omega arith;
      first = λ p. omega arith;
      alone = λ _. refl;
    }

more_digits : (n : ℕ) (l : List ℕ) → 9 < n → Digits (n / 10) l → Digits n (l ++ (48 + n % 10) ∷ [])
more_digits n l h d =
    record {
      filled = omega (arith, length-append l ((48 + n % 10) ∷ []));
      all = rw (all_snoc, d.all) (digit (n % 10) (omega arith));
      value = rw (from_snoc, d.value) (omega arith);
      first = λ p. rw (get_or-append l ((48 + n % 10) ∷ []) 0 0 d.filled) (d.first (omega arith));
      alone = λ k. absurd (omega arith);
    }

digits_of : (f n : ℕ) → n < 10 ^ suc f → Digits n (decimal_digits (suc f) n)
unfolding decimal_digits
digits_of zero n h = rw (lt-ltb n 10 (omega arith)) (one_digit n (omega arith))
digits_of (suc f) n h = go (ltb n 10) refl (digits_of f (n / 10))
  where
    go : (t : Bool) → ltb n 10 ≡ t → (n / 10 < 10 ^ suc f → Digits (n / 10) (decimal_digits (suc f) (n / 10)))
        → Digits n (cond t ((48 + n) ∷ []) (decimal_digits (suc f) (n / 10) ++ (48 + n % 10) ∷ []))
    go true e ih = one_digit n (ltb-true n 10 e)
    go false e ih = more_digits n _ (omega (arith, ltb-false n 10 e)) (ih (omega arith))

decimal_digits_lem : (n : ℕ) → n < 2 ^ 64 → Digits n (decimal n)
decimal_digits_lem n h = digits_of 19 n (omega arith)

pub number_read : (n : ℕ) → n < 2 ^ 64 → number_of (decimal n) ≡ some n
number_read n h =
    let d = decimal_digits_lem n h in
    number_good (decimal n) (go (ltb n 10) refl d) d.all (omega (arith, d.value)) ∙ ap some d.value
  where
    go : (t : Bool) → ltb n 10 ≡ t → Digits n (decimal n) → proper (decimal n) ≡ true
    go true e d = simp (d.alone (ltb-true n 10 e))
    go false e d =
        let other : (get_or (decimal n) 0 0 ≡ 48 → ⊥) = λ q. omega (arith, d.first (omega (arith, ltb-false n 10 e))) in
        simp (lt-ltb 0 (length (decimal n)) d.filled, ne_eqb _ _ other, or-true)

pub bit_read : (n : ℕ) → n < 2 → bit_of (decimal n) ≡ some n
unfolding bit_of decimal_digits
bit_read zero h = refl
bit_read (suc zero) h = refl
bit_read (suc (suc n)) h = absurd (omega arith)

-- ---- H

hex_byte : (d : ℕ) → d < 16 → hex_digit (hex_byte_of d) ≡ d
hex_byte d h = go (ltb d 10) refl
  where
    go : (t : Bool) → ltb d 10 ≡ t → hex_digit (cond t (48 + d) (87 + d)) ≡ d
    go true e =
        let low = ltb-true d 10 e in
        simp (le-ltb (48 + d) 48 (omega arith), lt-ltb (48 + d) 58 (omega arith)) (omega arith)
    go false e =
        let high = ltb-false d 10 e in
        simp (le-ltb (87 + d) 48 (omega arith), le-ltb (87 + d) 58 (omega arith), le-ltb (87 + d) 97 (omega arith), lt-ltb (87 + d) 103 (omega arith)) (omega arith)

hex_all_snoc : (l : List ℕ) (b : ℕ) → all_hex_of (l ++ b ∷ []) ≡ (all_hex_of l && ltb (hex_digit b) 16)
unfolding all_hex_of
hex_all_snoc [] b = and-true (ltb (hex_digit b) 16)
hex_all_snoc (a ∷ l) b = rw (hex_all_snoc l b) (sym (and_assoc (ltb (hex_digit a) 16) (all_hex_of l) (ltb (hex_digit b) 16)))

hex_from_snoc : (v : ℕ) (l : List ℕ) (b : ℕ) → hex_from v (l ++ b ∷ []) ≡ hex_from v l * 16 + hex_digit b
unfolding hex_from
hex_from_snoc v [] b = refl
hex_from_snoc v (a ∷ l) b = hex_from_snoc (v * 16 + hex_digit a) l b

record HexDigits (f n : ℕ) (l : List ℕ) : Type 0 where
  long : length l ≡ f
  all : all_hex_of l ≡ true
  value : hex_from 0 l ≡ n

hex_digits_lem : (f n : ℕ) → n < 16 ^ f → HexDigits f n (hex_digits f n)
unfolding hex_digits
hex_digits_lem zero n h = unfold all_hex_of hex_from in record { long = refl; all = refl; value = omega arith }
hex_digits_lem (suc f) n h =
    let d = hex_digits_lem f (n / 16) (omega arith) in
    let byte = hex_byte (n % 16) (omega arith) in
    record {
      long = omega (arith, length-append (hex_digits f (n / 16)) (hex_byte_of (n % 16) ∷ []), d.long);
      all = rw (hex_all_snoc, d.all, byte) (lt-ltb (n % 16) 16 (omega arith));
      value = rw (hex_from_snoc, d.value, byte) (omega arith);
    }

pub hex_read : (n : ℕ) → n < 2 ^ 64 → hex_of (hexadecimal n) ≡ some n
hex_read n h = let d = hex_digits_lem 16 n (omega arith) in hex_good (hexadecimal n) d.long d.all ∙ ap some d.value

-- ---- lists

until_append : (sep : ℕ) (p l : List ℕ) → Free sep p → until sep (p ++ l) ≡ length p + until sep l
unfolding until
until_append sep [] l e = omega arith
until_append sep (b ∷ p) l e = go (eqb b sep) e (until_append sep p l)
  where
    go : (t : Bool) → cond t 0 (suc (until sep p)) ≡ suc (length p) → (until sep p ≡ length p → until sep (p ++ l) ≡ length p + until sep l)
        → cond t 0 (suc (until sep (p ++ l))) ≡ suc (length p) + until sep l
    go true e ih = absurd (omega arith)
    go false e ih = omega (arith, ih (omega arith))

until_sep : (sep : ℕ) (l : List ℕ) → until sep (sep ∷ l) ≡ 0
unfolding until
until_sep sep l = simp (eq-eqb sep sep refl)

-- the piece before a separator
piece_append : (last : List (List ℕ)) (sep : ℕ) (p l : List ℕ) → Free sep p → pieces last sep (p ++ sep ∷ l) ≡ p ∷ pieces last sep l
piece_append last sep p l e =
    let u : until sep (p ++ sep ∷ l) ≡ length p = omega (arith, until_append sep p (sep ∷ l) e, until_sep sep l) in
    let f = first_piece last sep (p ++ sep ∷ l) (omega (arith, length-append p (sep ∷ l))) in
    let d : drop (suc (length p)) (p ++ sep ∷ l) ≡ l = rw (← add-one) (drop-append-add p (sep ∷ l) 1) in
    f ∙ rw (u, take-append_seam, d)

decimal_free : (n : ℕ) → Free comma (decimal n)
decimal_free n = least_free 48 44 (decimal n) (omega arith) (decimal_least 48 (omega arith) 20 n)

hex_free : (n : ℕ) → Free comma (hexadecimal n)
hex_free n = least_free 48 44 (hexadecimal n) (omega arith) (hex_least 48 (omega arith) 16 n)

-- a list, by the text and the reader of one member
module _ (text : ℕ → List ℕ) (one : List ℕ → Option ℕ) (free : (n : ℕ) → Free comma (text n)) (read : (n : ℕ) → n < 2 ^ 64 → one (text n) ≡ some n) where
  pieces_read : (n : ℕ) (l : List ℕ) → AllSmall (n ∷ l) → pieces_of one (split comma (text n ++ commas_by text l)) ≡ some (n ∷ l)
  unfolding commas_by pieces_of with_first
  pieces_read n [] s = rw (append-nil (text n), only_piece 44 (text n) (free n), read n (s 0))
  pieces_read n (m ∷ l) s =
      rw (piece_append ([] ∷ []) 44 (text n) (text m ++ commas_by text l) (free n), read n (s 0), pieces_read m l (λ i. s (suc i)))

list_read : (n : ℕ) (l : List ℕ) → AllSmall (n ∷ l) → pieces_of number_of (split comma (decimal n ++ commas l)) ≡ some (n ∷ l)
list_read = pieces_read decimal number_of decimal_free number_read

words_read : (n : ℕ) (l : List ℕ) → AllSmall (n ∷ l) → pieces_of hex_of (split comma (hexadecimal n ++ commas_by hexadecimal l)) ≡ some (n ∷ l)
words_read = pieces_read hexadecimal hex_of hex_free hex_read

-- a list that is not empty begins with a digit
not_dash : (n : ℕ) (l : List ℕ) → n < 2 ^ 64 → is_dash_of (decimal n ++ l) ≡ false
not_dash n l h =
    let d = decimal_digits_lem n h in
    let first : get_or (decimal n ++ l) 0 0 ≡ get_or (decimal n) 0 0 = get_or-append (decimal n) l 0 0 d.filled in
    let other : (get_or (decimal n ++ l) 0 0 ≡ 45 → ⊥) = λ q. omega (arith, least_first (decimal n) d.filled (decimal_least 48 (omega arith) 20 n)) in
    simp (ne_eqb _ _ other, and-false)
  where
    least_first : (k : List ℕ) → 0 < length k → AtLeast 48 k → 48 ≤ get_or k 0 0
    least_first [] h p = absurd (omega arith)
    least_first (b ∷ k) h p = p.0

-- ---- values

value_read : (t : ℕ) (d : Value) → Suits t d → value_of t (value_text t d) ≡ some d
unfolding value_of value_text a_number a_list list_text_by list_L list_Q list_T list_C only_rising one_member
value_read t d (Suits.N h) = rw (number_read _ h)
value_read t d (Suits.H h) = rw (hex_read _ h)
value_read t d (Suits.B h) = rw (bit_read _ h)
value_read t d (Suits.L {l = []} f) = refl
value_read t d (Suits.L {l = n ∷ l} f) = rw (not_dash n (commas l) (f.small 0), list_read n l f.small, f.rising)
value_read t d (Suits.Q {l = []} f) = absurd (omega (arith, f.filled))
value_read t d (Suits.Q {l = n ∷ l} f) = rw (list_read n l f.small)
value_read t d (Suits.T {l = []} f) = absurd (omega (arith, f.filled))
value_read t d (Suits.T {l = n ∷ l} f) = rw (words_read n l f.small)
value_read t d (Suits.C {l = []} f) = refl
value_read t d (Suits.C {l = n ∷ []} f) = unfold commas_by in rw (not_dash n [] (f.small 0), append-nil (decimal n), number_read n (f.small 0))
value_read t d (Suits.C {l = n ∷ m ∷ l} f) = absurd (omega (arith, f.single))

-- ---- lines by a template

until_space : (l : List ℕ) → at_space l ≡ true → until space l ≡ 0
unfolding until at_space
until_space [] e = refl
until_space (b ∷ l) e = rw e

-- a value's text, cut off at the space after it
module _ (v l : List ℕ) (free : Free space v) (spaced : at_space l ≡ true) where
  cut : until space (v ++ l) ≡ length v
  cut = omega (arith, until_append space v l free, until_space l spaced)

  value_text_lem : take (until space (v ++ l)) (v ++ l) ≡ v
  value_text_lem = rw (cut, take-append_seam)

  rest_text : drop (until space (v ++ l)) (v ++ l) ≡ l
  rest_text = rw (cut, drop-append_seam)

-- behind a letter the line goes on as the template does
spaced_line : (ts : List ℕ) (ds : List Value) → at_space ts ≡ true → at_space (line_text ts ds) ≡ true
unfolding at_space line_text
spaced_line [] ds e = refl
spaced_line (t ∷ ts) ds e = rw (eqb-true t space e)

-- a template in its parts
record Part (t : ℕ) (ts : List ℕ) : Type 0 where
  spaced : is_letter_of t ≡ true → at_space ts ≡ true
  other : eqb t LF ≡ false
  rest : of_one_line ts ≡ true

first_part : (t : ℕ) (ts : List ℕ) → of_one_line (t ∷ ts) ≡ true → Part t ts
unfolding of_one_line
first_part t ts e =
    let two = both ((not (is_letter_of t) || at_space ts) && not (eqb t LF)) (of_one_line ts) e in
    let one = both (not (is_letter_of t) || at_space ts) (not (eqb t LF)) two.0 in
    record { spaced = λ m. rw m at one.0; other = not-true (eqb t LF) one.1; rest = two.1 }

pub line_read : (ts : List ℕ) (ds : List Value) → of_one_line ts ≡ true → AllSuit ts ds → values_of ts (line_text ts ds) ≡ some ds
unfolding values_of line_text at_end first_text and_then same_byte
line_read [] [] o s = refl
line_read [] (d ∷ ds) o s = absurd s
line_read (t ∷ ts) ds o s = let p = first_part t ts o in go (is_letter_of t) refl ds s p.spaced (λ es. line_read ts es p.rest)
  where
    go : (m : Bool) → is_letter_of t ≡ m → (ds : List Value) → cond m (FirstSuits t (AllSuit ts) ds) (AllSuit ts ds) → (is_letter_of t ≡ true → at_space ts ≡ true)
        → ((es : List Value) → AllSuit ts es → values_of ts (line_text ts es) ≡ some es)
        → (let l : List ℕ = cond m (first_text t ds (line_text ts)) (t ∷ line_text ts ds) in
        cond m (and_then (value_of t (take (until space l) l)) (values_of ts (drop (until space l) l))) (same_byte t l (values_of ts)))
        ≡ some ds
    go true e [] s sp ih = absurd s
    go true e (d ∷ ds) s sp ih =
        let free : Free space (value_text t d) = least_free 44 space (value_text t d) (omega arith) (value_least t d) in
        let after : at_space (line_text ts ds) ≡ true = spaced_line ts ds (sp e) in
        rw (value_text_lem (value_text t d) (line_text ts ds) free after, rest_text (value_text t d) (line_text ts ds) free after, value_read t d s.0, ih ds s.1)
    go false e ds s sp ih = simp (eq-eqb t t refl) (ih ds s)

-- ---- no LF in a line that is written

pub free_append : (sep : ℕ) (p l : List ℕ) → Free sep p → Free sep l → Free sep (p ++ l)
free_append sep p l e f = until_append sep p l e ∙ omega (arith, length-append p l)

pub line_free : (ts : List ℕ) (ds : List Value) → of_one_line ts ≡ true → Free LF (line_text ts ds)
unfolding line_text
line_free [] ds o = unfold until in refl
line_free (t ∷ ts) ds o = let p = first_part t ts o in go (is_letter_of t) ds p.other (λ es. line_free ts es p.rest)
  where
    go : (m : Bool) (ds : List Value) → eqb t LF ≡ false → ((es : List Value) → Free LF (line_text ts es))
        → Free LF (cond m (first_text t ds (line_text ts)) (t ∷ line_text ts ds))
    go true [] n ih = unfold first_text until in refl
    go true (d ∷ ds) n ih = unfold first_text in free_append LF (value_text t d) (line_text ts ds) (least_free 44 LF (value_text t d) (omega arith) (value_least t d)) (ih ds)
    go false ds n ih = unfold until in rw n (ap suc (ih ds))

-- ---- texts of lines

pub unlines_append : (a b : List (List ℕ)) → unlines (a ++ b) ≡ unlines a ++ unlines b
unfolding unlines
unlines_append [] b = refl
unlines_append (l ∷ a) b = ap (λ (r : List ℕ). l ++ LF ∷ r) (unlines_append a b) ∙ sym (append_assoc l (LF ∷ unlines a) (unlines b))

pub lines_unlines : (ls : List (List ℕ)) → AllFree LF ls → lines (unlines ls) ≡ ls
unfolding unlines pieces
lines_unlines [] f = refl
lines_unlines (l ∷ ls) f = piece_append [] LF l (unlines ls) f.0 ∙ ap (λ (ks : List (List ℕ)). l ∷ ks) (lines_unlines ls f.1)

-- the lines of any bytes have no LF, so they may be copied into a text
extend_free : (sep b : ℕ) (ps : List (List ℕ)) → eqb b sep ≡ false → AllFree sep ps → AllFree sep (extend b ps)
unfolding extend until
extend_free sep b [] n f = (rw n, tt)
extend_free sep b (p ∷ ps) n f = (rw n (ap suc f.0), f.1)

pub lines_free : (l : List ℕ) → AllFree LF (lines l)
unfolding pieces
lines_free [] = tt
lines_free (b ∷ l) = go (eqb b LF) refl (lines_free l)
  where
    go : (t : Bool) → eqb b LF ≡ t → AllFree LF (lines l) → AllFree LF (cond t ([] ∷ lines l) (extend b (lines l)))
    go true e f = (unfold until in refl, f)
    go false e f = extend_free LF b (lines l) e f

-- bytes that end in LF are the text of their lines
last_of : (b : ℕ) (l : List ℕ) → get_or (b ∷ l) (length (b ∷ l) - 1) 0 ≡ LF → 0 < length l → get_or l (length l - 1) 0 ≡ LF
last_of b [] e h = absurd (omega arith)
last_of b (c ∷ l) e h = let n : suc (suc (length l)) - 1 ≡ suc (suc (length l) - 1) = omega arith in rw n at e

unlines_extend : (b : ℕ) (ps : List (List ℕ)) (l : List ℕ) → 0 < length l → unlines ps ≡ l → unlines (extend b ps) ≡ b ∷ l
unfolding unlines extend
unlines_extend b [] l h e = absurd (omega (arith, ap length e))
unlines_extend b (p ∷ ps) l h e = ap (b ∷◌) e

pub unlines_lines : (l : List ℕ) → (0 < length l → get_or l (length l - 1) 0 ≡ LF) → unlines (lines l) ≡ l
unfolding pieces unlines
unlines_lines [] e = refl
unlines_lines (b ∷ l) e = go (eqb b LF) refl (unlines_lines l (last_of b l (e (omega arith))))
  where
    go : (t : Bool) → eqb b LF ≡ t → unlines (lines l) ≡ l → unlines (cond t ([] ∷ lines l) (extend b (lines l))) ≡ b ∷ l
    go true n ih = rw (eqb-true b LF n) (ap (10 ∷◌) ih)
    go false n ih = unlines_extend b (lines l) l (filled l refl) ih
      where
        -- a byte that is alone is LF
        filled : (k : List ℕ) → l ≡ k → 0 < length k
        filled [] q = absurd (eqb-false b LF n (rw q at (e (omega arith))))
        filled (c ∷ k) q = omega arith
