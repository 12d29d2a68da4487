-- Numbers and lists that are known to stand at a place, byte by byte and member by member. Laws. Assumes nothing.
use Rattle.std.specs.Prelude.{ℕ, zero, suc, ◌+◌, ◌-◌, ◌*◌, ◌^◌, ◌≤◌, ◌<◌, ◌≡◌, Bool, true, false, cond, ◌&&◌, List, [], ◌∷◌, ◌++◌, eqb, ltb, leb, get_or, take, drop, set, Some}
use Rattle.std.proofs.Common.{arith, ◌∙◌, lt-ltb, le-ltb, ltb-true, ltb-false, eqb-true, leb-true, drop_of_length-le, length-take, length-drop, length-take-le, get_or-take, get_or-drop, ext_get_or}
use Rattle.std.proofs.Math.Path.{refl, sym, ap, subst}
use Rattle.std.proofs.Math.Option.{Option, none, some}
use Rattle.std.proofs.Math.ListN.{length, get_or-eq_default}
use Rattle.std.proofs.Math.Seq.{take-nil}
use Rattle.text.specs.Bytes.{comma, space, until, pieces}
use Rattle.text.specs.Number.{whenever, is_decimal, all_decimal, decimal_from, proper, number_of, all_hex_of, hex_from, hex_of}
use Rattle.text.specs.List.{with_first, pieces_of, list_Q, is_rising_of, only_rising, is_dash_of, list_L}
use Rattle.text.proofs.Laws.Values.{both, none_some, number_small}
use Rattle.text.proofs.Laws.Numbers.{decimal_grows}
use Rattle.text.proofs.Laws.Pieces.{step, until_le}
use Rattle.numbers.specs.declared.lists.Listed.{Listed}
use Rattle.numbers.specs.declared.known.Digits.{Digits}
use Rattle.numbers.specs.declared.known.KnownList.{KnownList}
use Rattle.numbers.specs.Read.{listed_of, ListRead}
use Rattle.numbers.specs.Known.{digits_of, digits_at, DigitsThere, DigitsRead, field, ListThere, KnownRead}
use Rattle.numbers.specs.Laws.Pieces.{until_at}
use Rattle.numbers.specs.Laws.Lists.{stored_length, SoFar, so_count, pieces_start, pieces_bad, pieces_more, pieces_last, empty_read, l_dash, l_list}

-- ---- digits

digits_low : (b : ℕ) (l : List ℕ) → b < 48 → digits_of (b ∷ l) ≡ []
unfolding digits_of
digits_low b l h = simp (lt-ltb b 48 h)

digits_more : (b : ℕ) (l : List ℕ) → 48 ≤ b → digits_of (b ∷ l) ≡ b ∷ digits_of l
unfolding digits_of
digits_more b l h = simp (le-ltb b 48 h)

module _ (s : List ℕ) (i : ℕ) where
  digits_here : i < length s → get_or s i 0 < 48 → digits_at s i ≡ []
  digits_here h low = ap digits_of (step s i h) ∙ digits_low _ _ low

  digits_on : i < length s → 48 ≤ get_or s i 0 → digits_at s i ≡ get_or s i 0 ∷ digits_at s (i + 1)
  digits_on h high = ap digits_of (step s i h) ∙ digits_more _ _ high

  digits_over : length s ≤ i → digits_at s i ≡ []
  unfolding digits_of
  digits_over h = ap digits_of (drop_of_length-le s h)

-- from `from` to i the digits of v were read
pub record Counted (s : List ℕ) (from v i : ℕ) : Type 0 where
  pub within : i ≤ length s
  pub small : decimal_from 0 (digits_at s from) < 2 ^ 64
  pub value : decimal_from 0 (digits_at s from) ≡ decimal_from v (digits_at s i)
  pub behind : from + length (digits_at s from) ≡ i + length (digits_at s i)

pub counted_start : {s : List ℕ} {from : ℕ} → DigitsThere s from → Counted s from 0 from
counted_start t = record { within = t.within; small = t.small; value = refl; behind = refl }

module _ {s : List ℕ} {from v i : ℕ} (c : Counted s from v i) where
  module _ (h : i < length s) (high : 48 ≤ get_or s i 0) where
    next_value : decimal_from 0 (digits_at s from) ≡ decimal_from (v * 10 + (get_or s i 0 - 48)) (digits_at s (i + 1))
    unfolding decimal_from
    next_value = c.value ∙ ap (decimal_from v) (digits_on s i h high)

    -- with the next digit the value stays below 2^64
    pub counted_fits : v * 10 + (get_or s i 0 - 48) < 2 ^ 64
    counted_fits = omega (arith, next_value, c.small, decimal_grows (v * 10 + (get_or s i 0 - 48)) (digits_at s (i + 1)))

    pub counted_next : Counted s from (v * 10 + (get_or s i 0 - 48)) (i + 1)
    counted_next =
        let more : length (digits_at s i) ≡ suc (length (digits_at s (i + 1))) = ap length (digits_on s i h high) in
        record { within = omega arith; small = c.small; value = next_value; behind = omega (arith, c.behind) }

  ended : digits_at s i ≡ [] → (r : Digits) → r.value ≡ v → r.behind ≡ i → DigitsRead s from r
  unfolding decimal_from
  ended none_left r e p =
      let here : length (digits_at s i) ≡ 0 = ap length none_left in
      record {
        value = e ∙ sym (c.value ∙ ap (decimal_from v) none_left);
        behind = omega (arith, c.behind);
        within = omega (arith, c.within);
      }

  pub counted_stop : i < length s → get_or s i 0 < 48 → (r : Digits) → r.value ≡ v → r.behind ≡ i → DigitsRead s from r
  counted_stop h low = ended (digits_here s i h low)

  pub counted_end : length s ≤ i → (r : Digits) → r.value ≡ v → r.behind ≡ i → DigitsRead s from r
  counted_end h = ended (digits_over s i h)

-- ---- a number up to a byte below `0`

decimal_high : (b : ℕ) → is_decimal b ≡ true → 48 ≤ b
decimal_high b e = leb-true 48 b (both (leb 48 b) (leb b 57) e).0

-- its bytes are its digits
pub digits_are : (l : List ℕ) (u : ℕ) → all_decimal (take u l) ≡ true → get_or l u 0 < 48 → digits_of l ≡ take u l
unfolding digits_of all_decimal
digits_are [] u e low = sym (take-nil u)
digits_are (b ∷ l) zero e low = digits_low b l low
digits_are (b ∷ l) (suc u) e low =
    let q = both (is_decimal b) (all_decimal (take u l)) e in
    digits_more b l (decimal_high b q.0) ∙ ap (b ∷◌) (digits_are l u q.1 low)

whenever_some : (b : Bool) (n m : ℕ) → whenever b n ≡ some m → (b ≡ true) × (n ≡ m)
whenever_some true n m e = (refl, cc)
whenever_some false n m e = absurd (none_some e)

-- a number has bytes, which are digits, and its value is theirs
pub number_bytes : (l : List ℕ) (n : ℕ) → number_of l ≡ some n → (0 < length l) × (all_decimal l ≡ true) × (decimal_from 0 l ≡ n)
unfolding number_of
number_bytes l n e =
    let (tests, value) = whenever_some _ (decimal_from 0 l) n e in
    let (good, decimal) = both (proper l) (all_decimal l) (both (proper l && all_decimal l) (ltb (decimal_from 0 l) (2 ^ 64)) tests).0 in
    (ltb-true 0 (length l) (both (ltb 0 (length l)) _ good).0, decimal, value)

-- the bytes of an H are 16 digits, and its value is theirs
pub hex_bytes : (l : List ℕ) (n : ℕ) → hex_of l ≡ some n → (length l ≡ 16) × (all_hex_of l ≡ true) × (hex_from 0 l ≡ n)
unfolding hex_of
hex_bytes l n e =
    let (tests, value) = whenever_some _ (hex_from 0 l) n e in
    let (long, digits) = both (eqb (length l) 16) (all_hex_of l) tests in
    (eqb-true _ _ long, digits, value)

-- ---- a list

module _ (s : List ℕ) (from : ℕ) (inside : from ≤ length s) where
  field_length : length (field s from) ≡ until space (drop from s)
  field_length = length-take-le (until space (drop from s)) (drop from s) (until_le space (drop from s))

  field_within : from + length (field s from) ≤ length s
  field_within = omega (arith, field_length, until_le space (drop from s), length-drop from s)

  field_byte : (i : ℕ) → i < length (field s from) → get_or (field s from) i 0 ≡ get_or s (from + i) 0
  field_byte i h = get_or-take (until space (drop from s)) (drop from s) i 0 (omega (arith, field_length)) ∙ get_or-drop from s i 0

  -- behind it there is a space, or nothing
  field_end : (get_or s (from + length (field s from)) 0 < 48) × (get_or s (from + length (field s from)) 0 ≡ comma → ⊥)
  field_end = go (ltb (until space (drop from s)) (length (drop from s))) refl
    where
      place : get_or s (from + length (field s from)) 0 ≡ get_or (drop from s) (until space (drop from s)) 0
      place = ap (λ (k : ℕ). get_or s (from + k) 0) field_length ∙ sym (get_or-drop from s (until space (drop from s)) 0)

      go : (b : Bool) → ltb (until space (drop from s)) (length (drop from s)) ≡ b
          → (get_or s (from + length (field s from)) 0 < 48) × (get_or s (from + length (field s from)) 0 ≡ comma → ⊥)
      go true e =
          let is : get_or s (from + length (field s from)) 0 ≡ space = place ∙ until_at space (drop from s) (ltb-true _ _ e) in
          (omega arith, λ k. omega arith)
      go false e =
          let is : get_or s (from + length (field s from)) 0 ≡ 0 = place ∙ get_or-eq_default (drop from s) 0 (ltb-false _ _ e) in
          (omega arith, λ k. omega arith)

  -- the piece of the list from j on, up to the next comma
  module _ (j : ℕ) (here : j ≤ length (field s from)) where
    abbrev behind : ℕ
    behind = j + until comma (drop j (field s from))

    behind_within : behind ≤ length (field s from)
    behind_within = omega (arith, until_le comma (drop j (field s from)), length-drop j (field s from))

    -- a comma ends it, or the list's end does
    comma_behind : behind < length (field s from) → get_or s (from + behind) 0 ≡ comma
    comma_behind h =
        sym (field_byte behind h)
        ∙ sym (get_or-drop j (field s from) (until comma (drop j (field s from))) 0)
        ∙ until_at comma (drop j (field s from)) (omega (arith, length-drop j (field s from)))

    none_behind : (get_or s (from + behind) 0 ≡ comma → ⊥) → behind ≡ length (field s from)
    none_behind other = go (ltb behind (length (field s from))) refl
      where
        go : (b : Bool) → ltb behind (length (field s from)) ≡ b → behind ≡ length (field s from)
        go true e = absurd (other (comma_behind (ltb-true _ _ e)))
        go false e = omega (arith, ltb-false behind (length (field s from)) e, behind_within)

    more_behind : get_or s (from + behind) 0 ≡ comma → behind < length (field s from)
    more_behind is = go (ltb behind (length (field s from))) refl
      where
        go : (b : Bool) → ltb behind (length (field s from)) ≡ b → behind < length (field s from)
        go true e = ltb-true _ _ e
        go false e =
            let last : behind ≡ length (field s from) = omega (arith, ltb-false behind (length (field s from)) e, behind_within) in
            absurd (field_end.1 (ap (λ (k : ℕ). get_or s (from + k) 0) (sym last) ∙ is))

    low_behind : get_or s (from + behind) 0 < 48
    low_behind = go (ltb behind (length (field s from))) refl
      where
        go : (b : Bool) → ltb behind (length (field s from)) ≡ b → get_or s (from + behind) 0 < 48
        go true e = let is = comma_behind (ltb-true _ _ e) in omega arith
        go false e =
            let last : behind ≡ length (field s from) = omega (arith, ltb-false behind (length (field s from)) e, behind_within) in
            subst (λ (k : ℕ). get_or s (from + k) 0 < 48) (sym last) field_end.0

    abbrev long : ℕ
    long = until comma (drop j (field s from))

    -- its bytes, by their place
    piece_bytes : take long (drop (from + j) s) ≡ take (behind - j) (drop j (field s from))
    piece_bytes = sym (ap (λ (k : ℕ). take k (drop j (field s from))) wide ∙ ext_get_or 0 _ _ (sizes.0 ∙ sym sizes.1) same)
      where
        wide : behind - j ≡ long
        wide = omega arith

        sizes : (length (take long (drop j (field s from))) ≡ long) × (length (take long (drop (from + j) s)) ≡ long)
        sizes = (
          length-take-le long _ (until_le comma (drop j (field s from))),
          length-take-le long _ (omega (arith, behind_within, field_within, length-drop (from + j) s)),
        )

        same : (i : ℕ) → i < length (take long (drop j (field s from)))
            → get_or (take long (drop j (field s from))) i 0 ≡ get_or (take long (drop (from + j) s)) i 0
        same i h =
            let less : i < long = omega (arith, sizes.0) in
            let order : from + (j + i) ≡ from + j + i = omega arith in
            get_or-take long (drop j (field s from)) i 0 less ∙ get_or-drop j (field s from) i 0 ∙ field_byte (j + i) (omega (arith, behind_within))
            ∙ ap (λ (k : ℕ). get_or s k 0) order
            ∙ sym (get_or-drop (from + j) s i 0)
            ∙ sym (get_or-take long (drop (from + j) s) i 0 less)

    -- a member's digits
    module _ (n : ℕ) (is : number_of (take (behind - j) (drop j (field s from))) ≡ some n) where
      member_digits : digits_at s (from + j) ≡ take long (drop (from + j) s)
      member_digits =
          let order : from + j + long ≡ from + behind = omega arith in
          digits_are (drop (from + j) s) long (ap all_decimal piece_bytes ∙ (number_bytes _ n is).1)
          (subst (λ (k : ℕ). k < 48) (ap (λ (k : ℕ). get_or s k 0) (sym order) ∙ sym (get_or-drop (from + j) s long 0)) low_behind)

      member_value : decimal_from 0 (digits_at s (from + j)) ≡ n
      member_value = ap (decimal_from 0) (member_digits ∙ piece_bytes) ∙ (number_bytes _ n is).2

      member_there : DigitsThere s (from + j)
      member_there = record { within = omega (arith, field_within); small = omega (arith, member_value, number_small _ n is) }

      member_long : from + j + length (digits_at s (from + j)) ≡ from + behind
      member_long =
          let size : length (digits_at s (from + j)) ≡ long =
          ap length member_digits ∙ length-take-le long _ (omega (arith, behind_within, field_within, length-drop (from + j) s)) in
          omega arith

-- ---- L, from Q

list_filled : (l ms : List ℕ) → list_L l ≡ some ms → 0 < length l
unfolding list_L list_Q pieces pieces_of number_of with_first only_rising
list_filled [] ms e = absurd (none_some e)
list_filled (b ∷ l) ms e = omega arith

rising_some : (o : Option (List ℕ)) (ms : List ℕ) → only_rising o ≡ some ms → o ≡ some ms
unfolding only_rising
rising_some none ms e = absurd (none_some e)
rising_some (some l) ms e = go (is_rising_of l) e
  where
    go : (b : Bool) → cond b (some l) none ≡ some ms → some l ≡ some ms
    go true q = q
    go false q = absurd (none_some q)

first_high : (l : List ℕ) → all_decimal l ≡ true → 0 < length l → 48 ≤ get_or l 0 0
unfolding all_decimal
first_high [] e h = absurd (omega arith)
first_high (b ∷ l) e h = decimal_high b (both (is_decimal b) (all_decimal l) e).0

-- the next piece of a list of numbers is one
next_number : {s before out : List ℕ} {r : Listed} {j : ℕ} (f : SoFar number_of s before r j out) → j ≤ length s → (ms : List ℕ) → list_Q s ≡ some ms
    → (n : ℕ) × (number_of (take (j + until comma (drop j s) - j) (drop j s)) ≡ some n)
unfolding list_Q
next_number {s} {before} {out} {r} {j} f here ms e = go (number_of (take (j + until comma (drop j s) - j) (drop j s))) refl
  where
    go : (o : Option ℕ) → number_of (take (j + until comma (drop j s) - j) (drop j s)) ≡ o → (n : ℕ) × (o ≡ some n)
    go none k =
        let within : j + until comma (drop j s) ≤ length s = omega (arith, until_le comma (drop j s), length-drop j s) in
        absurd (none_some (sym (pieces_bad f (j + until comma (drop j s)) here refl within k) ∙ e))
    go (some n) k = (n, refl)

module _ {s : List ℕ} {from : ℕ} (t : ListThere s from) where
  -- it has bytes
  pub list_inside : from < length s
  list_inside = omega (arith, list_filled (field s from) t.members t.is, field_within s from t.within)

  first_byte : get_or (field s from) 0 0 ≡ get_or s from 0
  first_byte =
      let here : from + 0 ≡ from = omega arith in
      field_byte s from t.within 0 (list_filled (field s from) t.members t.is) ∙ ap (λ (k : ℕ). get_or s k 0) here

  -- no `-`: a list in any order as well
  as_list : is_dash_of (field s from) ≡ false → list_Q (field s from) ≡ some t.members
  as_list e = rising_some _ t.members (sym (l_list (field s from) e) ∙ t.is)

  no_dash : (get_or s from 0 ≡ 45 → ⊥) → is_dash_of (field s from) ≡ false
  no_dash other = go (is_dash_of (field s from)) refl
    where
      go : (b : Bool) → is_dash_of (field s from) ≡ b → b ≡ false
      go false e = refl
      go true e = absurd (other (sym first_byte ∙ eqb-true _ _ (both (eqb (length (field s from)) 1) (eqb (get_or (field s from) 0 0) 45) e).1))

  a_dash : get_or s from 0 ≡ 45 → is_dash_of (field s from) ≡ true
  a_dash is = go (is_dash_of (field s from)) refl
    where
      go : (b : Bool) → is_dash_of (field s from) ≡ b → b ≡ true
      go true e = refl
      go false e =
          let (n, number) = next_number {before = []} {out = []} (pieces_start refl) (omega arith) t.members (as_list e) in
          let (some_bytes, decimal, value) = number_bytes _ n number in
          let high = first_high _ decimal some_bytes in
          let u : ℕ = 0 + until comma (drop 0 (field s from)) - 0 in
          let long : 0 < u = omega (arith, some_bytes, length-take u (drop 0 (field s from))) in
          let first : get_or (take u (drop 0 (field s from))) 0 0 ≡ 45 = get_or-take u (drop 0 (field s from)) 0 0 long ∙ first_byte ∙ is in
          absurd (omega arith)

  -- the empty list
  pub dash_read : get_or s from 0 ≡ 45 → (r : KnownList) → r.list ≡ listed_of [] → r.behind ≡ from + 1
      → {out : List ℕ} → KnownRead s from r out out
  dash_read is r e p =
      let dash = a_dash is in
      let one : length (field s from) ≡ 1 = eqb-true _ _ (both (eqb (length (field s from)) 1) (eqb (get_or (field s from) 0 0) 45) dash).0 in
      record { list = empty_read (l_dash (field s from) dash) e; behind = omega (arith, field_length s from t.within) }

-- the members in front of `at` were read
pub record KnownSoFar (s : List ℕ) (from : ℕ) (before : List ℕ) (l : Listed) (at : ℕ) (out : List ℕ) : Type 0 where
  pub there : ListThere s from
  pub onward : from ≤ at
  pub here : at - from ≤ length (field s from)
  pub listed : list_Q (field s from) ≡ some there.members
  pub so_far : SoFar number_of (field s from) before l (at - from) out

pub known_start : {s out : List ℕ} {from : ℕ} {l : Listed} → ListThere s from → (get_or s from 0 ≡ 45 → ⊥) → l ≡ listed_of []
    → KnownSoFar s from out l from out
known_start {s} {out} {from} {l} t other e =
    let none_read : from - from ≡ 0 = omega arith in
    record {
      there = t;
      onward = omega arith;
      here = omega arith;
      listed = as_list t (no_dash t other);
      so_far = subst (λ (j : ℕ). SoFar number_of (field s from) out l j out) (sym none_read) (pieces_start e);
    }

module _ {s before out : List ℕ} {from at : ℕ} {l : Listed} (k : KnownSoFar s from before l at out) where
  abbrev inside : from ≤ length s
  inside = k.there.within

  abbrev j : ℕ
  j = at - from

  abbrev end : ℕ
  end = j + until comma (drop j (field s from))

  there_at : from + j ≡ at
  there_at = omega (arith, k.onward)

  next : (n : ℕ) × (number_of (take (end - j) (drop j (field s from))) ≡ some n)
  next = next_number k.so_far k.here k.there.members k.listed

  pub known_next : DigitsThere s at
  known_next = subst (DigitsThere s) there_at (member_there s from inside j k.here next.0 next.1)

  pub known_few : l.count ≤ length s
  known_few = omega (arith, so_count k.so_far, k.so_far.few, k.here, field_within s from inside)

  pub known_size : length out ≡ length before
  known_size = ap length k.so_far.members ∙ stored_length before k.so_far.done

  module _ {d : Digits} (read : DigitsRead s at d) where
    behind_is : d.behind ≡ from + end
    behind_is =
        read.behind
        ∙ subst (λ (i : ℕ). i + length (digits_at s i) ≡ from + end) there_at (member_long s from inside j k.here next.0 next.1)

    value_is : number_of (take (end - j) (drop j (field s from))) ≡ some d.value
    value_is =
        let value : d.value ≡ next.0 =
        read.value
        ∙ subst (λ (i : ℕ). decimal_from 0 (digits_at s i) ≡ next.0) there_at (member_value s from inside j k.here next.0 next.1) in
        next.1 ∙ ap some (sym value)

    end_within : end ≤ length (field s from)
    end_within = behind_within s from inside j k.here

    byte_is : get_or s d.behind 0 ≡ get_or s (from + end) 0
    byte_is = ap (λ (i : ℕ). get_or s i 0) behind_is

    pub known_onward : at ≤ d.behind
    known_onward = omega (arith, behind_is, there_at)

    -- a comma is behind the number
    module _ (more : get_or s d.behind 0 ≡ comma) where
      not_last : end < length (field s from)
      not_last = more_behind s from inside j k.here (sym byte_is ∙ more)

      pub known_within : d.behind < length s
      known_within = omega (arith, behind_is, not_last, field_within s from inside)

      pub known_more : {q : Listed} → ((done : List ℕ) → l ≡ listed_of done → q ≡ listed_of (done ++ d.value ∷ []))
          → {after : List ℕ} → after ≡ set out l.count d.value → KnownSoFar s from before q (d.behind + 1) after
      known_more {q} pushed {after} put =
          let on = pieces_more k.so_far end k.here refl end_within value_is (pushed _ k.so_far.result) put not_last in
          let place : end + 1 ≡ d.behind + 1 - from = omega (arith, behind_is) in
          record {
            there = k.there;
            onward = omega (arith, behind_is);
            here = omega (arith, behind_is, not_last);
            listed = k.listed;
            so_far = subst (λ (i : ℕ). SoFar number_of (field s from) before q i after) place on;
          }

    -- it was the last
    pub known_last : (get_or s d.behind 0 ≡ comma → ⊥) → {q : Listed}
        → ((done : List ℕ) → l ≡ listed_of done → q ≡ listed_of (done ++ d.value ∷ []))
        → {after : List ℕ} → after ≡ set out l.count d.value → (r : KnownList) → r.list ≡ q → r.behind ≡ d.behind
        → KnownRead s from r before after
    unfolding list_Q
    known_last other {q} pushed {after} put r e p =
        let last : end ≡ length (field s from) = none_behind s from inside j k.here (λ is. other (byte_is ∙ is)) in
        let read-q : ListRead (list_Q (field s from)) (Some q) before after =
        pieces_last k.so_far end k.here refl end_within value_is (pushed _ k.so_far.result) put last in
        let same : list_Q (field s from) ≡ list_L (field s from) = k.listed ∙ sym k.there.is in
        let read-l : ListRead (list_L (field s from)) (Some q) before after = subst (λ (o : Option (List ℕ)). ListRead o (Some q) before after) same read-q in
        record {
          list = subst (λ (x : Listed). ListRead (list_L (field s from)) (Some x) before after) (sym e) read-l;
          behind = p ∙ omega (arith, behind_is, field_length s from inside);
        }
