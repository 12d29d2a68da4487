-- A line put by its template, value by value. Laws. Assumes nothing.
use Rattle.std.specs.Prelude.{◌≡◌, true, false, cond, List, [], ◌∷◌, ◌++◌, ℕ, ◌+◌, ◌-◌, ◌*◌, ◌≤◌, ◌<◌, eqb, length, get_or, take, drop}
use Rattle.std.proofs.Common.{sym, ap, ◌∙◌, true≢false, add-zero, arith, ne_eqb, length-append, drop_of_length-le, get_or-drop, drop-drop}
use Rattle.std.proofs.Math.Nat.{add-sub_cancel_left}
use Rattle.text.specs.List.{list_text}
use Rattle.text.specs.Template.{Value, is_letter_of, value_text, first_text, line_text}
use Rattle.text.proofs.Laws.Pieces.{step}
use Rattle.writer.specs.Placed.{Puts}
use Rattle.line_writer.specs.Line.{is_list_of, values_in, numbers_for, lists_for}
use Rattle.writer.specs.Laws.Placing.{Rest, rest_all, rest_more, rest_none}

-- ---- the first byte of a template

-- a list of numbers is no T
no_words : (t : ℕ) → is_list_of t ≡ true → eqb t 84 ≡ false
unfolding is_list_of
no_words t f = ne_eqb t 84 (λ q. true≢false (sym f ∙ ap is_list_of q))

module _ (t : ℕ) (ts numbers counts members : List ℕ) where
  -- the text of the values that the words hold
  abbrev whole : List ℕ
  whole = line_text (t ∷ ts) (values_in (t ∷ ts) numbers counts members)

  literal_first : is_letter_of t ≡ false → whole ≡ (t ∷ []) ++ line_text ts (values_in ts numbers counts members)
  unfolding line_text values_in
  literal_first e = rw e

  list_first : is_letter_of t ≡ true → is_list_of t ≡ true
      → whole ≡ list_text (take (get_or counts 0 0) members) ++ line_text ts (values_in ts numbers (drop 1 counts) (drop 31 members))
  unfolding line_text values_in first_text value_text
  list_first e f = rw (e, f, no_words t f)

  number_first : is_letter_of t ≡ true → is_list_of t ≡ false
      → whole ≡ value_text t (Value.number (get_or numbers 0 0)) ++ line_text ts (values_in ts (drop 1 numbers) counts members)
  unfolding line_text values_in first_text
  number_first e f = rw (e, f)

-- ---- the loop

module _ (template numbers counts members : List ℕ) where
  -- what is left of the line from a byte of the template on, after so many numbers and lists
  abbrev left : ℕ → ℕ → ℕ → List ℕ
  left i n l = line_text (drop i template) (values_in (drop i template) (drop n numbers) (drop l counts) (drop (l * 31) members))

  abbrev pub text : List ℕ
  text = line_text template (values_in template numbers counts members)

  -- The first i bytes of the template are put, with n numbers and l lists.
  pub record Putting (at : ℕ) (out : List ℕ) (i n l next : ℕ) (after : List ℕ) : Type 0 where
    pub within : i ≤ length template
    pub numbers_left : n + numbers_for (drop i template) ≡ numbers_for template
    pub lists_left : l + lists_for (drop i template) ≡ lists_for template
    pub rest : Rest at text out next (left i n l) after

module _ {template numbers counts members : List ℕ} {at : ℕ} {out : List ℕ} where
  pub nothing_put : Putting template numbers counts members at out 0 0 0 at out
  nothing_put = record { within = omega arith; numbers_left = omega arith; lists_left = omega arith; rest = rest_all }

  module _ {i n l next : ℕ} {after : List ℕ} (s : Putting template numbers counts members at out i n l next after) where
    pub all_put : length template ≤ i → Puts at (text template numbers counts members) out after next
    unfolding line_text
    all_put h = rest_none (rw (drop_of_length-le template h) at s.rest)

    -- how far the next part of the line goes
    next_part : (part more : List ℕ) → left template numbers counts members i n l ≡ part ++ more
        → next + length part ≤ at + length (text template numbers counts members)
    next_part part more e = omega (arith, s.rest.place, ap length e, length-append part more)

    module _ (h : i < length template) where
      abbrev t : ℕ
      t = get_or template i 0

      numbers_here : numbers_for (drop i template) ≡ cond (is_letter_of t) (cond (is_list_of t) 0 1) 0 + numbers_for (drop (i + 1) template)
      numbers_here = ap numbers_for (step template i h)

      lists_here : lists_for (drop i template) ≡ cond (is_letter_of t) (cond (is_list_of t) 1 0) 0 + lists_for (drop (i + 1) template)
      lists_here = ap lists_for (step template i h)

      -- a byte that stands for itself
      module _ (e : is_letter_of t ≡ false) where
        literal_left : left template numbers counts members i n l ≡ (t ∷ []) ++ left template numbers counts members (i + 1) n l
        literal_left = rw (step template i h) (literal_first t (drop (i + 1) template) (drop n numbers) (drop l counts) (drop (l * 31) members) e)

        pub literal_fits : next + 1 ≤ at + length (text template numbers counts members)
        literal_fits = next_part (t ∷ []) _ literal_left

        pub literal_put : {b : List ℕ} {end : ℕ} → Puts next (t ∷ []) after b end → Putting template numbers counts members at out (i + 1) n l end b
        literal_put p =
            record {
              within = omega arith;
              numbers_left = omega (arith, s.numbers_left, rw e at numbers_here);
              lists_left = omega (arith, s.lists_left, rw e at lists_here);
              rest = rest_more (rw literal_left at s.rest) p;
            }

      -- a list
      module _ (e : is_letter_of t ≡ true) (f : is_list_of t ≡ true) where
        -- from its place on, up to where it ends
        abbrev list : List ℕ
        list = take (l * 31 + get_or counts l 0 - l * 31) (drop (l * 31) members)

        list_left : left template numbers counts members i n l ≡ list_text list ++ left template numbers counts members (i + 1) n (l + 1)
        list_left =
            let place : l * 31 + 31 ≡ (l + 1) * 31 = omega arith in
            let first = list_first t (drop (i + 1) template) (drop n numbers) (drop l counts) (drop (l * 31) members) e f in
            rw (step template i h, add-sub_cancel_left) (simp (get_or-drop, drop-drop, add-zero, place) at first)

        pub list_fits : next + length (list_text list) ≤ at + length (text template numbers counts members)
        list_fits = next_part (list_text list) _ list_left

        pub list_among : l < lists_for template
        list_among = omega (arith, s.lists_left, rw (e, f) at lists_here)

        pub list_put : {b : List ℕ} {end : ℕ} → Puts next (list_text list) after b end → Putting template numbers counts members at out (i + 1) n (l + 1) end b
        list_put p =
            record {
              within = omega arith;
              numbers_left = omega (arith, s.numbers_left, rw (e, f) at numbers_here);
              lists_left = omega (arith, s.lists_left, rw (e, f) at lists_here);
              rest = rest_more (rw list_left at s.rest) p;
            }

      -- a number
      module _ (e : is_letter_of t ≡ true) (f : is_list_of t ≡ false) where
        abbrev number : List ℕ
        number = value_text t (Value.number (get_or numbers n 0))

        number_left : left template numbers counts members i n l ≡ number ++ left template numbers counts members (i + 1) (n + 1) l
        number_left =
            let first = number_first t (drop (i + 1) template) (drop n numbers) (drop l counts) (drop (l * 31) members) e f in
            rw (step template i h) (simp (get_or-drop, drop-drop, add-zero) at first)

        pub number_fits : next + length number ≤ at + length (text template numbers counts members)
        number_fits = next_part number _ number_left

        pub number_among : n < numbers_for template
        number_among = omega (arith, s.numbers_left, rw (e, f) at numbers_here)

        pub number_put : {b : List ℕ} {end : ℕ} → Puts next number after b end → Putting template numbers counts members at out (i + 1) (n + 1) l end b
        number_put p =
            record {
              within = omega arith;
              numbers_left = omega (arith, s.numbers_left, rw (e, f) at numbers_here);
              lists_left = omega (arith, s.lists_left, rw (e, f) at lists_here);
              rest = rest_more (rw number_left at s.rest) p;
            }
