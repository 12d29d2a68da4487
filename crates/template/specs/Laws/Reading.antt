-- Lines read by a template, value by value. Laws. Assumes nothing.
use Rattle.std.specs.Prelude.{ℕ, zero, suc, ◌+◌, ◌-◌, ◌*◌, ◌≤◌, ◌<◌, Bool, true, not, ◌≡◌, refl, eqb, length, get_or, take, set, Option as Answer, Some, None, IfSome}
use native.Mathlib.Omega.{arith}
use Rattle.std.proofs.Math.Bool.{false}
use Rattle.std.proofs.lemmas.List.{take-append-drop}
use Rattle.std.proofs.Math.Seq.{take-suc}
use Rattle.std.proofs.Common.{add-one, true≢false, sym, ◌∙◌, length-drop, drop-drop}
use Rattle.std.proofs.Math.Path.{ap, subst}
use mathlib.Core.List.{List, [], ◌∷◌, ◌++◌, append_assoc, append-nil}
use Rattle.std.proofs.Math.Option.{Option, none, some}
use borrow.Author.Tests.{eqb-true, eqb-false, eq-eqb, ne_eqb, not-true}
use Rattle.std.proofs.Math.ListN.{drop, drop_of_length-le}
use Rattle.numbers.specs.declared.lists.Listed.{Listed}
use Rattle.template.specs.declared.Progress.{Progress}
use Rattle.text.specs.Bytes.{space, until}
use Rattle.text.specs.Template.{Value, number, list, a_number, a_list, is_letter_of, value_of, and_then, same_byte, at_end, values_of}
use Rattle.numbers.specs.Read.{listed_of, listed_as, ListRead, in_front}
use Rattle.template.specs.Fields.{list_by_of, number_letter, list_letter, number_letters, list_letters, Held, Room, Begins, ReadOn, started, ends_at, is_plain, HasForm, ReadAs, StoresOne, StoresAs}
use Rattle.text.proofs.Laws.Pieces.{step}
use Rattle.text.proofs.Laws.Values.{both}
use Rattle.template.specs.Laws.Fields.{nothing_held, held_number, held_list_lem, list_put}
use Rattle.numbers.specs.Laws.Lists.{listed_count, listed_largest, listed_bad, listed_good}

-- ---- one value more

-- nothing is put, for want of a value or of room
not_put : (a b : ℕ) (o : Option Value) (p : Progress) (before after : List ℕ) → (p.numbers + a ≤ 4 → p.lists + b ≤ 4 → o ≡ none)
    → StoresAs a b o p None before after
not_put a b o p before after f =
    record {
      refused = λ _. f;
      put = λ q h. cc;
    }

-- there is no value
pub no_value : (a b : ℕ) (o : Option Value) (p : Progress) (before after : List ℕ) → o ≡ none → StoresAs a b o p None before after
no_value a b o p before after h = not_put a b o p before after (λ _ _. h)

-- a value is put
one_put : (a b : ℕ) (o : Option Value) (p q : Progress) (before after : List ℕ) → StoresOne a b o p q before after
    → StoresAs a b o p (Some q) before after
one_put a b o p q before after f =
    record {
      refused = λ h. cc;
      put = λ r h. let same : q ≡ r = cc in subst (λ (x : Progress). StoresOne a b o p x before after) same f;
    }

module _ (o : Option ℕ) (p : Progress) where
  pub not_number : (before after : List ℕ) → o ≡ none → StoresAs 1 0 (a_number o) p None before after
  unfolding a_number
  not_number before after h = no_value 1 0 (a_number o) p before after (ap a_number h)

  pub full_number : (before after : List ℕ) → 4 ≤ p.numbers → StoresAs 1 0 (a_number o) p None before after
  full_number before after h = not_put 1 0 (a_number o) p before after (λ g _. absurd (omega arith))

  pub one_number : (x : ℕ) (fields : List ℕ) → o ≡ some x → p.numbers < 4 → p.numbers < length fields
      → StoresAs 1 0 (a_number o) p (Some (record { at = p.at; numbers = p.numbers + 1; lists = p.lists })) fields (set fields p.numbers x)
  one_number x fields e h g =
      one_put 1 0 (a_number o) p (record { at = p.at; numbers = p.numbers + 1; lists = p.lists }) fields (set fields p.numbers x)
      record {
        value = number x;
        reads = unfold a_number in ap a_number e;
        stays = refl;
        numbers_read = refl;
        lists_read = omega arith;
        holds = λ vs k. held_number k x h g;
      }

module _ (o : Option (List ℕ)) (p : Progress) where
  pub not_list : (before after : List ℕ) → None ≡ listed_as o → StoresAs 0 1 (a_list o) p None before after
  unfolding a_list
  not_list before after h = no_value 0 1 (a_list o) p before after (ap a_list (listed_bad o h))

  pub full_list : (before after : List ℕ) → 4 ≤ p.lists → StoresAs 0 1 (a_list o) p None before after
  full_list before after h = not_put 0 1 (a_list o) p before after (λ _ g. absurd (omega arith))

  abbrev l : ℕ
  l = p.lists

  -- as many words as are lent to the reader of the list
  abbrev lent : ℕ
  lent = 12 + l * 31 + 31 - (12 + l * 31)

  pub one_list : (r : Listed) (fields part : List ℕ) → 136 ≤ length fields → l < 4
      → ListRead o (Some r) (take lent (drop (12 + l * 31) fields)) part
      → StoresAs 0 1 (a_list o) p (Some (record { at = p.at; numbers = p.numbers; lists = l + 1 })) fields
      (set (set (take (12 + l * 31) fields ++ (part ++ drop lent (drop (12 + l * 31) fields))) (4 + l) r.count) (8 + l) r.largest)
  one_list r fields part g h q =
      let found = listed_good o q.result in
      let members = found.0 in
      let same : r ≡ listed_of members = found.2 in
      let put = list_put fields l lent members part h (omega arith) g (q.members members found.1) r.count r.largest (listed_count members same) (listed_largest members same) in
      one_put 0 1 (a_list o) p (record { at = p.at; numbers = p.numbers; lists = l + 1 }) fields _
      record {
        value = list members;
        reads = unfold a_list in ap a_list found.1;
        stays = refl;
        numbers_read = omega arith;
        lists_read = refl;
        holds = λ vs v. held_list_lem v h put;
      }

-- a list by its letter
pub list_value : (t : ℕ) (v : List ℕ) {p : Progress} {r : Answer Progress} {before after : List ℕ} → number_letter t ≡ 0 → list_letter t ≡ 1
    → value_of t v ≡ a_list (list_by_of t v) → StoresAs 0 1 (a_list (list_by_of t v)) p r before after
    → StoresAs (number_letter t) (list_letter t) (value_of t v) p r before after
list_value t v a b e q = rw (a, b, e) q

-- ---- a line read on

front_nil : {A : Type 0} (o : Option (List A)) → in_front [] o ≡ o
unfolding in_front
front_nil none = refl
front_nil (some l) = refl

front_some : (vs ws : List Value) → in_front vs (some ws) ≡ some (vs ++ ws)
unfolding in_front
front_some vs ws = refl

front_none : (vs : List Value) (o : Option (List Value)) → in_front vs (and_then none o) ≡ none
unfolding in_front and_then
front_none vs o = refl

front_one : (vs : List Value) (v : Value) (o : Option (List Value)) → in_front vs (and_then (some v) o) ≡ in_front (vs ++ v ∷ []) o
unfolding in_front and_then
front_one vs v none = refl
front_one vs v (some ws) = ap some (sym (append_assoc vs (v ∷ []) ws))

-- a byte that is no letter for a value
module _ (t : ℕ) (plain : is_letter_of t ≡ false) where
  module _ (ts line : List ℕ) (at : ℕ) where
    pub byte_over : length line ≤ at → values_of (t ∷ ts) (drop at line) ≡ none
    unfolding values_of same_byte
    byte_over h = simp (plain, drop_of_length-le line h)

    pub byte_other : at < length line → (get_or line at 0 ≡ t → ⊥) → values_of (t ∷ ts) (drop at line) ≡ none
    unfolding values_of same_byte
    byte_other h e = simp (plain, step line at h, ne_eqb _ _ e)

    pub byte_same : at < length line → get_or line at 0 ≡ t → values_of (t ∷ ts) (drop at line) ≡ values_of ts (drop (at + 1) line)
    unfolding values_of same_byte
    byte_same h e = simp (plain, step line at h, eq-eqb _ _ e)

  other_letter : (k : ℕ) → is_letter_of k ≡ true → eqb t k ≡ false
  other_letter k e = ne_eqb t k (λ h. true≢false (sym e ∙ sym (ap is_letter_of h) ∙ plain))

  plain_number : number_letter t ≡ 0
  plain_number = simp (other_letter 78 refl, other_letter 72 refl, other_letter 66 refl)

  plain_list : list_letter t ≡ 0
  plain_list = simp (other_letter 76 refl, other_letter 81 refl, other_letter 84 refl, other_letter 67 refl)

-- A line was read from `from` to `at` by the first i bytes of a template: what is left to do from here gives the values that are left.
pub record Reading (line template : List ℕ) (from numbers lists : ℕ) (before : List ℕ) (i at n l : ℕ) (fields : List ℕ) : Type 0 where
  pub values : List Value
  pub reads : (rest : List ℕ) → values_of (template ++ rest) (drop from line) ≡ in_front values (values_of (drop i template ++ rest) (drop at line))
  pub within : at ≤ length line
  pub numbers_read : n + number_letters (drop i template) ≡ numbers + number_letters template
  pub lists_read : l + list_letters (drop i template) ≡ lists + list_letters template
  pub holds : (vs : List Value) → Held before numbers lists vs → Held fields n l (vs ++ values)

module _ {line template : List ℕ} {from numbers lists : ℕ} {before : List ℕ} where
  pub reading_starts : from ≤ length line → Reading line template from numbers lists before 0 from numbers lists before
  reading_starts h =
      record {
        values = [];
        reads = λ rest. sym (front_nil (values_of (template ++ rest) (drop from line)));
        within = h;
        numbers_read = refl;
        lists_read = refl;
        holds = λ vs g. rw (append-nil vs) g;
      }

  -- the line is refused
  pub refused_on : {after : List ℕ} → (Room numbers lists template → (rest : List ℕ) → values_of (template ++ rest) (drop from line) ≡ none)
      → ReadOn line template from numbers lists None before after
  refused_on f =
      record {
        refused = λ _. f;
        read = λ p h. cc;
      }

  -- it is not
  read_to : {p : Progress} {after : List ℕ} → Begins line template from numbers lists p before after
      → ReadOn line template from numbers lists (Some p) before after
  read_to {p} {after} b =
      record {
        refused = λ h. cc;
        read = λ q h. let same : p ≡ q = cc in subst (λ (x : Progress). Begins line template from numbers lists x before after) same b;
      }

  module _ {i at n l : ℕ} {fields : List ℕ} (r : Reading line template from numbers lists before i at n l fields) where
    -- the end of the template
    pub reading_ends : length template ≤ i
        → ReadOn line template from numbers lists (Some (record { at = at; numbers = n; lists = l })) before fields
    reading_ends h =
        let e : drop i template ≡ [] = drop_of_length-le template h in
        read_to
        record {
          values = r.values;
          reads = λ rest. r.reads rest ∙ rw e;
          within = r.within;
          numbers_read = omega (arith, r.numbers_read, ap number_letters e);
          lists_read = omega (arith, r.lists_read, ap list_letters e);
          holds = r.holds;
        }

    module _ (h : i < length template) where
      abbrev t : ℕ
      t = get_or template i 0

      -- the template's next byte
      reads_next : (rest : List ℕ)
          → values_of (template ++ rest) (drop from line) ≡ in_front r.values (values_of (t ∷ (drop (i + 1) template ++ rest)) (drop at line))
      reads_next rest = r.reads rest ∙ rw (step template i h)

      module _ (plain : is_letter_of t ≡ false) where
        pub plain_over : at ≡ length line → (rest : List ℕ) → values_of (template ++ rest) (drop from line) ≡ none
        unfolding in_front
        plain_over e rest = reads_next rest ∙ rw (byte_over t plain (drop (i + 1) template ++ rest) line at (omega arith))

        pub plain_other : at < length line → (get_or line at 0 ≡ t → ⊥) → (rest : List ℕ) → values_of (template ++ rest) (drop from line) ≡ none
        unfolding in_front
        plain_other g e rest = reads_next rest ∙ rw (byte_other t plain (drop (i + 1) template ++ rest) line at g e)

        pub plain_same : at < length line → get_or line at 0 ≡ t → Reading line template from numbers lists before (i + 1) (at + 1) n l fields
        plain_same g e =
            record {
              values = r.values;
              reads = λ rest. reads_next rest ∙ rw (byte_same t plain (drop (i + 1) template ++ rest) line at g e);
              within = omega arith;
              numbers_read = omega (arith, r.numbers_read, ap number_letters (step template i h), plain_number t plain);
              lists_read = omega (arith, r.lists_read, ap list_letters (step template i h), plain_list t plain);
              holds = r.holds;
            }

      -- a letter, whose value goes up to e
      module _ (letter : is_letter_of t ≡ true) (e : ℕ) (found : e ≡ at + until space (drop at line)) (inside : e ≤ length line) where
        abbrev value : Option Value
        value = value_of t (take (e - at) (drop at line))

        reads_value : (rest : List ℕ)
            → values_of (template ++ rest) (drop from line) ≡ in_front r.values (and_then value (values_of (drop (i + 1) template ++ rest) (drop e line)))
        unfolding values_of
        reads_value rest =
            let u : e - at ≡ until space (drop at line) = omega arith in
            let d : drop e line ≡ drop (until space (drop at line)) (drop at line) = rw (drop-drop, ← found) in
            reads_next rest ∙ simp letter (rw (u, d))

        module _ {p : Answer Progress} {after : List ℕ}
            (q : StoresAs (number_letter t) (list_letter t) value (record { at = e; numbers = n; lists = l }) p fields after) where
          pub letter_bad : p ≡ None → Room numbers lists template → (rest : List ℕ) → values_of (template ++ rest) (drop from line) ≡ none
          letter_bad b room rest =
              let a = ap number_letters (step template i h) in
              let c = ap list_letters (step template i h) in
              let none_there : value ≡ none = q.refused b (omega (arith, r.numbers_read, room.for_numbers)) (omega (arith, r.lists_read, room.for_lists)) in
              reads_value rest ∙ rw none_there (front_none _ _)

          pub letter_good : (on : Progress) → p ≡ Some on → Reading line template from numbers lists before (i + 1) on.at on.numbers on.lists after
          letter_good on b =
              let one = q.put on b in
              let further : Reading line template from numbers lists before (i + 1) e (n + number_letter t) (l + list_letter t) after = record {
                values = r.values ++ one.value ∷ [];
                reads = λ rest. reads_value rest ∙ rw one.reads (front_one r.values one.value _);
                within = inside;
                numbers_read = omega (arith, r.numbers_read, ap number_letters (step template i h));
                lists_read = omega (arith, r.lists_read, ap list_letters (step template i h));
                holds = λ vs g. rw (← append_assoc vs r.values (one.value ∷ [])) (one.holds (vs ++ r.values) (r.holds vs g));
              } in
              rw (one.stays, one.numbers_read, one.lists_read) further

-- ---- a line read on by one part of its template after the other

pub letters_append : (s t : List ℕ) → (number_letters (s ++ t) ≡ number_letters s + number_letters t) × (list_letters (s ++ t) ≡ list_letters s + list_letters t)
letters_append [] t = (omega arith, omega arith)
letters_append (b ∷ s) t = let ih = letters_append s t in (omega (arith, ih.0), omega (arith, ih.1))

plain_byte : (t : ℕ) (ts : List ℕ) → is_plain (t ∷ ts) ≡ true → (is_letter_of t ≡ false) × (is_plain ts ≡ true)
plain_byte t ts e = let b = both (not (is_letter_of t)) (is_plain ts) e in (not-true (is_letter_of t) b.0, b.1)

pub plain_at : (ts : List ℕ) (i : ℕ) → is_plain ts ≡ true → i < length ts → is_letter_of (get_or ts i 0) ≡ false
plain_at [] i e h = absurd (omega arith)
plain_at (t ∷ ts) zero e h = (plain_byte t ts e).0
plain_at (t ∷ ts) (suc i) e h = plain_at ts i (plain_byte t ts e).1 (omega arith)

-- the line is shorter than the part
plain_short : (ts rest l : List ℕ) → is_plain ts ≡ true → length l < length ts → values_of (ts ++ rest) l ≡ none
plain_short [] rest l e h = absurd (omega arith)
plain_short (t ∷ ts) rest [] e h = unfold values_of same_byte in simp (plain_byte t ts e).0
plain_short (t ∷ ts) rest (b ∷ l) e h = go (eqb b t) refl (plain_short ts rest l (plain_byte t ts e).1 (omega arith))
  where
    go : (same : Bool) → eqb b t ≡ same → values_of (ts ++ rest) l ≡ none → values_of (t ∷ (ts ++ rest)) (b ∷ l) ≡ none
    go true k ih = unfold values_of same_byte in simp ((plain_byte t ts e).0, k) ih
    go false k ih = unfold values_of same_byte in simp ((plain_byte t ts e).0, k)

pub short_refused : {line part : List ℕ} {at n l : ℕ} {before after : List ℕ} → is_plain part ≡ true → length line - at < length part
    → ReadOn line part at n l None before after
short_refused {line} {part} {at} plain h = refused_on (λ _ rest. plain_short part rest (drop at line) plain (rw (length-drop at line) h))

-- a value, which goes up to e
pub value_read : {line : List ℕ} (t at n l e : ℕ) {p : Answer Progress} {before after : List ℕ} → at ≤ length line → is_letter_of t ≡ true
    → e ≡ at + until space (drop at line) → e ≤ length line
    → StoresAs (number_letter t) (list_letter t) (value_of t (take (e - at) (drop at line))) (record { at = e; numbers = n; lists = l }) p before after
    → ReadOn line (t ∷ []) at n l p before after
value_read {line} t at n l e {p} {before} {after} h letter found inside q = go p refl
  where
    starts : Reading line (t ∷ []) at n l before 0 at n l before
    starts = reading_starts h

    go : (r : Answer Progress) → p ≡ r → ReadOn line (t ∷ []) at n l r before after
    go None k = refused_on (letter_bad starts (omega arith) letter e found inside q k)
    go (Some on) k = reading_ends (letter_good starts (omega arith) letter e found inside q on k) (omega arith)

-- a byte that stands for itself
module _ {line : List ℕ} {t at n l : ℕ} {fields : List ℕ} (h : at ≤ length line) (plain : is_letter_of t ≡ false) where
  starts_at : Reading line (t ∷ []) at n l fields 0 at n l fields
  starts_at = reading_starts h

  pub byte_missing : at ≡ length line → ReadOn line (t ∷ []) at n l None fields fields
  byte_missing e = refused_on (λ _. plain_over starts_at (omega arith) plain e)

  pub byte_wrong : at < length line → (get_or line at 0 ≡ t → ⊥) → ReadOn line (t ∷ []) at n l None fields fields
  byte_wrong g e = refused_on (λ _. plain_other starts_at (omega arith) plain g e)

  pub byte_right : at < length line → get_or line at 0 ≡ t → ReadOn line (t ∷ []) at n l (Some (record { at = at + 1; numbers = n; lists = l })) fields fields
  byte_right g e = reading_ends (plain_same starts_at (omega arith) plain g e) (omega arith)

front_front : (vs ws : List Value) (o : Option (List Value)) → in_front vs (in_front ws o) ≡ in_front (vs ++ ws) o
unfolding in_front
front_front vs ws none = refl
front_front vs ws (some us) = ap some (sym (append_assoc vs ws us))

-- how far it was read is within the line
pub in_bounds : {line template : List ℕ} {at n l : ℕ} {r : Answer Progress} {before after : List ℕ} → ReadOn line template at n l r before after
    → IfSome r (λ (q : Progress). q.at ≤ length line)
in_bounds {r = None} on = tt
in_bounds {r = Some q} on = (on.read q refl).within

-- nothing is read by an empty template
pub read_nothing : {line : List ℕ} {p : Progress} {fields : List ℕ} → p.at ≤ length line → ReadOn line [] p.at p.numbers p.lists (Some p) fields fields
read_nothing h = reading_ends (reading_starts h) (omega arith)

-- A line that was read by the first part of a template.
module _ {line first : List ℕ} {at n l : ℕ} {before between : List ℕ} where
  -- refused there, it is refused by all of the template
  pub stops : (rest : List ℕ) → ReadOn line first at n l None before between → {after : List ℕ} → ReadOn line (first ++ rest) at n l None before after
  stops rest a =
      let letters = letters_append first rest in
      refused_on (λ room more. rw (append_assoc first rest more) (a.refused refl
      (record { for_numbers = omega (arith, letters.0, room.for_numbers); for_lists = omega (arith, letters.1, room.for_lists) }) (rest ++ more)))

  -- read on by the second
  module _ {second : List ℕ} {q : Progress} {r : Answer Progress} {after : List ℕ} (a : ReadOn line first at n l (Some q) before between)
      (b : ReadOn line second q.at q.numbers q.lists r between after) where
    abbrev letters : (number_letters (first ++ second) ≡ number_letters first + number_letters second) × (list_letters (first ++ second) ≡ list_letters first + list_letters second)
    letters = letters_append first second

    abbrev begun : Begins line first at n l q before between
    begun = a.read q refl

    both_refused : r ≡ None → Room n l (first ++ second) → (rest : List ℕ) → values_of ((first ++ second) ++ rest) (drop at line) ≡ none
    both_refused f room rest =
        let c = begun in
        let left : Room q.numbers q.lists second = record {
          for_numbers = omega (arith, letters.0, room.for_numbers, c.numbers_read);
          for_lists = omega (arith, letters.1, room.for_lists, c.lists_read);
        } in
        rw (append_assoc first second rest) (c.reads (second ++ rest) ∙ (unfold in_front in rw (b.refused f left rest)))

    both_begin : (p : Progress) → r ≡ Some p → Begins line (first ++ second) at n l p before after
    both_begin p f =
        let c = begun in
        let d = b.read p f in
        record {
          values = c.values ++ d.values;
          reads = λ rest. rw (append_assoc first second rest) (c.reads (second ++ rest) ∙ ap (in_front c.values) (d.reads rest) ∙ front_front c.values d.values _);
          within = d.within;
          numbers_read = omega (arith, letters.0, c.numbers_read, d.numbers_read);
          lists_read = omega (arith, letters.1, c.lists_read, d.lists_read);
          holds = λ vs h. rw (← append_assoc vs c.values d.values) (d.holds (vs ++ c.values) (c.holds vs h));
        }

    pub then_next : ReadOn line (first ++ second) at n l r before after
    then_next = record { refused = both_refused; read = both_begin }

-- A line that was read by the first bytes of a template, read on by the next.
module _ {line : List ℕ} (template : List ℕ) (i : ℕ) {at n l : ℕ} {before between : List ℕ} {p : Progress}
    (a : ReadOn line (take i template) at n l (Some p) before between) (h : i < length template) where
  pub byte_more : {r : Answer Progress} {after : List ℕ} → ReadOn line (get_or template i 0 ∷ []) p.at p.numbers p.lists r between after
      → ReadOn line (take (i + 1) template) at n l r before after
  byte_more b = rw (add-one, take-suc template i 0 h) (then_next a b)

  pub byte_stops : {after : List ℕ} → ReadOn line (get_or template i 0 ∷ []) p.at p.numbers p.lists None between after
      → ReadOn line template at n l None before after
  byte_stops {after} b =
      subst (λ (t : List ℕ). ReadOn line t at n l None before after) (take-append-drop (i + 1) template) (stops (drop (i + 1) template) (byte_more b))

-- from the start of the line
pub from_start : {line template : List ℕ} {s : Progress} {r : Answer Progress} {before after : List ℕ} → s ≡ started
    → ReadOn line template s.at s.numbers s.lists r before after → ReadOn line template 0 0 0 r before after
from_start {line} {template} {s} {r} {before} {after} start n =
    subst (λ (q : Progress). ReadOn line template q.at q.numbers q.lists r before after) start n

-- ---- to the end of the line

end_over : (line : List ℕ) (at : ℕ) → length line ≤ at → values_of [] (drop at line) ≡ some []
unfolding values_of at_end
end_over line at h = rw (drop_of_length-le line h)

end_early : (line : List ℕ) (at : ℕ) → at < length line → values_of [] (drop at line) ≡ none
unfolding values_of at_end
end_early line at h = rw (step line at h)

-- a template read on to the end of the line
module _ {line template : List ℕ} {from numbers lists : ℕ} {r : Answer Progress} {before after : List ℕ}
    (on : ReadOn line template from numbers lists r before after) where
  whole_template : (o : Option (List Value)) → values_of (template ++ []) (drop from line) ≡ o → values_of template (drop from line) ≡ o
  whole_template o e = rw (append-nil template) at e

  pub end_refused : r ≡ None → Room numbers lists template → values_of template (drop from line) ≡ none
  end_refused e room = whole_template none (on.refused e room [])

  module _ (p : Progress) (e : r ≡ Some p) where
    pub end_too_early : p.at < length line → values_of template (drop from line) ≡ none
    unfolding in_front
    end_too_early h = whole_template none ((on.read p e).reads [] ∙ rw (end_early line p.at h))

    pub end_reached : length line ≤ p.at → values_of template (drop from line) ≡ some (on.read p e).values
    unfolding in_front
    end_reached h =
        whole_template (some (on.read p e).values) ((on.read p e).reads [] ∙ rw (end_over line p.at h) (ap some (append-nil (on.read p e).values)))

-- a line read by the first part of a template, then by the rest of it to the end
module _ {line first : List ℕ} {p : Progress} {before between : List ℕ} (b : Begins line first 0 0 0 p before between) where
  parts_bad : (second : List ℕ) → values_of second (drop p.at line) ≡ none → values_of (first ++ second) line ≡ none
  unfolding in_front
  parts_bad second e = b.reads second ∙ rw e

  parts_refused : {second after : List ℕ} → ReadOn line second p.at p.numbers p.lists None between after → Room 0 0 (first ++ second)
      → values_of (first ++ second) line ≡ none
  parts_refused {second} r room =
      let l = letters_append first second in
      let left : Room p.numbers p.lists second = record {
        for_numbers = omega (arith, l.0, b.numbers_read, room.for_numbers);
        for_lists = omega (arith, l.1, b.lists_read, room.for_lists);
      } in
      parts_bad second (end_refused r refl left)

  parts_good : {second after : List ℕ} {q : Progress} → ReadOn line second p.at p.numbers p.lists (Some q) between after → length line ≤ q.at → HasForm line (first ++ second) after
  parts_good {second} {after} {q} r h =
      let c = r.read q refl in
      let l = letters_append first second in
      let n : number_letters (first ++ second) ≡ q.numbers = omega (arith, l.0, b.numbers_read, c.numbers_read) in
      let m : list_letters (first ++ second) ≡ q.lists = omega (arith, l.1, b.lists_read, c.lists_read) in
      record {
        values = b.values ++ c.values;
        reads = b.reads second ∙ ap (in_front b.values) (end_reached r q refl h) ∙ front_some b.values c.values;
        held = rw (n, m) (c.holds b.values (b.holds [] (nothing_held before)));
      }

  pub parts_read : {second after : List ℕ} (r : Answer Progress) → ReadOn line second p.at p.numbers p.lists r between after → ReadAs line (first ++ second) (ends_at (length line) r) after
  parts_read {second} {after} None r = record { refused = λ _. parts_refused r; read = λ k. absurd (true≢false (sym k)) }
  parts_read {second} {after} (Some q) r = go (eqb q.at (length line)) refl
    where
      go : (t : Bool) → eqb q.at (length line) ≡ t → ReadAs line (first ++ second) t after
      go false h =
          let other = eqb-false q.at (length line) h in
          let early : q.at < length line = omega (arith, (r.read q refl).within) in
          record {
            refused = λ _ _. parts_bad second (end_too_early r q refl early);
            read = λ k. absurd (true≢false (sym k));
          }
      go true h =
          let same = eqb-true q.at (length line) h in
          record { refused = λ k. absurd (true≢false k); read = λ _. parts_good r (omega arith) }

-- a line read by one template to its end
pub whole_read : {line template : List ℕ} {r : Answer Progress} {before after : List ℕ} → ReadOn line template 0 0 0 r before after
    → ReadAs line template (ends_at (length line) r) after
whole_read {line} {template} {r} {before} {after} on =
    parts_read {first = []} {p = record { at = 0; numbers = 0; lists = 0 }} {before = before}
    record {
      values = [];
      reads = λ rest. sym (front_nil (values_of rest line));
      within = omega arith;
      numbers_read = refl;
      lists_read = refl;
      holds = λ vs h. rw (append-nil vs) h;
    }
    r on
