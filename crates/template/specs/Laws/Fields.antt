-- Lent words that hold the values of a line, with one value more. Laws. Assumes nothing.
use Rattle.std.specs.Prelude.{ℕ, zero, suc, max, ◌+◌, ◌-◌, ◌*◌, ◌≤◌, ◌<◌, Bool, true, false, ◌≢◌, ◌≡◌, refl, eqb, length, get_or, take, drop, set}
use Rattle.std.proofs.Common.{arith, ap, ap₂, ◌∙◌, eqb-true, length-append, length-take, length-drop, length-set, length-take-le, get_or-set_same, get_or-set_other, get_or-take, get_or-drop, get_or-append-add, ext_get_or}
use mathlib.Core.List.{List, [], ◌∷◌, ◌++◌, append-nil}
use Rattle.std.proofs.lemmas.Bool.{eqb-false}
use Rattle.std.proofs.Math.ListN.{get_or-append}
use Rattle.std.proofs.lemmas.List.{get_or_at}
use Rattle.text.specs.Template.{Value, number, list, numbers_in, lists_in, list_at_of}
use Rattle.numbers.specs.declared.known.KnownList.{KnownList}
use Rattle.numbers.specs.Read.{largest_of, listed_of, stored}
use Rattle.numbers.specs.Known.{KnownRead}
use Rattle.template.specs.Values.{Whole, AllKept, members_on, held_list}
use Rattle.template.specs.Fields.{Held, FewAre, ListPut, KnownPut}
use Rattle.numbers.specs.Laws.Lists.{listed_is, listed_count, listed_largest, stored_length, stored_at}

-- ---- the numbers and the lists of values one after the other

pub numbers_append : (vs ws : List Value) → numbers_in (vs ++ ws) ≡ numbers_in vs ++ numbers_in ws
unfolding numbers_in
numbers_append [] ws = refl
numbers_append (number n ∷ vs) ws = ap (n ∷◌) (numbers_append vs ws)
numbers_append (list l ∷ vs) ws = numbers_append vs ws

pub lists_append : (vs ws : List Value) → lists_in (vs ++ ws) ≡ lists_in vs ++ lists_in ws
unfolding lists_in
lists_append [] ws = refl
lists_append (number n ∷ vs) ws = lists_append vs ws
lists_append (list l ∷ vs) ws = ap (l ∷◌) (lists_append vs ws)

-- ---- what is held

pub nothing_held : (fields : List ℕ) → Held fields 0 0 []
unfolding numbers_in lists_in
nothing_held fields =
    record {
      few_numbers = omega arith;
      few_lists = omega arith;
      numbers_in_lem = refl;
      lists_in_lem = refl;
      number = λ i h. absurd (omega arith);
      count = λ i h. absurd (omega arith);
      largest = λ i h. absurd (omega arith);
      member = λ i j h g k. absurd (omega arith);
    }

-- an element of a list with one more at its end: one of those before, or the last
get_D_snoc : {A : Type 0} (P : A → Type 0) (l : List A) (a d : A) (i n : ℕ) → length l ≡ n → i < n + 1
    → (i < n → P (get_or l i d)) → (i ≡ n → P a) → P (get_or (l ++ a ∷ []) i d)
get_D_snoc P l a d i n e h before last = go (eqb i n) refl
  where
    go : (t : Bool) → eqb i n ≡ t → P (get_or (l ++ a ∷ []) i d)
    go true k = let same = eqb-true i n k in rw (same, get_or_at l a [] d n e) (last same)
    go false k =
        let other = eqb-false i n k in
        let less : i < n = omega arith in
        rw (get_or-append l (a ∷ []) d i (omega arith)) (before less)

-- a number more
module _ {fields : List ℕ} {n l : ℕ} {vs : List Value} (h : Held fields n l vs) (x : ℕ) (room : n < 4) (inside : n < length fields) where
  numbers_now : numbers_in (vs ++ number x ∷ []) ≡ numbers_in vs ++ x ∷ []
  unfolding numbers_in
  numbers_now = numbers_append vs (number x ∷ [])

  lists_now : lists_in (vs ++ number x ∷ []) ≡ lists_in vs
  unfolding lists_in
  lists_now = lists_append vs (number x ∷ []) ∙ append-nil (lists_in vs)

  pub held_number : Held (set fields n x) (n + 1) (l + 0) (vs ++ number x ∷ [])
  held_number =
      let e = h.numbers_in_lem in
      let same : l + 0 ≡ l = omega arith in
      record {
        few_numbers = omega arith;
        few_lists = omega (arith, h.few_lists);
        numbers_in_lem = rw numbers_now (omega (arith, length-append (numbers_in vs) (x ∷ [])));
        lists_in_lem = rw (lists_now, same) h.lists_in_lem;
        number = λ i g.
            rw numbers_now
            (get_D_snoc (λ (y : ℕ). get_or (set fields n x) i 0 ≡ y) (numbers_in vs) x 0 i n e g
            (λ k. get_or-set_other fields n i x 0 (omega arith) ∙ h.number i k)
            (λ k. rw k (get_or-set_same fields n x 0 inside)));
        count = λ i g. rw lists_now (get_or-set_other fields n (4 + i) x 0 (omega arith) ∙ h.count i (omega arith));
        largest = λ i g. rw lists_now (get_or-set_other fields n (8 + i) x 0 (omega arith) ∙ h.largest i (omega arith));
        member = λ i j g k m. rw lists_now (get_or-set_other fields n (12 + i * 31 + j) x 0 (omega arith) ∙ h.member i j (omega arith) k (rw lists_now at m));
      }

-- a list more
module _ {before after : List ℕ} {n l : ℕ} {vs : List Value} (h : Held before n l vs) {members : List ℕ} (room : l < 4)
    (p : ListPut before after l members) where
  numbers_then : numbers_in (vs ++ list members ∷ []) ≡ numbers_in vs
  unfolding numbers_in
  numbers_then = numbers_append vs (list members ∷ []) ∙ append-nil (numbers_in vs)

  lists_then : lists_in (vs ++ list members ∷ []) ≡ lists_in vs ++ members ∷ []
  unfolding lists_in
  lists_then = lists_append vs (list members ∷ [])

  pub held_list_lem : Held after (n + 0) (l + 1) (vs ++ list members ∷ [])
  held_list_lem =
      let e = h.lists_in_lem in
      let few = h.few_numbers in
      let same : n + 0 ≡ n = omega arith in
      record {
        few_numbers = omega arith;
        few_lists = omega arith;
        numbers_in_lem = rw (numbers_then, same) h.numbers_in_lem;
        lists_in_lem = rw lists_then (omega (arith, length-append (lists_in vs) (members ∷ [])));
        number = λ i g. rw numbers_then (p.others i (omega arith) (omega arith) (omega arith) ∙ h.number i (omega arith));
        count = λ i g.
            rw lists_then
            (get_D_snoc (λ (y : List ℕ). get_or after (4 + i) 0 ≡ length y) (lists_in vs) members [] i l e g
            (λ k. p.others (4 + i) (omega arith) (omega arith) (omega arith) ∙ h.count i k)
            (λ k. rw k p.count));
        largest = λ i g.
            rw lists_then
            (get_D_snoc (λ (y : List ℕ). get_or after (8 + i) 0 ≡ largest_of y) (lists_in vs) members [] i l e g
            (λ k. p.others (8 + i) (omega arith) (omega arith) (omega arith) ∙ h.largest i k)
            (λ k. rw k p.largest));
        member = λ i j g b.
            rw lists_then
            (get_D_snoc (λ (y : List ℕ). j < length y → get_or after (12 + i * 31 + j) 0 ≡ get_or y j 0) (lists_in vs) members [] i l e g
            (λ k m. p.others (12 + i * 31 + j) (omega arith) (omega arith) (omega arith) ∙ h.member i j k b m)
            (λ k m. rw k (p.member j b m)));
      }

-- the part of k words from a on, with others in its place
module _ (f p : List ℕ) (a k : ℕ) (inside : a ≤ length f) where
  part_before : (i : ℕ) → i < a → get_or (take a f ++ (p ++ drop k (drop a f))) i 0 ≡ get_or f i 0
  part_before i h =
      get_or-append (take a f) (p ++ drop k (drop a f)) 0 i (rw (length-take-le a f inside) h) ∙ get_or-take a f i 0 h

  part_at : (j : ℕ) → j < length p → get_or (take a f ++ (p ++ drop k (drop a f))) (a + j) 0 ≡ get_or p j 0
  part_at j h =
      let e = get_or-append-add (take a f) (p ++ drop k (drop a f)) j 0 in
      (rw (length-take-le a f inside) at e) ∙ get_or-append p (drop k (drop a f)) 0 j h

module _ (f : List ℕ) (l k : ℕ) (members : List ℕ) (p : List ℕ) (room : l < 4) (wide : k ≡ 31) (inside : 136 ≤ length f)
    (put : p ≡ stored (take k (drop (12 + l * 31) f)) members) where
  abbrev lent : List ℕ
  lent = take (12 + l * 31) f ++ (p ++ drop k (drop (12 + l * 31) f))

  part_length : length p ≡ 31
  part_length =
      let e = stored_length (take k (drop (12 + l * 31) f)) members in
      let t = length-take k (drop (12 + l * 31) f) in
      let d = length-drop (12 + l * 31) f in
      rw put (omega arith)

  lent_length : length lent ≡ length f
  lent_length =
      let e = part_length in
      let s = length-append (take (12 + l * 31) f) (p ++ drop k (drop (12 + l * 31) f)) in
      let q = length-append p (drop k (drop (12 + l * 31) f)) in
      let t = length-take (12 + l * 31) f in
      let d = length-drop k (drop (12 + l * 31) f) in
      let g = length-drop (12 + l * 31) f in
      omega arith

  others_stay : (count largest i : ℕ) → i ≢ 4 + l → i ≢ 8 + l → get_or (set (set lent (4 + l) count) (8 + l) largest) i 0 ≡ get_or lent i 0
  others_stay count largest i u v =
      get_or-set_other (set lent (4 + l) count) (8 + l) i largest 0 v ∙ get_or-set_other lent (4 + l) i count 0 u

  -- the words after the three steps
  pub list_put : (count largest : ℕ) → count ≡ length members → largest ≡ largest_of members
      → ListPut f (set (set (take (12 + l * 31) f ++ (p ++ drop k (drop (12 + l * 31) f))) (4 + l) count) (8 + l) largest) l members
  list_put count largest c g =
      let e = lent_length in
      let within : 12 + l * 31 ≤ length f = omega arith in
      record {
        count = get_or-set_other (set lent (4 + l) count) (8 + l) (4 + l) largest 0 (omega arith) ∙ get_or-set_same lent (4 + l) count 0 (omega arith) ∙ c;
        largest = get_or-set_same (set lent (4 + l) count) (8 + l) largest 0 (rw (length-set lent (4 + l) count) (omega arith)) ∙ g;
        member = λ j b m.
            others_stay count largest (12 + l * 31 + j) (omega arith) (omega arith)
            ∙ part_at f p (12 + l * 31) k within j (omega (arith, part_length))
            ∙ rw put (stored_at (take k (drop (12 + l * 31) f)) members j m (omega (arith, length-take k (drop (12 + l * 31) f), length-drop (12 + l * 31) f)));
        others = λ i u v b. others_stay count largest i u v ∙ part_before f p (12 + l * 31) k within i b;
      }

-- a list that is known to stand at a place
module _ (f : List ℕ) (l : ℕ) (room : l < 4) (inside : 136 ≤ length f) where
  abbrev wide : ℕ
  wide = 12 + l * 31 + 31 - (12 + l * 31)

  pub known_put : {line part : List ℕ} {from : ℕ} (known : KnownList) → KnownRead line from known (take wide (drop (12 + l * 31) f)) part
      → KnownPut line from l known.behind f
      (set (set (take (12 + l * 31) f ++ (part ++ drop wide (drop (12 + l * 31) f))) (4 + l) known.list.count) (8 + l) known.list.largest)
  known_put {line} {part} known read =
      record {
        put = λ members is.
            let same : known.list ≡ listed_of members = listed_is is read.list.result in
            let stays = read.list.members members is in
            list_put f l wide members part room (omega arith) inside stays known.list.count known.list.largest (listed_count members same)
            (listed_largest members same);
        behind = read.behind;
      }

-- ---- a list of at most two members

few_largest : (members : List ℕ) → length members ≤ 2 → max (get_or members 0 0) (get_or members 1 0) ≡ largest_of members
unfolding largest_of
few_largest [] h = refl
few_largest (a ∷ []) h = refl
few_largest (a ∷ b ∷ []) h = let e : max a b ≡ max a (max b 0) = omega arith in e
few_largest (a ∷ b ∷ c ∷ l) h = absurd (omega arith)

module _ (f : List ℕ) (i many most first second : ℕ) (room : i < 4) (inside : 136 ≤ length f) where
  abbrev counted : List ℕ
  counted = set f (4 + i) many

  abbrev bounded : List ℕ
  bounded = set counted (8 + i) most

  abbrev begun : List ℕ
  begun = set bounded (12 + i * 31) first

  lengths : (length counted ≡ length f) × (length bounded ≡ length f) × (length begun ≡ length f)
  lengths =
      let a = length-set f (4 + i) many in
      let b = length-set counted (8 + i) most in
      let c = length-set bounded (12 + i * 31) first in
      (a, b ∙ a, c ∙ b ∙ a)

  -- a word in front of the members
  in_front : (k : ℕ) → k < 12 + i * 31 → get_or (set begun (12 + i * 31 + 1) second) k 0 ≡ get_or bounded k 0
  in_front k h = get_or-set_other begun (12 + i * 31 + 1) k second 0 (omega arith) ∙ get_or-set_other bounded (12 + i * 31) k first 0 (omega arith)

  member_of : (members : List ℕ) → FewAre members many first second → (j : ℕ) → j < length members
      → get_or (set begun (12 + i * 31 + 1) second) (12 + i * 31 + j) 0 ≡ get_or members j 0
  member_of members are zero h =
      let here : 12 + i * 31 + 0 ≡ 12 + i * 31 = omega arith in
      ap (λ (k : ℕ). get_or (set begun (12 + i * 31 + 1) second) k 0) here
      ∙ get_or-set_other begun (12 + i * 31 + 1) (12 + i * 31) second 0 (omega arith)
      ∙ get_or-set_same bounded (12 + i * 31) first 0 (omega (arith, lengths.1))
      ∙ are.is_first
  member_of members are (suc zero) h = get_or-set_same begun (12 + i * 31 + 1) second 0 (omega (arith, lengths.2)) ∙ are.is_second
  member_of members are (suc (suc j)) h = absurd (omega (arith, are.few))

  pub few_put : most ≡ max first second → (members : List ℕ) → FewAre members many first second
      → ListPut f (set (set (set (set f (4 + i) many) (8 + i) most) (12 + i * 31) first) (12 + i * 31 + 1) second) i members
  few_put is members are =
      record {
        count = in_front (4 + i) (omega arith) ∙ get_or-set_other counted (8 + i) (4 + i) most 0 (omega arith) ∙ get_or-set_same f (4 + i) many 0 (omega arith) ∙ are.size;
        largest = in_front (8 + i) (omega arith)
            ∙ get_or-set_same counted (8 + i) most 0 (omega (arith, lengths.0))
            ∙ is
            ∙ ap₂ max are.is_first are.is_second
            ∙ few_largest members are.few;
        member = λ j b m. member_of members are j m;
        others = λ k u v b. in_front k b ∙ get_or-set_other counted (8 + i) k most 0 v ∙ get_or-set_other f (4 + i) k many 0 u;
      }

-- ---- for readers of the words

-- the members of a list that is kept whole, as the part of the words where they stand
pub members_held : {fields : List ℕ} {n l : ℕ} {vs : List Value} → Held fields n l vs → 136 ≤ length fields → (i : ℕ) → i < l → length (list_at_of i vs) ≤ 31
    → take (length (list_at_of i vs)) (drop (12 + i * 31) fields) ≡ list_at_of i vs
members_held {fields} {n} {l} {vs} h wide i g few =
    ext_get_or 0 _ _ size
    (λ j k.
    let m : j < length (list_at_of i vs) = omega (arith, size) in
    get_or-take (length (list_at_of i vs)) (drop (12 + i * 31) fields) j 0 m ∙ get_or-drop (12 + i * 31) fields j 0 ∙ h.member i j g (omega arith) m)
  where
    size : length (take (length (list_at_of i vs)) (drop (12 + i * 31) fields)) ≡ length (list_at_of i vs)
    size =
        let t = length-take (length (list_at_of i vs)) (drop (12 + i * 31) fields) in
        let d = length-drop (12 + i * 31) fields in
        let u = h.few_lists in
        omega arith

-- a list of which all members are kept
pub list_held : {words : List ℕ} {n l : ℕ} {vs : List Value} → Held words n l vs → Whole words → (i : ℕ) → i < l → AllKept words i → held_list words i ≡ list_at_of i vs
list_held {words} {n} {l} {vs} h wide i g few =
    let e = h.count i g in
    ap (λ (k : ℕ). take k (members_on words i)) e ∙ members_held h wide i g (omega arith)
