-- Lists read member by member: what the struct and the lent words hold after one member more. Laws. Assumes nothing.
use Rattle.std.specs.Prelude.{ℕ, zero, suc, ◌+◌, ◌-◌, ◌≤◌, ◌<◌, max, Bool, ◌&&◌, ◌||◌, ◌≡◌, eqb, length, get_or, take, drop, set, Some, None}
use Rattle.std.proofs.Common.{arith, ◌∙◌, length-append}
use Rattle.std.proofs.Math.Bool.{true, false, and-true}
use Rattle.std.proofs.Math.Path.{refl, sym, ap}
use mathlib.Core.List.{List, [], ◌∷◌, ◌++◌, append_assoc}
use Rattle.std.proofs.Math.Option.{Option, none, some}
use borrow.Author.Tests.{ltb-true, ltb-false, ne_eqb}
use Rattle.std.proofs.Math.Dec.{ltb, eqb-suc-zero}
use Rattle.numbers.specs.declared.lists.Listed.{Listed}
use Rattle.text.specs.Bytes.{comma, until, split}
use Rattle.text.specs.Number.{number_of}
use Rattle.text.specs.List.{with_first, pieces_of, list_Q, rises_from, is_rising_of, only_rising, is_dash_of, list_L, one_member, list_C}
use Rattle.numbers.specs.Read.{largest_of, listed_of, listed_as, stored, ListRead, in_front}
use Rattle.text.proofs.Laws.Pieces.{piece_more, piece_last}

-- ---- one member more

pub largest_snoc : (l : List ℕ) (n : ℕ) → largest_of (l ++ n ∷ []) ≡ max (largest_of l) n
unfolding largest_of
largest_snoc [] n = omega arith
largest_snoc (b ∷ l) n = let ih = largest_snoc l n in omega arith

rises_snoc : (a : ℕ) (l : List ℕ) (n : ℕ) → rises_from a (l ++ n ∷ []) ≡ (rises_from a l && ltb (max a (largest_of l)) n)
unfolding rises_from largest_of
rises_snoc a [] n = let m : max a 0 ≡ a = omega arith in rw m (and-true (ltb a n))
rises_snoc a (b ∷ l) n = rw (rises_snoc b l n) (go (ltb a b) refl)
  where
    go : (t : Bool) → ltb a b ≡ t
        → (t && (rises_from b l && ltb (max b (largest_of l)) n)) ≡ (t && rises_from b l && ltb (max a (max b (largest_of l))) n)
    go true e = let h = ltb-true a b e in let m : max a (max b (largest_of l)) ≡ max b (largest_of l) = omega arith in rw m
    go false e = refl

-- a rising list's largest member is its last
pub rising_snoc : (l : List ℕ) (n : ℕ) → is_rising_of (l ++ n ∷ []) ≡ (is_rising_of l && (eqb (length l) 0 || ltb (largest_of l) n))
unfolding is_rising_of rises_from largest_of
rising_snoc [] n = refl
rising_snoc (a ∷ l) n = rw eqb-suc-zero (rises_snoc a l n)

-- where there are members and they rise, the next one has to be larger
pub rises_on : (b t : Bool) (count : ℕ) → b ≡ true → (count ≡ 0 → ⊥) → t ≡ (b && (eqb count 0 || t))
rises_on b t count e h = simp (e, ne_eqb count 0 h)

module _ (l : List ℕ) (n : ℕ) where
  -- the struct of a list with one member more
  pub listed_snoc : (r : Listed) → r.count ≡ length l + 1 → r.largest ≡ max (largest_of l) n
      → r.rising ≡ (is_rising_of l && (eqb (length l) 0 || ltb (largest_of l) n)) → r ≡ listed_of (l ++ n ∷ [])
  unfolding listed_of
  listed_snoc r e₂ e₃ e₄ i =
      record {
        count = (e₂ ∙ sym (length-append l (n ∷ []))) i;
        largest = (e₃ ∙ sym (largest_snoc l n)) i;
        rising = (e₄ ∙ sym (rising_snoc l n)) i;
      }

-- what the struct says of its list
pub listed_count : (l : List ℕ) {r : Listed} → r ≡ listed_of l → r.count ≡ length l
unfolding listed_of
listed_count l e = ap (λ (x : Listed). x.count) e

pub listed_largest : (l : List ℕ) {r : Listed} → r ≡ listed_of l → r.largest ≡ largest_of l
unfolding listed_of
listed_largest l e = ap (λ (x : Listed). x.largest) e

pub listed_rising : (l : List ℕ) {r : Listed} → r ≡ listed_of l → r.rising ≡ is_rising_of l
unfolding listed_of
listed_rising l e = ap (λ (x : Listed). x.rising) e

pub stored_snoc : (out l : List ℕ) (n : ℕ) → set (stored out l) (length l) n ≡ stored out (l ++ n ∷ [])
unfolding stored
stored_snoc [] [] n = refl
stored_snoc [] (m ∷ l) n = refl
stored_snoc (w ∷ out) [] n = refl
stored_snoc (w ∷ out) (m ∷ l) n = ap (m ∷◌) (stored_snoc out l n)

pub stored_length : (out l : List ℕ) → length (stored out l) ≡ length out
unfolding stored
stored_length [] [] = refl
stored_length [] (m ∷ l) = refl
stored_length (w ∷ out) [] = refl
stored_length (w ∷ out) (m ∷ l) = rw (stored_length out l)

-- a member that there was room for
pub stored_at : (out l : List ℕ) (j : ℕ) → j < length l → j < length out → get_or (stored out l) j 0 ≡ get_or l j 0
unfolding stored
stored_at out [] j h k = absurd (omega arith)
stored_at [] (m ∷ l) j h k = absurd (omega arith)
stored_at (w ∷ out) (m ∷ l) zero h k = refl
stored_at (w ∷ out) (m ∷ l) (suc j) h k = stored_at out l j (omega arith) (omega arith)

-- ---- pieces, from the first to the last

front_none : (d : List ℕ) (o : Option (List ℕ)) → in_front d (with_first none o) ≡ none
unfolding in_front with_first
front_none d o = refl

front_first : (d : List ℕ) (n : ℕ) (o : Option (List ℕ)) → in_front d (with_first (some n) o) ≡ in_front (d ++ n ∷ []) o
unfolding in_front with_first
front_first d n none = refl
front_first d n (some l) = ap some (sym (append_assoc d (n ∷ []) l))

-- the members `done` of the list `s`, by a reader of one, were read up to `at`: they are what the struct and the lent words hold
pub record SoFar (one : List ℕ → Option ℕ) (s before : List ℕ) (r : Listed) (at : ℕ) (out : List ℕ) : Type 0 where
  pub done : List ℕ
  pub few : length done ≤ at
  pub reads : pieces_of one (split comma s) ≡ in_front done (pieces_of one (split comma (drop at s)))
  pub result : r ≡ listed_of done
  pub members : out ≡ stored before done

pub pieces_start : {one : List ℕ → Option ℕ} {s out : List ℕ} {r : Listed} → r ≡ listed_of [] → SoFar one s out r 0 out
pieces_start {one} {s} e =
    record {
      done = [];
      few = omega arith;
      reads = go (pieces_of one (split comma s));
      result = e;
      members = unfold stored in refl;
    }
  where
    go : (o : Option (List ℕ)) → o ≡ in_front [] o
    go none = unfold in_front in refl
    go (some l) = unfold in_front in refl

-- how many members there are, by the struct
pub so_count : {one : List ℕ → Option ℕ} {s before : List ℕ} {r : Listed} {at : ℕ} {out : List ℕ} (f : SoFar one s before r at out) → r.count ≡ length f.done
so_count f = listed_count f.done f.result

-- the piece from `at` to `e`
module _ {one : List ℕ → Option ℕ} {s before : List ℕ} {r : Listed} {at : ℕ} {out : List ℕ} (f : SoFar one s before r at out) (e : ℕ)
    (here : at ≤ length s) (found : e ≡ at + until comma (drop at s)) (within : e ≤ length s) where
  pub pieces_bad : one (take (e - at) (drop at s)) ≡ none → pieces_of one (split comma s) ≡ none
  unfolding pieces_of
  pieces_bad v = f.reads ∙ go (ltb e (length s)) refl
    where
      go : (t : Bool) → ltb e (length s) ≡ t → in_front f.done (pieces_of one (split comma (drop at s))) ≡ none
      go true h = rw (piece_more comma s at e here found ([] ∷ []) (ltb-true _ _ h), v) (front_none _ _)
      go false h = rw (piece_last comma s at e here found (omega (arith, ltb-false e (length s) h)), v) (front_none _ _)

  module _ {n : ℕ} (v : one (take (e - at) (drop at s)) ≡ some n) {q : Listed} (pushed : q ≡ listed_of (f.done ++ n ∷ []))
      {out' : List ℕ} (put : out' ≡ set out r.count n) where
    members_more : out' ≡ stored before (f.done ++ n ∷ [])
    members_more = put ∙ rw (so_count f, f.members) (stored_snoc before f.done n)

    pub pieces_more : e < length s → SoFar one s before q (e + 1) out'
    pieces_more h =
        record {
          done = f.done ++ n ∷ [];
          few = omega (arith, f.few, length-append f.done (n ∷ []));
          reads = f.reads ∙ unfold pieces_of in rw (piece_more comma s at e here found ([] ∷ []) h, v) (front_first f.done n _);
          result = pushed;
          members = members_more;
        }

    pub pieces_last : e ≡ length s → ListRead (pieces_of one (split comma s)) (Some q) before out'
    pieces_last h =
        let all : pieces_of one (split comma s) ≡ some (f.done ++ n ∷ []) = f.reads ∙ unfold pieces_of in_front with_first in rw (piece_last comma s at e here found h, v) in
        record {
          result = rw (pushed, all) (unfold listed_as in refl);
          members = λ l e. let same : f.done ++ n ∷ [] ≡ l = cc in members_more ∙ rw same;
        }

pub none_read : {o : Option (List ℕ)} {before after : List ℕ} → o ≡ none → ListRead o None before after
none_read e =
    record {
      result = rw e (unfold listed_as in refl);
      members = λ l k. let z : ◌≡◌ {A = ℕ} 0 1 = cc in absurd (omega arith);
    }

-- no member leaves the lent words as they were
pub empty_read : {o : Option (List ℕ)} {r : Listed} {out : List ℕ} → o ≡ some [] → r ≡ listed_of [] → ListRead o (Some r) out out
empty_read e h =
    record {
      result = rw (h, e) (unfold listed_as in refl);
      members = λ l k. let same : ◌≡◌ {A = List ℕ} [] l = cc in rw (← same) (unfold stored in refl);
    }

-- ---- L, from Q

pub l_dash : (v : List ℕ) → is_dash_of v ≡ true → list_L v ≡ some []
unfolding list_L
l_dash v e = simp e

pub l_list : (v : List ℕ) → is_dash_of v ≡ false → list_L v ≡ only_rising (list_Q v)
unfolding list_L
l_list v e = simp e

-- whether there is a list, by the struct
pub listed_bad : (o : Option (List ℕ)) → None ≡ listed_as o → o ≡ none
unfolding listed_as
listed_bad none e = refl
listed_bad (some l) e = cc

pub listed_good : (o : Option (List ℕ)) {r : Listed} → Some r ≡ listed_as o → (l : List ℕ) × (o ≡ some l) × (r ≡ listed_of l)
unfolding listed_as
listed_good none e = cc
listed_good (some l) e = (l, refl, (cc))

-- of a list that is known
pub listed_is : {l : List ℕ} {o : Option (List ℕ)} {r : Listed} → o ≡ some l → Some r ≡ listed_as o → r ≡ listed_of l
unfolding listed_as
listed_is h e = cc

module _ {before after : List ℕ} where
  pub only_bad : (o : Option (List ℕ)) → ListRead o None before after → only_rising o ≡ none
  unfolding only_rising
  only_bad o f = rw (listed_bad o f.result)

  module _ {r : Listed} where
    pub only_rising_lem : (o : Option (List ℕ)) → ListRead o (Some r) before after → r.rising ≡ true → ListRead (only_rising o) (Some r) before after
    unfolding only_rising
    only_rising_lem none f e = f
    only_rising_lem (some l) f e = rw (sym (listed_rising l (listed_is refl f.result)) ∙ e) f

    pub only_falling : (o : Option (List ℕ)) → ListRead o (Some r) before after → r.rising ≡ false → only_rising o ≡ none
    unfolding only_rising
    only_falling none f e = refl
    only_falling (some l) f e = rw (sym (listed_rising l (listed_is refl f.result)) ∙ e)

-- ---- C

pub c_dash : (v : List ℕ) → is_dash_of v ≡ true → list_C v ≡ some []
unfolding list_C
c_dash v e = simp e

pub c_number : (v : List ℕ) (o : Option ℕ) → is_dash_of v ≡ false → number_of v ≡ o → list_C v ≡ one_member o
unfolding list_C
c_number v o e h = simp (e, h)

pub one_read : (v : List ℕ) {n : ℕ} {r : Listed} {before after : List ℕ} → is_dash_of v ≡ false → number_of v ≡ some n
    → r ≡ listed_of (n ∷ []) → after ≡ set before 0 n → ListRead (list_C v) (Some r) before after
unfolding one_member
one_read v {n} {r} {before} e h k p =
    let one : list_C v ≡ some (n ∷ []) = c_number v (some n) e h in
    record {
      result = rw (k, one) (unfold listed_as in refl);
      members = λ l q. let same : n ∷ [] ≡ l = cc in p ∙ rw (← same) (unfold stored in stored_snoc before [] n);
    }
