-- The first members of a list that is known to stand at a place. Laws. Assumes nothing.
use Rattle.std.specs.Prelude.{ℕ, suc, ◌+◌, ◌-◌, ◌≤◌, ◌<◌, ◌≡◌, refl, Bool, true, false, ltb, length, get_or, take, drop}
use Rattle.std.proofs.Common.{arith, sym, ◌∙◌, ltb-true, ltb-false, length-drop}
use Rattle.std.proofs.Math.Path.{ap}
use mathlib.Core.List.{List, [], ◌∷◌}
use Rattle.std.proofs.Math.Option.{Option, none, some}
use Rattle.text.specs.Bytes.{comma, until, split}
use Rattle.text.specs.Number.{number_of}
use Rattle.text.specs.List.{with_first, pieces_of, list_Q}
use Rattle.text.proofs.Laws.Values.{none_some}
use Rattle.text.proofs.Laws.Pieces.{until_le, piece_more, piece_last}
use Rattle.gate_text.specs.declared.Operands.{Operands}
use Rattle.numbers.specs.declared.known.Digits.{Digits}
use Rattle.gate_text.specs.Gate.{ListThere, OperandsRead}
use Rattle.gate_text.specs.Laws.Digits.{piece, NumberThere, NumberRead}

-- a list that was read has a first member
pub record First (o : Option ℕ) (p : Option (List ℕ)) (qs : List ℕ) : Type 0 where
  pub first : ℕ
  pub rest : List ℕ
  pub is : o ≡ some first
  pub rest_is : p ≡ some rest
  pub all : qs ≡ first ∷ rest

first_of : (o : Option ℕ) (p : Option (List ℕ)) (qs : List ℕ) → with_first o p ≡ some qs → First o p qs
unfolding with_first
first_of none p qs e = absurd (none_some e)
first_of (some n) none qs e = absurd (none_some e)
first_of (some n) (some ns) qs e = record { first = n; rest = ns; is = refl; rest_is = refl; all = cc }

module _ (line : List ℕ) (from : ℕ) (within : from ≤ length line) {qs : List ℕ} (reads : list_Q (drop from line) ≡ some qs) where
  module _ (e : ℕ) (found : e ≡ from + until comma (drop from line)) where
    -- the bytes up to the place behind the first member
    same_piece : take (e - from) (drop from line) ≡ piece comma (drop from line)
    same_piece = let u : e - from ≡ until comma (drop from line) = omega arith in rw u

    list_more : e < length line → First (number_of (piece comma (drop from line))) (list_Q (drop (e + 1) line)) qs
    unfolding list_Q pieces_of
    list_more h =
        first_of _ _ qs
        (ap (λ (p : List ℕ). with_first (number_of p) (pieces_of number_of (split comma (drop (e + 1) line)))) (sym same_piece)
        ∙ ap (pieces_of number_of) (sym (piece_more comma line from e within found ([] ∷ []) h))
        ∙ reads)

    list_alone : e ≡ length line → First (number_of (piece comma (drop from line))) (some []) qs
    unfolding list_Q pieces_of
    list_alone h =
        first_of _ _ qs
        (ap (λ (p : List ℕ). with_first (number_of p) (some [])) (sym same_piece) ∙ ap (pieces_of number_of) (sym (piece_last comma line from e within found h)) ∙ reads)

  -- either way there is a first member
  some_first : (p : Option (List ℕ)) × First (number_of (piece comma (drop from line))) p qs
  some_first = go (ltb (from + until comma (drop from line)) (length line)) refl
    where
      go : (b : Bool) → ltb (from + until comma (drop from line)) (length line) ≡ b → (p : Option (List ℕ)) × First (number_of (piece comma (drop from line))) p qs
      go true e = (list_Q (drop (from + until comma (drop from line) + 1) line), list_more _ refl (ltb-true _ _ e))
      go false e = (some [], list_alone _ refl (omega (arith, ltb-false (from + until comma (drop from line)) (length line) e, until_le comma (drop from line), length-drop from line)))

  pub first_member : number_of (piece comma (drop from line)) ≡ some (get_or qs 0 0)
  first_member = let f = some_first.1 in f.is ∙ ap (λ (l : List ℕ). some (get_or l 0 0)) (sym f.all)

  list_filled : 1 ≤ length qs
  list_filled = let e : length qs ≡ suc (length some_first.1.rest) = ap length some_first.1.all in omega arith

some_same : {A : Type 0} {a b : A} → some a ≡ some b → a ≡ b
some_same e = cc

-- a list of one, and its number
module _ {line : List ℕ} {from : ℕ} (t : ListThere line from) {n : Digits} (read : NumberRead line from comma n) where
  pub number_first : (qs : List ℕ) → list_Q (drop from line) ≡ some qs → n.value ≡ get_or qs 0 0
  number_first qs e = some_same (sym read.is ∙ first_member line from t.within e)

  -- no second member
  pub operands_one : n.behind ≡ length line → (r : Operands) → r.first.0 ≡ n.value → r.second.0 ≡ 0 → r.count ≡ 1 → OperandsRead line from r
  operands_one last r a b c =
      record {
        first = λ qs e. a ∙ number_first qs e;
        second = λ qs e. let f = list_alone line from t.within e n.behind read.behind last in b ∙ ap (λ (l : List ℕ). get_or l 0 0) (some_same f.rest_is) ∙ ap (λ (l : List ℕ). get_or l 1 0) (sym f.all);
        count = λ qs e few.
            let f = list_alone line from t.within e n.behind read.behind last in
            c ∙ ap (λ (l : List ℕ). suc (length l)) (some_same f.rest_is) ∙ ap length (sym f.all);
      }

  module _ (more : n.behind < length line) where
    -- the second member stands behind the comma
    pub list_behind : ListThere line (n.behind + 1)
    list_behind =
        let f = list_more line from t.within t.is n.behind read.behind more in
        record { within = omega arith; members = f.rest; is = f.rest_is }

    pub operands_two : {m : Digits} → NumberRead line (n.behind + 1) comma m → (r : Operands) → r.first.0 ≡ n.value → r.second.0 ≡ m.value
        → r.count ≡ 2
        → OperandsRead line from r
    operands_two {m} second r a b c =
        record {
          first = λ qs e. a ∙ number_first qs e;
          second = λ qs e.
              let f = list_more line from t.within e n.behind read.behind more in
              b ∙ some_same (sym second.is ∙ first_member line (n.behind + 1) (omega arith) f.rest_is) ∙ ap (λ (l : List ℕ). get_or l 1 0) (sym f.all);
          count = λ qs e few.
              let f = list_more line from t.within e n.behind read.behind more in
              let all : length qs ≡ suc (length f.rest) = ap length f.all in
              let behind = list_filled line (n.behind + 1) (omega arith) f.rest_is in
              omega arith;
        }

pub first_there : {line : List ℕ} {from : ℕ} → ListThere line from → NumberThere line from comma
first_there {line} {from} t = record { within = t.within; value = get_or t.members 0 0; is = first_member line from t.within t.is }
