-- What stands where in a line with the form of a gate line. Laws. Assumes nothing.
use Rattle.std.specs.Prelude.{ℕ, suc, ◌+◌, ◌≤◌, ◌<◌, ◌≡◌, refl, Bool, true, false, ◌&&◌, not, List, [], ◌∷◌, ◌++◌, eqb, ltb, length, get_or, drop}
use Rattle.std.proofs.Common.{arith, sym, ap, ◌∙◌, ltb-true, ltb-false, eqb-true, length-drop, drop-drop}
use Rattle.std.proofs.Math.Option.{Option, none, some}
use Rattle.std.proofs.lemmas.Bool.{not-true, eqb-false}
use Rattle.std.proofs.Math.Seq.{take-length}
use Rattle.text.specs.Bytes.{bytes, space, until}
use Rattle.text.specs.Number.{number_of}
use Rattle.text.specs.List.{list_Q}
use Rattle.text.specs.Template.{Value, number, list, a_number, a_list, is_letter_of, value_of, and_then, at_end, values_of, numbers_in, lists_in, number_at, list_at_of}
use Rattle.text.proofs.Laws.Values.{both, none_some}
use Rattle.text.proofs.Laws.Pieces.{until_le}
use Rattle.template.specs.Laws.Reading.{byte_over, byte_other, byte_same}
use Rattle.numbers.specs.declared.known.Digits.{Digits}
use Rattle.gate_text.specs.declared.Operands.{Operands}
use Rattle.gate_text.specs.declared.Gate.{Gate}
use Rattle.gate_text.specs.Laws.Digits.{piece, NumberThere, NumberRead}
use Rattle.gate_text.specs.Gate.{ListThere, OperandsRead, gate_template, GateLine, GateRead}

-- ---- bytes that stand for themselves

module _ (t : ℕ) (plain : is_letter_of t ≡ false) (ts line : List ℕ) (at : ℕ) (vs : List Value) (reads : values_of (t ∷ ts) (drop at line) ≡ some vs) where
  pub byte_on : (at < length line) × (values_of ts (drop (at + 1) line) ≡ some vs)
  byte_on = go (ltb at (length line)) refl (eqb (get_or line at 0) t) refl
    where
      go : (a : Bool) → ltb at (length line) ≡ a → (b : Bool) → eqb (get_or line at 0) t ≡ b → (at < length line) × (values_of ts (drop (at + 1) line) ≡ some vs)
      go false e b q = absurd (none_some (sym (byte_over t plain ts line at (ltb-false at (length line) e)) ∙ reads))
      go true e false q = absurd (none_some (sym (byte_other t plain ts line at (ltb-true at (length line) e) (eqb-false _ _ q)) ∙ reads))
      go true e true q = (ltb-true at (length line) e, sym (byte_same t plain ts line at (ltb-true at (length line) e) (eqb-true _ _ q)) ∙ reads)

-- no letter for a value
unfoldable pub all_plain : List ℕ → Bool
all_plain [] = true
all_plain (t ∷ ts) = not (is_letter_of t) && all_plain ts

pub plain_on : (s ts line : List ℕ) (at : ℕ) (vs : List Value) → all_plain s ≡ true → at ≤ length line → values_of (s ++ ts) (drop at line) ≡ some vs
    → (at + length s ≤ length line) × (values_of ts (drop (at + length s) line) ≡ some vs)
unfolding all_plain
plain_on [] ts line at vs e h reads = let same : at + 0 ≡ at = omega arith in (omega arith, rw same reads)
plain_on (t ∷ s) ts line at vs e h reads =
    let (plain, rest) = both (not (is_letter_of t)) (all_plain s) e in
    let (inside, on) = byte_on t (not-true _ plain) (s ++ ts) line at vs reads in
    let (within, to) = plain_on s ts line (at + 1) vs rest (omega arith) on in
    let same : at + suc (length s) ≡ at + 1 + length s = omega arith in
    (omega arith, rw same to)

-- ---- values

pub record FirstValue (o : Option Value) (p : Option (List Value)) (vs : List Value) : Type 0 where
  pub value : Value
  pub rest : List Value
  pub is : o ≡ some value
  pub rest_is : p ≡ some rest
  pub all : vs ≡ value ∷ rest

first_value : (o : Option Value) (p : Option (List Value)) (vs : List Value) → and_then o p ≡ some vs → FirstValue o p vs
unfolding and_then
first_value none p vs e = absurd (none_some e)
first_value (some v) none vs e = absurd (none_some e)
first_value (some v) (some ws) vs e = record { value = v; rest = ws; is = refl; rest_is = refl; all = cc }

pub letter_on : (t : ℕ) (ts line : List ℕ) (at : ℕ) (vs : List Value) → is_letter_of t ≡ true → values_of (t ∷ ts) (drop at line) ≡ some vs
    → FirstValue (value_of t (piece space (drop at line))) (values_of ts (drop (at + until space (drop at line)) line)) vs
unfolding values_of
letter_on t ts line at vs letter reads =
    let d : drop (at + until space (drop at line)) line ≡ drop (until space (drop at line)) (drop at line) = rw drop-drop in
    rw d (first_value _ _ vs (simp letter at reads))

pub number_value : (o : Option ℕ) (v : Value) → a_number o ≡ some v → (n : ℕ) × (o ≡ some n) × (v ≡ number n)
unfolding a_number
number_value none v e = absurd (none_some e)
number_value (some n) v e = (n, refl, cc)

pub list_value : (o : Option (List ℕ)) (v : Value) → a_list o ≡ some v → (l : List ℕ) × (o ≡ some l) × (v ≡ list l)
unfolding a_list
list_value none v e = absurd (none_some e)
list_value (some l) v e = (l, refl, cc)

-- the last value goes to the line's end
nothing_left : (l : List ℕ) (vs : List Value) → at_end l ≡ some vs → length l ≡ 0
unfolding at_end
nothing_left [] vs e = refl
nothing_left (b ∷ l) vs e = absurd (none_some e)

last_piece : (line : List ℕ) (at : ℕ) (vs : List Value) → at_end (drop (at + until space (drop at line)) line) ≡ some vs → piece space (drop at line) ≡ drop at line
last_piece line at vs e =
    let all : until space (drop at line) ≡ length (drop at line) =
    omega (arith, nothing_left _ vs e, length-drop (at + until space (drop at line)) line, length-drop at line, until_le space (drop at line)) in
    rw (all, take-length)

-- a number and a list
two_values : {vs us ws : List Value} {v w : Value} {n : ℕ} {qs : List ℕ} → vs ≡ v ∷ us → v ≡ number n → us ≡ w ∷ ws → w ≡ list qs
    → (n ≡ number_at 0 vs) × (qs ≡ list_at_of 0 vs)
unfolding numbers_in lists_in
two_values a b c d = (rw (a, b), rw (a, b, c, d))

-- and no other
all_values : {vs us ws : List Value} {v w : Value} {n : ℕ} {qs : List ℕ} → vs ≡ v ∷ us → v ≡ number n → us ≡ w ∷ ws → w ≡ list qs → ws ≡ []
    → vs ≡ number n ∷ list qs ∷ []
all_values a b c d e = rw (a, b, c, d, e)

pub end_values : (l : List ℕ) (vs : List Value) → at_end l ≡ some vs → vs ≡ []
unfolding at_end
end_values [] vs e = cc
end_values (b ∷ l) vs e = absurd (none_some e)

-- ---- the line

pub record Parts (line : List ℕ) (vs : List Value) : Type 0 where
  pub long : 7 ≤ length line
  pub code : number_of (piece space (drop 7 line)) ≡ some (number_at 0 vs)
  pub further : 7 + until space (drop 7 line) + 3 ≤ length line
  pub operands : list_Q (drop (7 + until space (drop 7 line) + 3) line) ≡ some (list_at_of 0 vs)
  pub all : vs ≡ number (number_at 0 vs) ∷ list (list_at_of 0 vs) ∷ []

pub parts : (line : List ℕ) (vs : List Value) → values_of gate_template line ≡ some vs → Parts line vs
unfolding gate_template bytes value_of values_of all_plain
parts line vs reads =
    let (long, from-code) = plain_on (bytes "op=u g=") (bytes "N q=Q") line 0 vs refl (omega arith) reads in
    let f = letter_on 78 (bytes " q=Q") line 7 vs refl from-code in
    let (n, is, v) = number_value _ _ f.is in
    let e : ℕ = 7 + until space (drop 7 line) in
    let (further, from-operands) = plain_on (bytes " q=") (bytes "Q") line e f.rest refl (omega (arith, until_le space (drop 7 line), length-drop 7 line)) f.rest_is in
    let g = letter_on 81 [] line (e + 3) f.rest refl from-operands in
    let (qs, members, w) = list_value _ _ g.is in
    let (first, second) = two_values f.all v g.all w in
    record {
      long = long;
      code = is ∙ ap some first;
      further = further;
      operands = ap list_Q (sym (last_piece line (e + 3) g.rest g.rest_is)) ∙ members ∙ ap some second;
      all = all_values f.all v g.all w (end_values _ g.rest g.rest_is) ∙ (λ i. number (first i) ∷ list (second i) ∷ []);
    }

-- ---- what the code says

some_same : {A : Type 0} {a b : A} → some a ≡ some b → a ≡ b
some_same e = cc

pub code_there : {line : List ℕ} → GateLine line → NumberThere line 7 space
code_there {line} t = let p = parts line t.values t.reads in record { within = p.long; value = number_at 0 t.values; is = p.code }

pub operands_there : {line : List ℕ} → GateLine line → {n : Digits} → NumberRead line 7 space n → ListThere line (n.behind + 3)
operands_there {line} t read =
    let p = parts line t.values t.reads in
    record { within = omega (arith, p.further, read.behind); members = list_at_of 0 t.values; is = rw read.behind p.operands }

pub gate_read : {line : List ℕ} {n : Digits} {q : Operands} → NumberRead line 7 space n → OperandsRead line (n.behind + 3) q
    → (r : Gate) → r.code ≡ n.value → r.first.0 ≡ q.first.0 → r.second.0 ≡ q.second.0 → r.count ≡ q.count → GateRead line r
gate_read {line} {n} {q} code operands r a b c d =
    let list_is : (vs : List Value) → values_of gate_template line ≡ some vs → list_Q (drop (n.behind + 3) line) ≡ some (list_at_of 0 vs)
    = λ vs e. rw code.behind (parts line vs e).operands in
    record {
      code = λ vs e. a ∙ some_same (sym code.is ∙ (parts line vs e).code);
      first = λ vs e. b ∙ operands.first (list_at_of 0 vs) (list_is vs e);
      second = λ vs e. c ∙ operands.second (list_at_of 0 vs) (list_is vs e);
      count = λ vs e few. d ∙ operands.count (list_at_of 0 vs) (list_is vs e) few;
    }
