-- A controlled Pauli and an element line of an accepted job, read from their places. Laws. Assumes nothing.
use Rattle.std.specs.Prelude.{ℕ, ◌+◌, ◌≤◌, ◌≡◌, true, length, get_or, take, drop, set}
use Rattle.std.proofs.Common.{add-zero, arith, ◌∙◌, length-drop, length-take-le, get_or-drop}
use Rattle.std.proofs.Math.Path.{refl, sym, ap, subst}
use mathlib.Core.List.{List, [], ◌∷◌}
use Rattle.std.proofs.Math.Option.{some}
use Rattle.text.specs.Bytes.{bytes, space, until, pieces}
use Rattle.text.specs.Number.{number_of, all_hex_of, hex_from}
use Rattle.text.specs.List.{with_first, pieces_of, list_Q, only_rising, list_L}
use Rattle.text.specs.Template.{Value, number, list, value_of, values_of}
use Rattle.text.proofs.Laws.Pieces.{until_le}
use Rattle.text.proofs.Laws.Places.{literals}
use Rattle.numbers.specs.Known.{field, ListThere}
use Rattle.numbers.specs.Laws.Known.{hex_bytes}
use Rattle.template.specs.Values.{Whole}
use Rattle.template.specs.Fields.{Held, HasForm, KnownPut}
use Rattle.template.specs.Laws.Fields.{nothing_held, held_number, held_list_lem}
use Rattle.gate_text.specs.Laws.Gate.{all_plain, plain_on, letter_on, number_value, list_value, end_values}
use Rattle.line_reader.specs.Reading.{line_from_of}
use Rattle.job.specs.Grammar.{forms}
use Rattle.reader.specs.declared.Form.TheVariants as form
use Rattle.reader.specs.Parsed.{place_of, form_of, Parsed}
use Rattle.reader.specs.Tried.{only, pauli_part}
use Rattle.reader.specs.Laws.Sift.{sift, opens}
use Rattle.reader.specs.Laws.Tried.{says, by_bytes, one_form, by_values}
use Rattle.instructions.specs.Lines.{KnownLine, KnownAt}
use Rattle.known_lines.specs.Lists.{x_place, z_place, lists_end, ListsThere, ListsPut}
use Rattle.instructions.specs.Laws.Known.{known_here, first_byte, filled}

-- ---- the two lists of a Pauli

-- what stands where in `x=L z=L` or `u=L v=L`, which begins at a place, and what the rest of the template says of the bytes behind it
pub record Lists (line : List ℕ) (from : ℕ) (ts : List ℕ) (vs : List Value) : Type 0 where
  pub xs : List ℕ
  pub zs : List ℕ
  pub x_within : x_place from ≤ length line
  pub z_within : z_place line from ≤ length line
  pub end_within : lists_end line from ≤ length line
  pub x : list_L (field line (x_place from)) ≡ some xs
  pub z : list_L (field line (z_place line from)) ≡ some zs
  pub rest : List Value
  pub rest_is : values_of ts (drop (lists_end line from) line) ≡ some rest
  pub all : vs ≡ list xs ∷ list zs ∷ rest

two_lists : {vs us ws : List Value} {v w : Value} {xs zs : List ℕ} → vs ≡ v ∷ us → v ≡ list xs → us ≡ w ∷ ws → w ≡ list zs
    → vs ≡ list xs ∷ list zs ∷ ws
two_lists a b c d = rw (a, b, c, d)

-- by the letters of the two keys
lists : (k m : ℕ) (ts line : List ℕ) (from : ℕ) (vs : List Value) → all_plain (k ∷ 61 ∷ []) ≡ true → all_plain (32 ∷ m ∷ 61 ∷ []) ≡ true
    → from ≤ length line → values_of (k ∷ 61 ∷ 76 ∷ 32 ∷ m ∷ 61 ∷ 76 ∷ ts) (drop from line) ≡ some vs → Lists line from ts vs
unfolding value_of
lists k m ts line from vs plain-x plain-z here reads =
    let (x_within, from-x) = plain_on (k ∷ 61 ∷ []) (76 ∷ 32 ∷ m ∷ 61 ∷ 76 ∷ ts) line from vs plain-x here reads in
    let f = letter_on 76 (32 ∷ m ∷ 61 ∷ 76 ∷ ts) line (from + 2) vs refl from-x in
    let (xs, x, v) = list_value _ _ f.is in
    let e : ℕ = from + 2 + until space (drop (from + 2) line) in
    let within : e ≤ length line = omega (arith, until_le space (drop (from + 2) line), length-drop (from + 2) line) in
    let (z_within, from-z) = plain_on (32 ∷ m ∷ 61 ∷ []) (76 ∷ ts) line e f.rest plain-z within f.rest_is in
    let g = letter_on 76 ts line (e + 3) f.rest refl from-z in
    let (zs, z, w) = list_value _ _ g.is in
    record {
      xs = xs;
      zs = zs;
      x_within = x_within;
      z_within = z_within;
      end_within = omega (arith, z_within, until_le space (drop (e + 3) line), length-drop (e + 3) line);
      x = x;
      z = z;
      rest = g.rest;
      rest_is = g.rest_is;
      all = two_lists f.all v g.all w;
    }

-- those of an element, which goes to the line's end
last_lists : (line : List ℕ) (from : ℕ) (vs : List Value) → from ≤ length line → values_of pauli_part (drop from line) ≡ some vs
    → Lists line from [] vs
unfolding pauli_part bytes all_plain
last_lists line from vs here reads = lists 120 122 [] line from vs refl refl here reads

all_lists : {line : List ℕ} {from : ℕ} {vs : List Value} (l : Lists line from [] vs) → vs ≡ list l.xs ∷ list l.zs ∷ []
unfolding values_of
all_lists l = l.all ∙ ap (λ (ws : List Value). list l.xs ∷ list l.zs ∷ ws) (end_values _ l.rest l.rest_is)

pub lists_there : {line : List ℕ} {from : ℕ} {ts : List ℕ} {vs : List Value} → Lists line from ts vs → ListsThere line from
lists_there l =
    record {
      x = record { within = l.x_within; members = l.xs; is = l.x };
      z = record { within = l.z_within; members = l.zs; is = l.z };
    }

-- `x=- z=-` is the shortest
lists_long : {line : List ℕ} {from : ℕ} {ts : List ℕ} {vs : List Value} → Lists line from ts vs → from + 7 ≤ length line
unfolding list_L only_rising list_Q pieces_of with_first number_of pieces
lists_long {line} {from} l =
    let x = filled list_L (drop (x_place from) line) (until space (drop (x_place from) line)) refl l.x in
    let z = filled list_L (drop (z_place line from) line) (until space (drop (z_place line from) line)) refl l.z in
    omega (arith, x, z, l.z_within, until_le space (drop (z_place line from) line), length-drop (z_place line from) line)

-- the second stands where the first one's end says, and both were put
module _ {line : List ℕ} {from slot e : ℕ} {before between : List ℕ} (x : KnownPut line (x_place from) slot e before between) where
  pub second_there : ListsThere line from → ListThere line (e + 3)
  second_there t = subst (λ (k : ℕ). ListThere line (k + 3)) (sym x.behind) t.z

  pub lists_put : {r : ℕ} {after : List ℕ} → KnownPut line (e + 3) (slot + 1) r between after → ListsPut line from slot r before after
  lists_put {r} {after} z =
      let second : KnownPut line (z_place line from) (slot + 1) r between after =
      subst (λ (k : ℕ). KnownPut line (k + 3) (slot + 1) r between after) x.behind z in
      record { between = between; x = x.put; z = second.put; behind = second.behind }

-- ---- a controlled Pauli

module _ {text : List ℕ} (k : KnownLine text) (there : (get_or text 0 0 ≡ 111) × (get_or text 3 0 ≡ 107)) where
  controlled_values : (vs : List Value) × (values_of (form_of form.Controlled).template text ≡ some vs)
      × ((form_of form.Controlled).says vs ≡ some k.written)
  unfolding forms place_of bytes sift opens literals
  controlled_values =
      by_values (form_of form.Controlled) text k.written (sym (one_form text 111 107 form.Controlled refl there.0 there.1) ∙ k.reads)

  control : Lists text 5 (bytes " u=L v=L") controlled_values.0
  unfolding forms place_of bytes all_plain
  control =
      let vs = controlled_values.0 in
      let (inside, on) = plain_on (bytes "op=k ") (bytes "x=L z=L u=L v=L") text 0 vs refl (omega arith) controlled_values.1 in
      lists 120 122 (bytes " u=L v=L") text 5 vs refl refl inside on

  target : Lists text (lists_end text 5 + 1) [] control.rest
  unfolding bytes all_plain
  target =
      let c = control in
      let (inside, on) = plain_on (bytes " ") (bytes "u=L v=L") text (lists_end text 5) c.rest refl c.end_within c.rest_is in
      lists 117 118 [] text (lists_end text 5 + 1) c.rest refl refl inside on

  -- the target stands where the end of the control says
  pub control_there : ListsThere text 5
  control_there = lists_there control

  pub target_there : {r : ℕ} → r ≡ lists_end text 5 → ListsThere text (r + 1)
  target_there e = subst (λ (i : ℕ). ListsThere text (i + 1)) (sym e) (lists_there target)

  pub controlled_parsed : (before : List ℕ) {between after : List ℕ} {r e : ℕ} → ListsPut text 5 0 r before between
      → ListsPut text (r + 1) 2 e between after → Parsed text form.Controlled after
  unfolding forms place_of bytes sift opens literals
  controlled_parsed before {between} {after} {r} {e} first behind =
      let second : ListsPut text (lists_end text 5 + 1) 2 e between after =
      subst (λ (i : ℕ). ListsPut text (i + 1) 2 e between after) first.behind behind in
      let c = control in
      let t = target in
      let one = held_list_lem (nothing_held before) (omega arith) (first.x c.xs c.x) in
      let two = held_list_lem one (omega arith) (first.z c.zs c.z) in
      let three = held_list_lem two (omega arith) (second.x t.xs t.x) in
      let four : Held after 0 4 (list c.xs ∷ list c.zs ∷ list t.xs ∷ list t.zs ∷ []) =
      held_list_lem three (omega arith) (second.z t.zs t.z) in
      let are : controlled_values.0 ≡ list c.xs ∷ list c.zs ∷ list t.xs ∷ list t.zs ∷ [] =
      c.all ∙ ap (λ (ws : List Value). list c.xs ∷ list c.zs ∷ ws) (all_lists t) in
      let formed : HasForm text (form_of form.Controlled).template after =
      record { values = controlled_values.0; reads = controlled_values.1; held = subst (Held after 0 4) (sym are) four } in
      by_bytes 111 107 there.0 there.1 (only form.Controlled) refl (says form.Controlled refl formed k.written controlled_values.2)

-- ---- an element line without a weight

module _ {text : List ℕ} (k : KnownLine text) (first : get_or text 0 0 ≡ 120) where
  pub element_values : (vs : List Value) × (values_of (form_of form.Element).template text ≡ some vs)
      × ((form_of form.Element).says vs ≡ some k.written)
  unfolding forms place_of bytes sift opens literals
  element_values = by_values (form_of form.Element) text k.written (sym (one_form text 120 _ form.Element refl first refl) ∙ k.reads)

  pub element_lists : Lists text 0 [] element_values.0
  unfolding forms place_of bytes pauli_part
  element_lists = last_lists text 0 element_values.0 (omega arith) element_values.1

  pub element_parsed : (before : List ℕ) {after : List ℕ} {r : ℕ} → ListsPut text 0 0 r before after → Parsed text form.Element after
  unfolding forms place_of bytes sift opens literals
  element_parsed before {after} {r} put =
      let l = element_lists in
      let one = held_list_lem (nothing_held before) (omega arith) (put.x l.xs l.x) in
      let both : Held after 0 2 (list l.xs ∷ list l.zs ∷ []) = held_list_lem one (omega arith) (put.z l.zs l.z) in
      let formed : HasForm text (form_of form.Element).template after =
      record { values = element_values.0; reads = element_values.1; held = subst (Held after 0 2) (sym (all_lists l)) both } in
      by_bytes 120 _ first refl (only form.Element) refl (says form.Element refl formed k.written element_values.2)

-- ---- an element line with a weight

-- what stands where in `w=H x=L z=L`
pub record Weighted (line : List ℕ) (vs : List Value) : Type 0 where
  pub weight : ℕ
  pub rest : List Value
  pub within : 19 ≤ length line
  pub digits : all_hex_of (take 16 (drop 2 line)) ≡ true
  pub is : hex_from 0 (take 16 (drop 2 line)) ≡ weight
  pub lists_of : Lists line 19 [] rest
  pub all : vs ≡ number weight ∷ rest

pub weight_long : {line : List ℕ} {vs : List Value} → Weighted line vs → length (take 16 (drop 2 line)) ≡ 16
weight_long {line} w = length-take-le 16 (drop 2 line) (omega (arith, w.within, length-drop 2 line))

pub weighted : (line : List ℕ) (vs : List Value) → values_of (bytes "w=H x=L z=L") line ≡ some vs → Weighted line vs
unfolding pauli_part bytes value_of values_of all_plain
weighted line vs reads =
    let (long, from-w) = plain_on (bytes "w=") (bytes "H x=L z=L") line 0 vs refl (omega arith) reads in
    let f = letter_on 72 (bytes " x=L z=L") line 2 vs refl from-w in
    let (n, is, v) = number_value _ _ f.is in
    let (size, digits, value) = hex_bytes _ n is in
    let wide : until space (drop 2 line) ≡ 16 =
    sym (length-take-le (until space (drop 2 line)) (drop 2 line) (until_le space (drop 2 line))) ∙ size in
    let behind : values_of (bytes " x=L z=L") (drop 18 line) ≡ some f.rest =
    subst (λ (i : ℕ). values_of (bytes " x=L z=L") (drop (2 + i) line) ≡ some f.rest) wide f.rest_is in
    let here : 18 ≤ length line = omega (arith, until_le space (drop 2 line), length-drop 2 line) in
    let (within, from-lists) = plain_on (bytes " ") (bytes "x=L z=L") line 18 f.rest refl here behind in
    record {
      weight = n;
      rest = f.rest;
      within = within;
      digits = subst (λ (i : ℕ). all_hex_of (take i (drop 2 line)) ≡ true) wide digits;
      is = subst (λ (i : ℕ). hex_from 0 (take i (drop 2 line)) ≡ n) wide value;
      lists_of = last_lists line 19 f.rest within from-lists;
      all = f.all ∙ ap (λ (w : Value). w ∷ f.rest) v;
    }

module _ {text : List ℕ} (k : KnownLine text) (first : get_or text 0 0 ≡ 119) where
  pub weighted_values : (vs : List Value) × (values_of (form_of form.WeightedElement).template text ≡ some vs)
      × ((form_of form.WeightedElement).says vs ≡ some k.written)
  unfolding forms place_of bytes sift opens literals
  weighted_values =
      by_values (form_of form.WeightedElement) text k.written (sym (one_form text 119 _ form.WeightedElement refl first refl) ∙ k.reads)

  pub weighted_parts : Weighted text weighted_values.0
  unfolding forms place_of bytes
  weighted_parts = weighted text weighted_values.0 weighted_values.1

  pub weighted_parsed : (before : List ℕ) {marked after : List ℕ} {r : ℕ} → Whole before → marked ≡ set before 0 (hex_from 0 (take 16 (drop 2 text)))
      → ListsPut text 19 0 r marked after → Parsed text form.WeightedElement after
  unfolding forms place_of bytes sift opens literals
  weighted_parsed before {marked} {after} {r} wide is-marked put =
      let p = weighted_parts in
      let l = p.lists_of in
      let weight : Held marked 1 0 (number p.weight ∷ []) =
      subst (λ (ws : List ℕ). Held ws 1 0 (number p.weight ∷ [])) (sym (is-marked ∙ ap (set before 0) p.is))
      (held_number (nothing_held before) p.weight (omega arith) (omega arith)) in
      let one = held_list_lem weight (omega arith) (put.x l.xs l.x) in
      let both : Held after 1 2 (number p.weight ∷ list l.xs ∷ list l.zs ∷ []) = held_list_lem one (omega arith) (put.z l.zs l.z) in
      let are : number p.weight ∷ list l.xs ∷ list l.zs ∷ [] ≡ weighted_values.0 =
      sym (p.all ∙ ap (λ (ws : List Value). number p.weight ∷ ws) (all_lists l)) in
      let formed : HasForm text (form_of form.WeightedElement).template after =
      record { values = weighted_values.0; reads = weighted_values.1; held = subst (Held after 1 2) are both } in
      by_bytes 119 _ first refl (only form.WeightedElement) refl (says form.WeightedElement refl formed k.written weighted_values.2)

-- ---- how long an element line is at least

module _ {job : List ℕ} {at : ℕ} (k : KnownAt job at) where
  at_first : get_or (line_from_of job at) 0 0 ≡ get_or job at 0
  at_first = first_byte k 0 (omega arith) ∙ get_or-drop at job 0 0 ∙ ap (λ (i : ℕ). get_or job i 0) (add-zero at)

  pub element_long : get_or job at 0 ≡ 120 → 7 ≤ length (line_from_of job at)
  element_long e = lists_long (element_lists (known_here k) (at_first ∙ e))

  pub weighted_long : get_or job at 0 ≡ 119 → 26 ≤ length (line_from_of job at)
  weighted_long e = lists_long (weighted_parts (known_here k) (at_first ∙ e)).lists_of
