-- The line at a place of a job, as it is handed out, and a gate line of an accepted job, read from its places. Laws. Assumes nothing.
use Rattle.std.specs.Prelude.{ℕ, zero, suc, ◌+◌, ◌-◌, ◌≤◌, ◌<◌, ◌≡◌, Bool, true, false, ltb, get_or, drop, set}
use native.Mathlib.Omega.{arith}
use Rattle.std.proofs.Math.Path.{refl, sym, ap, subst}
use Rattle.std.proofs.Common.{◌∙◌, ltb-true, ltb-false, length-drop}
use mathlib.Core.List.{List, [], ◌∷◌}
use Rattle.std.proofs.Math.Option.{Option, none, some}
use Rattle.std.proofs.Math.ListN.{length, take}
use Rattle.std.proofs.Math.Seq.{get_or-take, take-length}
use Rattle.pauli.specs.Gate.{Gate, gate_of}
use Rattle.text.specs.Bytes.{bytes, LF, space, until, pieces}
use Rattle.text.specs.Number.{number_of}
use Rattle.text.specs.List.{with_first, pieces_of, list_Q}
use Rattle.text.specs.Template.{Value, number, list, values_of, number_at, list_at_of}
use Rattle.text.proofs.Laws.Values.{none_some}
use Rattle.text.proofs.Laws.Pieces.{until_le}
use Rattle.text.proofs.Laws.Places.{literals}
use Rattle.template.specs.Values.{Whole}
use Rattle.template.specs.Fields.{Held, HasForm, FewAre, ListPut}
use Rattle.template.specs.Laws.Fields.{nothing_held, held_number, held_list_lem}
use Rattle.line_reader.specs.Reading.{line_from_of}
use Rattle.line_reader.proofs.Laws.Lines.{line_length}
use Rattle.job.specs.Line.{Line}
use Rattle.job.specs.Grammar.{Written, forms, read_line_of}
use Rattle.job.specs.Job.{well_ended_of}
use Rattle.job.specs.Sound.{LineSound}
use Rattle.reader.specs.declared.Form.{Form}
use Rattle.reader.specs.declared.Form.TheVariants as form
use Rattle.reader.specs.Parsed.{place_of, form_of, Parsed}
use Rattle.reader.specs.Tried.{only}
use Rattle.reader.specs.Laws.Sift.{sift, opens, read_short}
use Rattle.reader.specs.Laws.Tried.{says, by_bytes, one_form, by_values}
use Rattle.gate_text.specs.declared.Gate.{Gate as GateWords}
use Rattle.gate_text.specs.Gate.{gate_template, GateBytes, GateLine, GateRead}
use Rattle.gate_text.specs.Laws.Gate.{parts}
use Rattle.instructions.specs.declared.LineRead.{LineRead}
use Rattle.instructions.specs.Reading.{line_at, LineAt, NextLine}
use Rattle.instructions.specs.Lines.{Passes, WrittenSound, KnownLine, KnownAt}
use Rattle.instructions.specs.Laws.Places.{found_line}
use Rattle.instructions.specs.Laws.Lines.{passes_line}
use Rattle.instructions.specs.Laws.Meaning.{unitary_said}
use Rattle.instructions.specs.Laws.Read.{few_operands}

-- ---- the line that is handed out

module _ (job line : List ℕ) (at : ℕ) (handed : line ≡ line_from_of job at) where
  -- it ends at its LF
  handed_ends : at + length line ≡ at + until LF (drop at job)
  handed_ends = ap (λ (l : List ℕ). at + length l) handed ∙ ap (λ (n : ℕ). at + n) (line_length job at)

  handed_same : line ≡ line_at job at (at + length line)
  unfolding line_at line_from_of
  handed_same =
      let n : until LF (drop at job) ≡ at + length line - at = let h = handed_ends in omega arith in
      handed ∙ ap (λ (k : ℕ). take k (drop at job)) n

  handed_line : well_ended_of job ≡ true → at < length job → LineAt job at (at + length line)
  handed_line ended inside = found_line job at (at + length line) ended inside handed_ends

  -- it is the next line
  pub handed_read : well_ended_of job ≡ true → at < length job → {f : Form} {fields : List ℕ} → Parsed line f fields
      → (r : LineRead) → r.form ≡ f → r.end ≡ at + length line → NextLine job at r fields
  handed_read ended inside {f} {fields} p r a b =
      let here : Parsed (line_at job at (at + length line)) f fields = subst (λ (l : List ℕ). Parsed l f fields) handed_same p in
      let so-formed : Parsed (line_at job at (at + length line)) r.form fields =
      subst (λ (g : Form). Parsed (line_at job at (at + length line)) g fields) (sym a) here in
      record {
        place = subst (LineAt job at) (sym b) (handed_line ended inside);
        parsed = subst (λ (e : ℕ). Parsed (line_at job at e) r.form fields) (sym b) so-formed;
      }

  -- of an accepted job it says something
  pub handed_known : KnownAt job at → KnownLine line
  handed_known k =
      let p = passes_line (subst (Passes k.number) (handed_line k.ended k.inside).cut k.passes) in
      let here : KnownLine (line_at job at (at + length line)) = record { written = p.written; reads = p.reads; sound = p.sound } in
      subst KnownLine (sym handed_same) here

-- ---- its first bytes

module _ {job : List ℕ} {at : ℕ} (k : KnownAt job at) where
  pub known_here : KnownLine (line_from_of job at)
  known_here = handed_known job (line_from_of job at) at refl k

  -- there are four or more
  four_bytes : 4 ≤ until LF (drop at job)
  four_bytes = go (ltb (length (line_from_of job at)) 4) refl
    where
      go : (b : Bool) → ltb (length (line_from_of job at)) 4 ≡ b → 4 ≤ until LF (drop at job)
      go true e = absurd (none_some (sym (read_short _ (ltb-true _ _ e)) ∙ known_here.reads))
      go false e = omega (arith, ltb-false (length (line_from_of job at)) 4 e, line_length job at)

  -- which are those of the job
  pub first_byte : (i : ℕ) → i < 4 → get_or (line_from_of job at) i 0 ≡ get_or (drop at job) i 0
  unfolding line_from_of
  first_byte i h = get_or-take (until LF (drop at job)) (drop at job) i 0 (omega (arith, h, four_bytes))

  slice_byte : (i : ℕ) → i < 4 → get_or (line_from_of job at) i 0 ≡ get_or (take (length job - at) (drop at job)) i 0
  slice_byte i h =
      let inside : i < length job - at = omega (arith, h, four_bytes, until_le LF (drop at job), length-drop at job) in
      first_byte i h ∙ sym (get_or-take (length job - at) (drop at job) i 0 inside)

  pub gate_bytes : {line : List ℕ} → line ≡ line_from_of job at → GateBytes (take (length job - at) (drop at job)) → GateBytes line
  gate_bytes handed there =
      subst GateBytes (sym handed) (record { first = slice_byte 0 (omega arith) ∙ there.first; letter = slice_byte 3 (omega arith) ∙ there.letter })

-- ---- a gate line

-- the line is that of a gate
pub record OfGate (text : List ℕ) (v : Written) : Type 0 where
  pub values : List Value
  pub reads : values_of gate_template text ≡ some values
  pub says : (form_of form.Unitary).says values ≡ some v
  pub gate : Gate
  pub code : gate_of (number_at 0 values) ≡ some gate
  pub is : Written.line (Line.unitary gate (list_at_of 0 values)) ≡ v

pub of_gate : {text : List ℕ} {v : Written} → GateBytes text → read_line_of text ≡ some v → OfGate text v
unfolding forms place_of bytes sift opens literals gate_template
of_gate {text} {v} there reads =
    let (vs, have, says) = by_values (form_of form.Unitary) text v (sym (one_form text 111 117 form.Unitary refl there.first there.letter) ∙ reads) in
    let (g, code, is) = unitary_said (gate_of (number_at 0 vs)) (list_at_of 0 vs) v says in
    record { values = vs; reads = have; says = says; gate = g; code = code; is = is }

pub gate_line : {text : List ℕ} {v : Written} → OfGate text v → GateLine text
gate_line o = record { values = o.values; reads = o.reads }

-- a value has a byte or more
pub filled : {A : Type 0} (f : List ℕ → Option A) (l : List ℕ) (n : ℕ) {a : A} → f [] ≡ none → f (take n l) ≡ some a → 1 ≤ n
filled f l zero empty is = absurd (none_some (sym empty ∙ is))
filled f l (suc n) empty is = omega arith

-- `op=u g=0 q=0` is the shortest
gate_long : {line : List ℕ} → GateLine line → 12 ≤ length line
unfolding number_of list_Q pieces_of with_first pieces
gate_long {line} t =
    let p = parts line t.values t.reads in
    let code = filled number_of (drop 7 line) (until space (drop 7 line)) refl p.code in
    let q : ℕ = 7 + until space (drop 7 line) + 3 in
    let operands = filled list_Q (drop q line) (length (drop q line)) refl (ap list_Q (take-length (drop q line)) ∙ p.operands) in
    omega (arith, code, operands, p.further, length-drop q line)

pub gate_fills : {job : List ℕ} {at : ℕ} → KnownAt job at → GateBytes (take (length job - at) (drop at job)) → 12 ≤ length (line_from_of job at)
gate_fills k there = gate_long (gate_line (of_gate (gate_bytes k refl there) (known_here k).reads))

module _ {text : List ℕ} (k : KnownLine text) (there : GateBytes text) where
  abbrev of_known : OfGate text k.written
  of_known = of_gate there k.reads

  -- on one or two qubits
  few : length (list_at_of 0 of_known.values) ≤ 2
  unfolding WrittenSound LineSound
  few =
      let (h, r, sound) = subst WrittenSound (sym of_known.is) k.sound in
      omega (arith, sound.count, few_operands of_known.gate)

  -- its values were put into the words
  pub gate_parsed : {g : GateWords} → GateRead text g → (before : List ℕ) {coded after : List ℕ} → Whole before → coded ≡ set before 0 g.code
      → ((members : List ℕ) → FewAre members g.count g.first.0 g.second.0 → ListPut coded after 0 members) → Parsed text form.Unitary after
  unfolding forms place_of bytes sift opens literals gate_template
  gate_parsed {g} read before {coded} {after} wide is-coded put =
      let o = of_known in
      let qs = list_at_of 0 o.values in
      let one : Held coded 1 0 (number g.code ∷ []) =
      subst (λ (l : List ℕ). Held l 1 0 (number g.code ∷ [])) (sym is-coded) (held_number (nothing_held before) g.code (omega arith) (omega arith)) in
      let listed : ListPut coded after 0 qs =
      put qs (record { few = few; size = read.count _ o.reads few; is_first = read.first _ o.reads; is_second = read.second _ o.reads }) in
      let both : Held after 1 1 (number g.code ∷ list qs ∷ []) = held_list_lem one (omega arith) listed in
      let are : number g.code ∷ list qs ∷ [] ≡ o.values =
      ap (λ (n : ℕ). number n ∷ list qs ∷ []) (read.code _ o.reads) ∙ sym (parts text o.values o.reads).all in
      let formed : HasForm text (form_of form.Unitary).template after = record { values = o.values; reads = o.reads; held = subst (Held after 1 1) are both } in
      by_bytes 111 117 there.first there.letter (only form.Unitary) refl (says form.Unitary refl formed k.written o.says)
