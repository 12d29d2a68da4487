-- A line that one form was tried on: laws. Assumes nothing.
use Rattle.std.specs.Prelude.{ℕ, zero, suc, ◌≤◌, ◌<◌, ◌≡◌, Bool, not, ◌&&◌, List, [], ◌∷◌, ◌++◌, eqb, leb, length, get_or, Option as Answer, Some, None}
use Rattle.std.proofs.Common.{arith, ap, ◌∙◌, subst, true≢false}
use Rattle.std.proofs.Math.Path.{refl, sym}
use Rattle.std.proofs.Math.Bool.{true, false}
use Rattle.std.proofs.Math.Option.{Option, none, some}
use borrow.Author.Tests.{leb-true, not-true, not-false}
use Rattle.pauli.specs.Gate.{Gate, gates, gate_from, gate_of}
use Rattle.pauli.proofs.Laws.Code.{gate_none}
use Rattle.text.specs.Bytes.{bytes}
use Rattle.text.specs.Template.{Value, values_of, number_at, list_at_of}
use Rattle.template.specs.Values.{held_number, held_count}
use Rattle.template.specs.Fields.{number_letters, list_letters, Room, ReadOn, HasForm, ReadAs}
use Rattle.template.specs.Laws.Reading.{stops, whole_read}
use Rattle.template.specs.declared.Progress.{Progress}
use Rattle.text.proofs.Laws.Values.{both, none_some}
use Rattle.job.specs.Clifford.{table_words_of, table_of}
use Rattle.job.specs.Grammar.{Written, Form as TableForm, unitary_line, clifford_line, forms, said, or_later, read_by, read_line_of}
use Rattle.job.specs.Line.{Line}
use Rattle.job.specs.Marks.{read_as}
use Rattle.reader.specs.declared.Form.{Form}
use Rattle.reader.specs.declared.Form.TheVariants as form
use Rattle.reader.specs.Parsed.{place_of, no_form, form_of, is_unread, Parsed}
use Rattle.reader.specs.Tried.{Tried, found, form_if, FormBy, only}
use Rattle.reader.specs.Laws.Sift.{read_alone, no_values, opening, read_by_bytes}

-- ---- room

has_room : List ℕ → Bool
has_room ts = leb (number_letters ts) 4 && leb (list_letters ts) 4

-- there is room for the values of each form
all_room : List TableForm → Bool
all_room [] = true
all_room (f ∷ fs) = has_room f.template && all_room fs

room : (ts : List ℕ) → has_room ts ≡ true → Room 0 0 ts
unfolding has_room
room ts e =
    let h = both (leb (number_letters ts) 4) (leb (list_letters ts) 4) e in
    record {
      for_numbers = omega (arith, leb-true (number_letters ts) 4 h.0);
      for_lists = omega (arith, leb-true (list_letters ts) 4 h.1);
    }

room_at : (fs : List TableForm) → all_room fs ≡ true → (k : ℕ) → Room 0 0 (get_or fs k no_form).template
unfolding all_room no_form
room_at [] e k = record { for_numbers = omega arith; for_lists = omega arith }
room_at (f ∷ fs) e zero = room f.template (both (has_room f.template) (all_room fs) e).0
room_at (f ∷ fs) e (suc k) = room_at fs (both (has_room f.template) (all_room fs) e).1 k

forms_room : all_room forms ≡ true
unfolding all_room has_room forms bytes
forms_room = refl

pub form_room : (f : Form) → Room 0 0 (form_of f).template
form_room f = room_at forms forms_room (place_of f)

-- ---- read by parts

pub parts_form : {line template : List ℕ} {p : Progress} {before fields : List ℕ} {f : Form} {r : Answer Form} → ReadOn line template 0 0 0 (Some p) before fields
    → r ≡ form_if (eqb p.at (length line)) f → FormBy line template f r fields
parts_form on e = record { ok = _; result = e; reads = whole_read on }

-- whether the end of the line was reached, by the form that was answered
pub not_ended : (b : Bool) (f : Form) → None ≡ form_if b f → b ≡ false
not_ended false f e = refl
not_ended true f e = cc

pub is_ended : (b : Bool) (f g : Form) → Some g ≡ form_if b f → (b ≡ true) × (g ≡ f)
is_ended false f g e = cc
is_ended true f g e = (refl, (cc))

-- ---- what was tried

module _ {line fields : List ℕ} where
  pub not_parsed : read_line_of line ≡ none → Parsed line form.Unread fields
  not_parsed e = record { unread = λ _. e; read = λ h. absurd (true≢false h) }

  module _ (f : Form) where
    -- the line says nothing by the form
    pub says_nothing : read_as (form_of f) line ≡ none → Tried (only f) line form.Unread fields
    says_nothing e = record { parsed = λ h. not_parsed (h ∙ read_alone (form_of f) line ∙ e) }

    -- it does, whatever forms come after
    pub says : {fs : List TableForm} → is_unread f ≡ false → (h : HasForm line (form_of f).template fields) (w : Written) → (form_of f).says h.values ≡ some w
        → Tried (form_of f ∷ fs) line f fields
    says {fs} known h w e =
        record {
          parsed = λ first. record {
            unread = λ u. absurd (true≢false (sym u ∙ known));
            read = λ _. record {
              values = h.values;
              written = w;
              by_form = h.reads;
              says = e;
              reads = first ∙ unfold read_by said or_later in rw (h.reads, e);
              held = h.held;
            };
          };
        }

    -- it says nothing by the form: the later ones are left
    pub later : {fs : List TableForm} {r : Form} → read_as (form_of f) line ≡ none → Tried fs line r fields → Tried (form_of f ∷ fs) line r fields
    later e t = record { parsed = λ h. t.parsed (h ∙ unfold read_by or_later in rw e) }

    -- a line by whose values the form says something, read by the form's template
    pub read_tried : {r : Answer Form} → is_unread f ≡ false → (ok : Bool) → r ≡ form_if ok f → ReadAs line (form_of f).template ok fields
        → ((vs : List Value) → values_of (form_of f).template line ≡ some vs → (w : Written) × ((form_of f).says vs ≡ some w))
        → Tried (only f) line (found r) fields
    read_tried known true e h total = let v = h.read refl in let t = total v.values v.reads in rw e (says known v t.0 t.1)
    read_tried known false e h total = rw e (says_nothing (no_values (form_of f) line (h.refused refl (form_room f))))

    -- a line that was refused by the first part of the form's template
    pub stopped : {first before between : List ℕ} (rest : List ℕ) → ReadOn line first 0 0 0 None before between → first ++ rest ≡ (form_of f).template
        → Tried (only f) line form.Unread fields
    stopped {first} {before} rest on same =
        let all : ReadOn line (form_of f).template 0 0 0 None before fields = subst (λ (t : List ℕ). ReadOn line t 0 0 0 None before fields) same (stops rest on) in
        says_nothing (no_values (form_of f) line ((whole_read all).refused refl (form_room f)))

    -- a form that says something by any values
    pub plain_tried : {r : Answer Form} → is_unread f ≡ false → ((vs : List Value) → (w : Written) × ((form_of f).says vs ≡ some w))
        → FormBy line (form_of f).template f r fields → Tried (only f) line (found r) fields
    plain_tried known total b = read_tried known b.ok b.result b.reads (λ vs _. total vs)

-- ---- the forms that are left

-- no form is left
pub none_left : {line fields : List ℕ} → Tried [] line form.Unread fields
unfolding read_by
none_left = record { parsed = not_parsed }

-- what a line says, where its bytes 0 and 3 leave these forms
bytes_leave : (l : List ℕ) (a c : ℕ) (fs : List TableForm) → opening 3 c (opening 0 a forms) ≡ fs → get_or l 0 0 ≡ a → get_or l 3 0 ≡ c → read_line_of l ≡ read_by fs l
bytes_leave l a c fs left e g =
    read_by_bytes l
    ∙ ap (λ (b : ℕ). read_by (opening 3 (get_or l 3 0) (opening 0 b forms)) l) e
    ∙ ap (λ (b : ℕ). read_by (opening 3 b (opening 0 a forms)) l) g
    ∙ ap (λ (gs : List TableForm). read_by gs l) left

-- the forms were tried that a line's bytes 0 and 3 leave
pub by_bytes : {line fields : List ℕ} {r : Form} (a c : ℕ) → get_or line 0 0 ≡ a → get_or line 3 0 ≡ c → (fs : List TableForm)
    → opening 3 c (opening 0 a forms) ≡ fs → Tried fs line r fields → Parsed line r fields
by_bytes {line} a c e g fs left t = t.parsed (bytes_leave line a c fs left e g)

-- a line whose bytes 0 and 3 leave one form
pub one_form : (l : List ℕ) (a c : ℕ) (f : Form) → opening 3 c (opening 0 a forms) ≡ form_of f ∷ [] → get_or l 0 0 ≡ a → get_or l 3 0 ≡ c → read_line_of l ≡ read_as (form_of f) l
one_form l a c f left e g = bytes_leave l a c (form_of f ∷ []) left e g ∙ read_alone (form_of f) l

-- what a line says by a form, it says by its values
pub by_values : (f : TableForm) (l : List ℕ) (v : Written) → read_as f l ≡ some v → (vs : List Value) × (values_of f.template l ≡ some vs) × (f.says vs ≡ some v)
unfolding said
by_values f l v e = go (values_of f.template l) refl e
  where
    go : (o : Option (List Value)) → values_of f.template l ≡ o → said f.says o ≡ some v → (vs : List Value) × (values_of f.template l ≡ some vs) × (f.says vs ≡ some v)
    go none p q = absurd (none_some q)
    go (some vs) p q = (vs, p, q)

-- ---- a gate's code

gate_from_lem : (gs : List Gate) (code : ℕ) → code < length gs → (g : Gate) × (gate_from gs code ≡ some g)
unfolding gate_from
gate_from_lem [] code h = absurd (omega arith)
gate_from_lem (g ∷ gs) zero h = (g, refl)
gate_from_lem (g ∷ gs) (suc code) h = gate_from_lem gs code (omega arith)

gate_some : (code : ℕ) → code ≤ 15 → (g : Gate) × (gate_of code ≡ some g)
unfolding gate_of gates
gate_some code h = gate_from_lem gates code (omega arith)

module _ {line fields : List ℕ} (h : HasForm line (form_of form.Unitary).template fields) where
  -- the code stands first
  code_held : held_number fields 0 ≡ number_at 0 h.values
  unfolding place_of forms bytes
  code_held = h.held.number 0 (omega arith)

  pub gate_high : 15 < held_number fields 0 → Tried (only form.Unitary) line form.Unread fields
  unfolding place_of forms bytes said unitary_line
  gate_high high =
      let no-gate : gate_of (number_at 0 h.values) ≡ none = gate_none (number_at 0 h.values) (omega (arith, code_held)) in
      says_nothing form.Unitary (rw (h.reads, no-gate))

  pub gate_good : held_number fields 0 ≤ 15 → Tried (only form.Unitary) line form.Unitary fields
  unfolding place_of forms bytes unitary_line
  gate_good low =
      let found = gate_some (number_at 0 h.values) (omega (arith, code_held)) in
      says form.Unitary refl h (Written.line (Line.unitary found.0 (list_at_of 0 h.values))) (rw found.1)

-- ---- a table's words

module _ {line fields : List ℕ} (h : HasForm line (form_of form.Clifford).template fields) where
  -- whether there are too few or too many words for a table on so many operands
  abbrev wrong : ℕ → ℕ → Bool
  wrong k words = leb k 8 && not (eqb words (table_words_of k))

  words_held : wrong (held_count fields 0) (held_count fields 1) ≡ wrong (length (list_at_of 0 h.values)) (length (list_at_of 1 h.values))
  unfolding place_of forms bytes
  words_held = rw (h.held.count 0 (omega arith), h.held.count 1 (omega arith))

  pub words_wrong : not (wrong (held_count fields 0) (held_count fields 1)) ≡ false → Tried (only form.Clifford) line form.Unread fields
  unfolding place_of forms bytes said clifford_line
  words_wrong e =
      let bad : wrong (length (list_at_of 0 h.values)) (length (list_at_of 1 h.values)) ≡ true = sym words_held ∙ not-false _ e in
      says_nothing form.Clifford (rw (h.reads, bad))

  pub words_right : not (wrong (held_count fields 0) (held_count fields 1)) ≡ true → Tried (only form.Clifford) line form.Clifford fields
  unfolding place_of forms bytes clifford_line
  words_right e =
      let good : wrong (length (list_at_of 0 h.values)) (length (list_at_of 1 h.values)) ≡ false = sym words_held ∙ not-true _ e in
      says form.Clifford refl h (Written.line (Line.clifford (list_at_of 0 h.values) (table_of (list_at_of 1 h.values)))) (rw good)
