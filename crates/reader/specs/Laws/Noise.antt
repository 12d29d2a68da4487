-- Noise lines, which begin alike and then differ in their digit of d: laws. Assumes nothing.
use Rattle.std.specs.Prelude.{ℕ, ◌≤◌, ◌<◌, ◌≡◌, Bool, cond, ◌&&◌, List, [], ◌∷◌, ◌++◌, eqb, length, get_or, drop, Option as Answer, Some, None}
use Rattle.std.proofs.Common.{arith, sym, ap, subst, ◌∙◌, ltb-true, ltb-false}
use Rattle.std.proofs.Math.Path.{refl}
use Rattle.std.proofs.Math.Bool.{true, false}
use Rattle.std.proofs.Math.Option.{Option, none, some}
use Rattle.std.proofs.lemmas.Bool.{eqb-false}
use Rattle.std.proofs.Math.Dec.{ltb}
use Rattle.std.proofs.Math.ListN.{get_or-append, get_or-eq_default}
use Rattle.text.specs.Bytes.{bytes}
use Rattle.text.specs.Template.{Value, is_letter_of, values_of, numbers_in, lists_in, number_at, list_at_of}
use Rattle.numbers.specs.Read.{in_front}
use Rattle.template.specs.Values.{held_number, held_count}
use Rattle.template.specs.Fields.{Held, Begins, ReadOn, ends_at}
use Rattle.text.proofs.Laws.Values.{none_some}
use Rattle.template.specs.Laws.Fields.{nothing_held, numbers_append, lists_append}
use Rattle.template.specs.Laws.Reading.{byte_over, byte_other, stops, parts_read}
use Rattle.template.specs.declared.Progress.{Progress}
use Rattle.job.specs.Grammar.{Kind, Written, noise_line, pauli_at_of, Form as TableForm, is_one, forms, said, read_by}
use Rattle.job.specs.Marks.{read_as}
use Rattle.reader.specs.declared.Form.{Form}
use Rattle.reader.specs.declared.Form.TheVariants as form
use Rattle.reader.specs.Parsed.{place_of, form_of, is_unread}
use Rattle.reader.specs.Tried.{Tried, found, form_if, KindBy, noise_begin_of, parity_alone_of, NoiseBegun, only, noise_forms}
use Rattle.reader.specs.Laws.Sift.{sift, forms_of, sifted, no_values}
use Rattle.reader.specs.Laws.Tried.{not_parsed, read_tried, none_left}

-- ---- the four forms

-- what a noise line's form has of its own: its digit of d, the rest of its template, its kind, and which of its numbers is the size
pub record KindForm : Type 0 where
  pub digit : ℕ
  pub plain : is_letter_of digit ≡ false
  pub rest : List ℕ
  pub kind : List Value → Kind
  pub size : ℕ

-- as a form of the table
unfoldable pub table_form_of : KindForm → TableForm
table_form_of k = record { template = noise_begin_of ++ (k.digit ∷ k.rest); says = λ v. noise_line (k.kind v) (number_at k.size v) v }

abbrev pub single : KindForm
single = record { digit = 49; plain = refl; rest = bytes " x=L z=L size=N"; kind = λ v. Kind.single (pauli_at_of 2 3 v); size = 2 }

abbrev pub depolarizing : KindForm
depolarizing = record { digit = 50; plain = refl; rest = bytes " q=Q size=N"; kind = λ v. Kind.depolarizing (list_at_of 2 v); size = 2 }

abbrev pub uniform : KindForm
uniform = record { digit = 51; plain = refl; rest = bytes " n=N size=N"; kind = λ v. Kind.uniform (number_at 2 v); size = 3 }

abbrev pub weighted : KindForm
weighted = record { digit = 52; plain = refl; rest = bytes " n=N size=N"; kind = λ v. Kind.weighted (number_at 2 v); size = 3 }

abbrev pub kinds : List KindForm
kinds = single ∷ depolarizing ∷ uniform ∷ weighted ∷ []

noise_forms_lem : noise_forms ≡ forms_of table_form_of kinds
unfolding table_form_of forms_of noise_begin_of place_of forms bytes
noise_forms_lem = refl

-- of the noise forms, those that are kept
read_kinds : (line : List ℕ) (keep : KindForm → Bool) → ((k : KindForm) → keep k ≡ false → read_as (table_form_of k) line ≡ none)
    → read_by noise_forms line ≡ read_by (forms_of table_form_of (sift keep kinds)) line
read_kinds line keep h = ap (λ (fs : List TableForm). read_by fs line) noise_forms_lem ∙ sifted table_form_of line keep h kinds

-- no form of noise is the line's
no_kind : {line fields : List ℕ} → ((k : KindForm) → read_as (table_form_of k) line ≡ none) → Tried noise_forms line form.Unread fields
unfolding read_by sift forms_of
no_kind h = record { parsed = λ e. not_parsed (e ∙ read_kinds _ (λ k. false) (λ k _. h k)) }

pub not_begun : {line fields : List ℕ} → ((rest : List ℕ) → values_of (noise_begin_of ++ rest) line ≡ none) → Tried noise_forms line form.Unread fields
unfolding table_form_of
not_begun h = no_kind (λ k. no_values (table_form_of k) _ (h (k.digit ∷ k.rest)))

-- ---- the condition and its parity

given : (b : Bool) (w : Written) → b ≡ false → (u : Written) × (cond b none (some w) ≡ some u)
given b w e = (w, rw e)

module _ (kind : Kind) (size : ℕ) (v : List Value) where
  noise_none : parity_alone_of v ≡ true → noise_line kind size v ≡ none
  unfolding noise_line
  noise_none e = rw e

  noise_some : parity_alone_of v ≡ false → (w : Written) × (noise_line kind size v ≡ some w)
  unfolding noise_line
  noise_some e = given _ _ e

-- they stand in front, whatever is read after them
parity_in_front : (vs ws : List Value) (o : Option (List Value)) → 1 < length (numbers_in vs) → 1 < length (lists_in vs) → in_front vs o ≡ some ws
    → parity_alone_of ws ≡ parity_alone_of vs
unfolding in_front
parity_in_front vs ws none n l e = absurd (none_some e)
parity_in_front vs ws (some us) n l e =
    let same : vs ++ us ≡ ws = cc in
    let number : number_at 1 ws ≡ number_at 1 vs = rw (← same, numbers_append vs us) (get_or-append (numbers_in vs) (numbers_in us) 0 1 n) in
    let list : list_at_of 1 ws ≡ list_at_of 1 vs = rw (← same, lists_append vs us) (get_or-append (lists_in vs) (lists_in us) [] 1 l) in
    rw (number, list)

-- ---- a line that begins as noise lines do

module _ {line : List ℕ} {p : Progress} {before fields : List ℕ} (b : Begins line noise_begin_of 0 0 0 p before fields) where
  abbrev held : Held fields p.numbers p.lists b.values
  held = b.holds [] (nothing_held before)

  two_numbers : p.numbers ≡ 2
  unfolding noise_begin_of
  two_numbers = b.numbers_read

  two_lists : p.lists ≡ 2
  unfolding noise_begin_of
  two_lists = b.lists_read

  -- the lent words have the length of the condition and the parity
  pub parity_known : {t : Bool} {k p : ℕ} → k ≡ held_count fields 1 → p ≡ held_number fields 1 → t ≡ (eqb k 0 && is_one p) → parity_alone_of b.values ≡ t
  parity_known counted read e =
      let count = counted ∙ held.count 1 (omega (arith, two_lists)) in
      let parity = read ∙ held.number 1 (omega (arith, two_numbers)) in
      sym (rw (count, parity) at e)

  kind_values : (k : KindForm) → values_of (table_form_of k).template line ≡ in_front b.values (values_of (k.digit ∷ k.rest) (drop p.at line))
  unfolding table_form_of
  kind_values k = b.reads (k.digit ∷ k.rest)

  same_parity : (k : KindForm) (ws : List Value) → values_of (table_form_of k).template line ≡ some ws → parity_alone_of ws ≡ parity_alone_of b.values
  same_parity k ws e =
      parity_in_front b.values ws (values_of (k.digit ∷ k.rest) (drop p.at line)) (omega (arith, two_numbers, held.numbers_in_lem))
      (omega (arith, two_lists, held.lists_in_lem)) (sym (kind_values k) ∙ e)

  -- parity 1 without a condition
  pub parity_bad : {after : List ℕ} → parity_alone_of b.values ≡ true → Tried noise_forms line form.Unread after
  unfolding said table_form_of
  parity_bad e = no_kind (λ k. go k (values_of (table_form_of k).template line) refl)
    where
      go : (k : KindForm) (o : Option (List Value)) → values_of (table_form_of k).template line ≡ o → said (table_form_of k).says o ≡ none
      go k none h = refl
      go k (some ws) h = noise_none (k.kind ws) (number_at k.size ws) ws (same_parity k ws h ∙ e)

  -- another digit than the line's, which is 0 past its end
  other_digit : (k : KindForm) → eqb (get_or line p.at 0) k.digit ≡ false → read_as (table_form_of k) line ≡ none
  unfolding in_front
  other_digit k e = no_values (table_form_of k) line (kind_values k ∙ go (ltb p.at (length line)) refl)
    where
      go : (t : Bool) → ltb p.at (length line) ≡ t → in_front b.values (values_of (k.digit ∷ k.rest) (drop p.at line)) ≡ none
      go true h = rw (byte_other k.digit k.plain k.rest line p.at (ltb-true _ _ h) (eqb-false _ _ e))
      go false h = rw (byte_over k.digit k.plain k.rest line p.at (ltb-false _ _ h))

  -- the forms of the line's digit were tried
  pub of_digit : {r : Form} {after : List ℕ} (d : ℕ) → d ≡ get_or line p.at 0 → (fs : List TableForm)
      → forms_of table_form_of (sift (λ (k : KindForm). eqb d k.digit) kinds) ≡ fs → Tried fs line r after → Tried noise_forms line r after
  of_digit d same fs chosen t =
      record {
        parsed = λ e. t.parsed (
            e
            ∙ read_kinds line (λ (k : KindForm). eqb d k.digit) (λ k h. other_digit k (rw (← same) h))
            ∙ ap (λ (gs : List TableForm). read_by gs line) chosen
            );
      }

-- the line ends behind `d=`
pub no_digit : {line : List ℕ} {p : Progress} {before fields after : List ℕ} → Begins line noise_begin_of 0 0 0 p before fields → length line ≤ p.at
    → Tried noise_forms line form.Unread after
unfolding sift forms_of
no_digit {line} {p} b h = of_digit b 0 (sym (get_or-eq_default line 0 h)) [] refl none_left

-- the form of a kind was tried
pub kind_tried : {line : List ℕ} {p : Progress} {r : Answer Form} {fields after : List ℕ} (f : Form) (k : KindForm) → form_of f ≡ table_form_of k → is_unread f ≡ false
    → NoiseBegun line p fields → KindBy line (k.digit ∷ k.rest) p f r fields after → Tried (only f) line (found r) after
unfolding table_form_of
kind_tried {line} {p} {r} {fields} {after} f k same known n b =
    let template : (form_of f).template ≡ noise_begin_of ++ (k.digit ∷ k.rest) = ap (λ (t : TableForm). t.template) same in
    read_tried f known (ends_at (length line) b.on) b.result (rw template (parts_read n.begins b.on b.reads))
    (λ vs h. rw same (noise_some (k.kind vs) (number_at k.size vs) vs (same_parity n.begins k vs (rw same at h) ∙ n.parity)))

-- the rest of its template, read by parts to the end of the line
pub kind_parts : {line rest : List ℕ} {p q : Progress} {before fields : List ℕ} {f : Form} {r : Answer Form} → ReadOn line rest p.at p.numbers p.lists (Some q) before fields
    → r ≡ form_if (eqb q.at (length line)) f → KindBy line rest p f r before fields
kind_parts {q = q} n e = record { on = Some q; result = e; reads = n }

-- a line that was refused by the first part of that rest
pub kind_stopped : {line first : List ℕ} {p : Progress} {fields between after : List ℕ} (f : Form) (k : KindForm) → form_of f ≡ table_form_of k → is_unread f ≡ false
    → NoiseBegun line p fields → (rest : List ℕ) → ReadOn line first p.at p.numbers p.lists None fields between → first ++ rest ≡ k.digit ∷ k.rest
    → Tried (only f) line form.Unread after
kind_stopped {line} {first} {p} {fields} {between} {after} f k same known n rest on all =
    kind_tried {r = None} f k same known n
    record { on = None; result = refl; reads = subst (λ (t : List ℕ). ReadOn line t p.at p.numbers p.lists None fields after) all (stops rest on) }
