-- What a line says, by groups of forms. Laws. Assumes nothing.
use Rattle.std.specs.Prelude.{ℕ, zero, suc, ◌≤◌, ◌≡◌, refl, Bool, true, cond, not, ◌&&◌, ◌||◌, List, [], ◌∷◌, eqb, leb, length}
use Rattle.std.proofs.Common.{arith, subst, ◌∙◌, eqb-true, leb-false}
use Rattle.std.proofs.Math.Path.{sym, ap}
use Rattle.std.proofs.Math.Bool.{false}
use Rattle.std.proofs.Math.Option.{Option, none, some}
use Rattle.pauli.specs.Gate.{Gate, gate_of}
use Rattle.text.specs.Bytes.{bytes}
use Rattle.text.specs.Template.{Value, number_at, list_at_of}
use Rattle.template.specs.Values.{held_number}
use Rattle.template.specs.Fields.{Held}
use Rattle.job.specs.Float.{zero_float}
use Rattle.job.specs.declared.Header.{Header}
use Rattle.job.specs.Line.{SparsePauli, Line}
use Rattle.job.specs.Clifford.{table_words_of, table_of}
use Rattle.job.specs.Grammar.{Kind, NoiseLine, Written, header_by, edition_by, is_one, optional, unitary_line, clifford_line, noise_line, forms, read_line_of}
use Rattle.job.specs.Checks.{records, element_lines_of, first_total}
use Rattle.job.specs.Fits.{SaidFits}
use Rattle.job.proofs.Laws.Forms.{line_fits}
use Rattle.reader.specs.declared.Form.{Form}
use Rattle.reader.specs.declared.Form.TheVariants as form
use Rattle.reader.specs.Parsed.{place_of, no_form, form_of, is_unread, ParsedAs, Parsed, Said}
use Rattle.instructions.specs.Reading.{noise_form, has_total}
use Rattle.instructions.specs.Ahead.{has_weights_of}

pub some_same : {A : Type 0} {a b : A} → some a ≡ some b → a ≡ b
some_same e = cc

-- a header from the words
pub header_held : {words : List ℕ} {vs : List Value} → Held words 3 0 vs → header_by (held_number words) ≡ header_by (λ (i : ℕ). number_at i vs)
header_held h = rw (h.number 0 (omega arith), h.number 1 (omega arith), h.number 2 (omega arith))

pub edition_held : {words : List ℕ} {vs : List Value} → Held words 4 0 vs → edition_by (held_number words) ≡ edition_by (λ (i : ℕ). number_at i vs)
edition_held h = rw (h.number 0 (omega arith), h.number 1 (omega arith), h.number 2 (omega arith), h.number 3 (omega arith))

-- a noise line of a kind and a size
unfoldable pub noise_by : Kind → ℕ → List Value → NoiseLine
noise_by kind size vs =
    record {
      probability = number_at 0 vs;
      correlation = optional (list_at_of 0 vs);
      condition = record { outcomes = list_at_of 1 vs; parity = is_one (number_at 1 vs) };
      kind = kind;
      size = size;
    }

pub noise_said : (kind : Kind) (size : ℕ) (vs : List Value) (w : Written) → noise_line kind size vs ≡ some w → Written.noise (noise_by kind size vs) ≡ w
unfolding noise_line noise_by
noise_said kind size vs w e = go (eqb (length (list_at_of 1 vs)) 0 && is_one (number_at 1 vs)) (Written.noise (noise_by kind size vs)) e
  where
    go : (b : Bool) (v : Written) → cond b none (some v) ≡ some w → v ≡ w
    go true v k = let z : ◌≡◌ {A = ℕ} 0 1 = cc in absurd (omega arith)
    go false v k = some_same k

pub unitary_said : (o : Option Gate) (qs : List ℕ) (w : Written) → unitary_line o qs ≡ some w → (g : Gate) × (o ≡ some g) × (Written.line (Line.unitary g qs) ≡ w)
unfolding unitary_line
unitary_said none qs w e = let z : ◌≡◌ {A = ℕ} 0 1 = cc in absurd (omega arith)
unitary_said (some g) qs w e = (g, refl, some_same e)

pub clifford_said : (qs ws : List ℕ) (w : Written) → clifford_line qs ws ≡ some w
    → (length qs ≤ 8 → length ws ≡ table_words_of (length qs)) × (Written.line (Line.clifford qs (table_of ws)) ≡ w)
unfolding clifford_line
clifford_said qs ws w e = go (leb (length qs) 8) (eqb (length ws) (table_words_of (length qs))) refl refl e
  where
    go : (few right : Bool) → leb (length qs) 8 ≡ few → eqb (length ws) (table_words_of (length qs)) ≡ right
        → cond (few && not right) none (some (Written.line (Line.clifford qs (table_of ws)))) ≡ some w
        → (length qs ≤ 8 → length ws ≡ table_words_of (length qs)) × (Written.line (Line.clifford qs (table_of ws)) ≡ w)
    go true true p q k = (λ h. eqb-true _ _ q, some_same k)
    go true false p q k = let z : ◌≡◌ {A = ℕ} 0 1 = cc in absurd (omega arith)
    go false right p q k = (λ h. absurd (omega (arith, leb-false (length qs) 8 p)), some_same k)

-- what a line of a form says: a header, a line that records an outcome or not, noise with element lines or without, an element line
pub data Meaning (f : Form) : Written → Type 0 where
  header : (h : Header) → f ≡ form.Header → Meaning f (Written.header h)
  edition_header : (h : Header) → f ≡ form.EditionHeader → Meaning f (Written.header h)
  plain : (l : Line) → records l ≡ false → noise_form f ≡ false → Meaning f (Written.line l)
  measure : (l : Line) → f ≡ form.Measure → Meaning f (Written.line l)
  allocate : (l : Line) → f ≡ form.Allocate → Meaning f (Written.line l)
  alone : (n : NoiseLine) → element_lines_of n.kind ≡ 0 → first_total n.kind ≡ none → noise_form f ≡ true → Meaning f (Written.noise n)
  uniform : (n : NoiseLine) → f ≡ form.Uniform → first_total n.kind ≡ none → Meaning f (Written.noise n)
  weighted : (n : NoiseLine) → f ≡ form.Weighted → first_total n.kind ≡ some zero_float → Meaning f (Written.noise n)
  element : (P : SparsePauli) → f ≡ form.Element → Meaning f (Written.element none P)
  weighted_element : (v : ℕ) (P : SparsePauli) → f ≡ form.WeightedElement → Meaning f (Written.element (some v) P)

pub meaning : (f : Form) (vs : List Value) (w : Written) → (form_of f).says vs ≡ some w → Meaning f w
unfolding forms place_of bytes no_form records element_lines_of first_total noise_by noise_form
meaning form.Unread vs w e = let z : ◌≡◌ {A = ℕ} 0 1 = cc in absurd (omega arith)
meaning form.Header vs w e = subst (Meaning form.Header) (some_same e) (Meaning.header _ refl)
meaning form.Unitary vs w e =
    let (g, p, q) = unitary_said (gate_of (number_at 0 vs)) (list_at_of 0 vs) w e in subst (Meaning form.Unitary) q (Meaning.plain _ refl refl)
meaning form.Clifford vs w e = subst (Meaning form.Clifford) (clifford_said (list_at_of 0 vs) (list_at_of 1 vs) w e).1 (Meaning.plain _ refl refl)
meaning form.Pauli vs w e = subst (Meaning form.Pauli) (some_same e) (Meaning.plain _ refl refl)
meaning form.Exponential vs w e = subst (Meaning form.Exponential) (some_same e) (Meaning.plain _ refl refl)
meaning form.Controlled vs w e = subst (Meaning form.Controlled) (some_same e) (Meaning.plain _ refl refl)
meaning form.Permute vs w e = subst (Meaning form.Permute) (some_same e) (Meaning.plain _ refl refl)
meaning form.Measure vs w e = subst (Meaning form.Measure) (some_same e) (Meaning.measure _ refl)
meaning form.Allocate vs w e = subst (Meaning form.Allocate) (some_same e) (Meaning.allocate _ refl)
meaning form.Conditional vs w e = subst (Meaning form.Conditional) (some_same e) (Meaning.plain _ refl refl)
meaning form.Reset vs w e = subst (Meaning form.Reset) (some_same e) (Meaning.plain _ refl refl)
meaning form.Inject vs w e = subst (Meaning form.Inject) (some_same e) (Meaning.plain _ refl refl)
meaning form.Flip vs w e = subst (Meaning form.Flip) (some_same e) (Meaning.plain _ refl refl)
meaning form.Single vs w e = subst (Meaning form.Single) (noise_said _ _ vs w e) (Meaning.alone _ refl refl refl)
meaning form.Depolarizing vs w e = subst (Meaning form.Depolarizing) (noise_said _ _ vs w e) (Meaning.alone _ refl refl refl)
meaning form.Uniform vs w e = subst (Meaning form.Uniform) (noise_said _ _ vs w e) (Meaning.uniform _ refl refl)
meaning form.Weighted vs w e = subst (Meaning form.Weighted) (noise_said _ _ vs w e) (Meaning.weighted _ refl refl)
meaning form.Element vs w e = subst (Meaning form.Element) (some_same e) (Meaning.element _ refl)
meaning form.WeightedElement vs w e = subst (Meaning form.WeightedElement) (some_same e) (Meaning.weighted_element _ _ refl)
meaning form.EditionHeader vs w e = subst (Meaning form.EditionHeader) (some_same e) (Meaning.edition_header _ refl)
meaning form.Barrier vs w e = subst (Meaning form.Barrier) (some_same e) (Meaning.plain _ refl refl)

-- ---- a line that was read

-- a line that was parsed is said
pub said_by : {line : List ℕ} {f : Form} {fields : List ℕ} (p : ParsedAs line f fields) → Said f fields p.values p.written
unfolding SaidFits
said_by {line} p = record { says = p.says; fits = rw p.reads at (line_fits line); held = p.held }

-- a line that says something was read, and is said by its values
pub read_says : {line : List ℕ} {f : Form} {fields : List ℕ} {w : Written} → Parsed line f fields → read_line_of line ≡ some w → (vs : List Value) × Said f fields vs w
read_says {line} {f} {fields} {w} p e = go (is_unread f) refl
  where
    nothing : {A : Type 0} {a : A} → none ≡ some a → ⊥
    nothing q = let z : ◌≡◌ {A = ℕ} 0 1 = cc in omega arith

    go : (b : Bool) → is_unread f ≡ b → (vs : List Value) × Said f fields vs w
    go true u = absurd (nothing (sym (p.unread u) ∙ e))
    go false u =
        let q = p.read u in
        (q.values, subst (Said f fields q.values) (some_same (sym q.reads ∙ e)) (said_by q))

-- ---- noise or not

module _ {f : Form} where
  pub line_no_noise : {l : Line} → Meaning f (Written.line l) → noise_form f ≡ false
  unfolding noise_form
  line_no_noise (Meaning.plain l e k) = k
  line_no_noise (Meaning.measure l e) = rw e
  line_no_noise (Meaning.allocate l e) = rw e

  pub noise_is_noise : {n : NoiseLine} → Meaning f (Written.noise n) → noise_form f ≡ true
  unfolding noise_form
  noise_is_noise (Meaning.alone n e t k) = k
  noise_is_noise (Meaning.uniform n e t) = rw e
  noise_is_noise (Meaning.weighted n e t) = rw e

-- a form that is none of the four is no form of noise
pub other_no_noise : (f : Form) → (f ≡ form.Single → ⊥) → (f ≡ form.Depolarizing → ⊥) → (f ≡ form.Uniform → ⊥) → (f ≡ form.Weighted → ⊥) → noise_form f ≡ false
unfolding noise_form
other_no_noise form.Unread a b d e = refl
other_no_noise form.Header a b d e = refl
other_no_noise form.Unitary a b d e = refl
other_no_noise form.Clifford a b d e = refl
other_no_noise form.Pauli a b d e = refl
other_no_noise form.Exponential a b d e = refl
other_no_noise form.Controlled a b d e = refl
other_no_noise form.Permute a b d e = refl
other_no_noise form.Measure a b d e = refl
other_no_noise form.Allocate a b d e = refl
other_no_noise form.Conditional a b d e = refl
other_no_noise form.Reset a b d e = refl
other_no_noise form.Inject a b d e = refl
other_no_noise form.Flip a b d e = refl
other_no_noise form.Single a b d e = absurd (a refl)
other_no_noise form.Depolarizing a b d e = absurd (b refl)
other_no_noise form.Uniform a b d e = absurd (d refl)
other_no_noise form.Weighted a b d e = absurd (e refl)
other_no_noise form.Element a b d e = refl
other_no_noise form.WeightedElement a b d e = refl
other_no_noise form.EditionHeader a b d e = refl
other_no_noise form.Barrier a b d e = refl

noise_same : {m n : NoiseLine} → Written.noise m ≡ Written.noise n → m ≡ n
noise_same e = cc

-- how many element lines follow a noise line
module _ {fields : List ℕ} {vs : List Value} {n : NoiseLine} where
  pub lines_uniform : Said form.Uniform fields vs (Written.noise n) → held_number fields 2 ≡ element_lines_of n.kind
  unfolding forms place_of bytes element_lines_of noise_by
  lines_uniform h = h.held.number 2 (omega arith) ∙ ap (λ (m : NoiseLine). element_lines_of m.kind) (noise_same (noise_said _ _ vs (Written.noise n) h.says))

  pub lines_weighted : Said form.Weighted fields vs (Written.noise n) → held_number fields 2 ≡ element_lines_of n.kind
  unfolding forms place_of bytes element_lines_of noise_by
  lines_weighted h = h.held.number 2 (omega arith) ∙ ap (λ (m : NoiseLine). element_lines_of m.kind) (noise_same (noise_said _ _ vs (Written.noise n) h.says))

  pub lines_alone : {f : Form} → (f ≡ form.Uniform → ⊥) → (f ≡ form.Weighted → ⊥) → Said f fields vs (Written.noise n) → 0 ≡ element_lines_of n.kind
  lines_alone {f} a b h = go (meaning f vs (Written.noise n) h.says)
    where
      go : Meaning f (Written.noise n) → 0 ≡ element_lines_of n.kind
      go (Meaning.alone m e t k) = sym e
      go (Meaning.uniform m e t) = absurd (a e)
      go (Meaning.weighted m e t) = absurd (b e)

-- and whether these have weights
module _ (f : Form) (vs : List Value) (n : NoiseLine) (says : (form_of f).says vs ≡ some (Written.noise n)) where
  pub with_weights : f ≡ form.Weighted → has_weights_of n.kind ≡ true
  unfolding forms place_of bytes noise_by first_total has_total
  with_weights w =
      sym (ap (λ (m : NoiseLine). has_weights_of m.kind) (noise_same (noise_said _ _ vs (Written.noise n) (subst (λ (g : Form). (form_of g).says vs ≡ some (Written.noise n)) w says))))

  pub without_weights : (f ≡ form.Weighted → ⊥) → has_weights_of n.kind ≡ false
  unfolding has_total
  without_weights a = go (meaning f vs (Written.noise n) says)
    where
      go : Meaning f (Written.noise n) → has_weights_of n.kind ≡ false
      go (Meaning.alone m e t k) = rw t
      go (Meaning.uniform m e t) = rw t
      go (Meaning.weighted m e t) = absurd (a e)

-- ---- the numbers of the forms, as the code's enum has them, without those of some

abbrev is_in : ℕ → List ℕ → Bool
is_in k [] = false
is_in k (j ∷ js) = eqb k j || is_in k js

abbrev keys_from : ℕ → ℕ → List ℕ → List ℕ
keys_from k zero js = []
keys_from k (suc n) js = cond (is_in k js) (keys_from (suc k) n js) (k ∷ keys_from (suc k) n js)

abbrev pub others_than : List ℕ → List ℕ
others_than js = keys_from 0 22 js
