-- Characters of elements that are kept. Laws. Assumes nothing.
use Rattle.std.specs.Prelude.{ℕ, zero, suc, ◌+◌, ◌-◌, ◌*◌, ◌≤◌, ◌<◌, ◌≡◌, refl, true, false, List, [], ◌∷◌, ◌++◌, get_or, take, drop}
use native.Mathlib.Omega.{arith}
use Rattle.std.proofs.Common.{sym, ap, ap₂, subst, ◌∙◌, true≢false, take_at, drop-drop}
use Rattle.std.proofs.Math.Option.{Option, none, some}
use Rattle.std.proofs.Math.ListN.{length}
use Rattle.pauli.specs.Pauli.{Pauli}
use Rattle.text.specs.Bytes.{bytes}
use Rattle.text.specs.Template.{Value, list_at_of}
use Rattle.template.specs.Values.{Whole, AllKept, held_list}
use Rattle.template.specs.Fields.{Held}
use Rattle.template.specs.Laws.Fields.{list_held}
use Rattle.job.specs.Line.{SparsePauli, pauli_of, WeightedPauli}
use Rattle.job.specs.Grammar.{Written, pauli_at_of, forms}
use Rattle.job.specs.Job.{weight_of}
use Rattle.job.specs.Sound.{PauliSound}
use Rattle.reader.specs.declared.Form.{Form}
use Rattle.reader.specs.declared.Form.TheVariants as form
use Rattle.reader.specs.Parsed.{place_of, form_of, Said}
use Rattle.instructions.specs.Laws.Meaning.{some_same, Meaning, meaning}
use Rattle.backward.specs.Walk.{Carried}
use Rattle.lines_back.specs.Laws.Parts.{all_below_lem}
use Rattle.fault_table.specs.Lent.{all_carried}
use Rattle.fault_table.specs.Laws.Words.{partly, partly_from, partly_behind}
use Rattle.fault_table.specs.Rows.{kept_at}
use Rattle.fault_table.specs.Said.{held_pauli, PauliHeld, is_element_of, marks_by, marks_of, no_element, KeptFor, elements_with, ElementKnown}

-- ---- values

-- the Pauli of two lists of a sound line
module _ {words : List ℕ} {a b : ℕ} {vs : List Value} (h : Held words a b vs) (wide : Whole words) (first : ℕ) (inside : first + 1 < b)
    (sound : PauliSound 256 (pauli_at_of first (first + 1) vs)) where
  x_kept : AllKept words first
  x_kept = rw (h.count first (omega arith)) sound.x.few

  z_kept : AllKept words (first + 1)
  z_kept = rw (h.count (first + 1) inside) sound.z.few

  x_list : held_list words first ≡ list_at_of first vs
  x_list = list_held h wide first (omega arith) x_kept

  z_list : held_list words (first + 1) ≡ list_at_of (first + 1) vs
  z_list = list_held h wide (first + 1) inside z_kept

  pub pauli_held : PauliHeld words first
  pauli_held =
      record {
        two = omega (arith, h.few_lists);
        wide = wide;
        x_kept = x_kept;
        z_kept = z_kept;
        x = rw x_list (all_below_lem sound.x.below);
        z = rw z_list (all_below_lem sound.z.below);
      }

  pub pauli_same : held_pauli words first ≡ pauli_at_of first (first + 1) vs
  pauli_same = ap₂ (λ (x z : List ℕ). record { x = x; z = z }) x_list z_list

-- ---- characters, one for each group

all_long : (n : ℕ) (words : List ℕ) → length (all_carried n words) ≡ n
unfolding all_carried
all_long zero words = refl
all_long (suc n) words = ap suc (all_long n (drop 24 words))

map_long : (P : Pauli) (cs : List Carried) → length (marks_by cs P) ≡ length cs
map_long P [] = refl
map_long P (c ∷ cs) = ap suc (map_long P cs)

pub marks_long : (n : ℕ) (words : List ℕ) (P : Pauli) → length (marks_by (all_carried n words) P) ≡ n
marks_long n words P = map_long P (all_carried n words) ∙ all_long n words

-- ---- elements by their forms

meaning_no_element : {f : Form} {w : Written} → (f ≡ form.Element → ⊥) → (f ≡ form.WeightedElement → ⊥) → Meaning f w → false ≡ is_element_of w
unfolding is_element_of
meaning_no_element a b (Meaning.header h e) = refl
meaning_no_element a b (Meaning.edition_header h e) = refl
meaning_no_element a b (Meaning.plain l e k) = refl
meaning_no_element a b (Meaning.measure l e) = refl
meaning_no_element a b (Meaning.allocate l e) = refl
meaning_no_element a b (Meaning.alone n e t k) = refl
meaning_no_element a b (Meaning.uniform n e t) = refl
meaning_no_element a b (Meaning.weighted n e t) = refl
meaning_no_element a b (Meaning.element P e) = absurd (a e)
meaning_no_element a b (Meaning.weighted_element v P e) = absurd (b e)

pub no_element_lem : (f : Form) → (f ≡ form.Element → ⊥) → (f ≡ form.WeightedElement → ⊥) → (vs : List Value) (w : Written) → (form_of f).says vs ≡ some w → false ≡ is_element_of w
no_element_lem f a b vs w e = meaning_no_element a b (meaning f vs w e)

pub an_element : {f : Form} → f ≡ form.Element → (vs : List Value) (w : Written) → (form_of f).says vs ≡ some w → true ≡ is_element_of w
unfolding forms place_of bytes is_element_of
an_element e vs w s = ap is_element_of (some_same (rw e at s))

pub a_weighted_element : {f : Form} → f ≡ form.WeightedElement → (vs : List Value) (w : Written) → (form_of f).says vs ≡ some w → true ≡ is_element_of w
unfolding forms place_of bytes is_element_of
a_weighted_element e vs w s = ap is_element_of (some_same (rw e at s))

-- an element line has its Pauli in its first two lists
pub record ElementAt (words : List ℕ) (vs : List Value) (w : Written) : Type 0 where
  pub weight : Option ℕ
  pub numbers : ℕ
  pub is : w ≡ Written.element weight (pauli_at_of 0 1 vs)
  pub held : Held words numbers 2 vs

pub element_at : {f : Form} {words : List ℕ} {vs : List Value} {w : Written} → Said f words vs w → true ≡ is_element_of w → ElementAt words vs w
unfolding is_element_of forms place_of bytes
element_at {f} {words} {vs} {w} s e = go (meaning f vs w s.says) e s
  where
    plain : {k : Form} → f ≡ k → Said f words vs w → Said k words vs w
    plain h s = subst (λ (k : Form). Said k words vs w) h s

    go : {u : Written} → Meaning f u → true ≡ is_element_of u → Said f words vs w → ElementAt words vs w
    go (Meaning.header h k) e s = absurd (true≢false e)
    go (Meaning.edition_header h k) e s = absurd (true≢false e)
    go (Meaning.plain l k t) e s = absurd (true≢false e)
    go (Meaning.measure l k) e s = absurd (true≢false e)
    go (Meaning.allocate l k) e s = absurd (true≢false e)
    go (Meaning.alone n a b k) e s = absurd (true≢false e)
    go (Meaning.uniform n a b) e s = absurd (true≢false e)
    go (Meaning.weighted n a b) e s = absurd (true≢false e)
    go (Meaning.element P k) e s =
        let q = plain k s in record { weight = none; numbers = 0; is = sym (some_same q.says); held = q.held }
    go (Meaning.weighted_element v P k) e s =
        let q = plain k s in record { weight = some _; numbers = 1; is = sym (some_same q.says); held = q.held }

-- ---- one more

module _ {groups : ℕ} {cs : List Carried} {kept : List ℕ} {es : List WeightedPauli} (k : KeptFor groups cs kept es) where
  pub kept_still : (w : Written) → is_element_of w ≡ false → KeptFor groups cs kept (elements_with w es)
  unfolding is_element_of elements_with
  kept_still (Written.header h) e = k
  kept_still (Written.line l) e = k
  kept_still (Written.noise n) e = k
  kept_still (Written.element v P) e = absurd (true≢false e)

  pub kept_full : (w : Written) (n : ℕ) → true ≡ is_element_of w → n ≡ length es → 64 ≤ n → KeptFor groups cs kept (elements_with w es)
  unfolding is_element_of elements_with
  kept_full (Written.header h) n e size full = absurd (true≢false e)
  kept_full (Written.line l) n e size full = absurd (true≢false e)
  kept_full (Written.noise m) n e size full = absurd (true≢false e)
  kept_full (Written.element v P) n e size full = record { held = λ few i h. absurd (omega arith) }

  pub kept_more : (v : Option ℕ) (P : SparsePauli) (n : ℕ) (part : List ℕ) → n ≡ length es → n < 64 → groups ≤ 16 → length kept ≡ 1024 → length part ≡ groups
      → part ≡ marks_of cs P
      → KeptFor groups cs (take ((63 - n) * 16) kept ++ (part ++ drop groups (drop ((63 - n) * 16) kept))) (elements_with (Written.element v P) es)
  unfolding elements_with
  kept_more v P n part size inside few long wide is = record { held = more }
    where
      room : (63 - n) * 16 + groups ≤ length kept
      room = omega arith

      more : suc (length es) ≤ 64 → (e : ℕ) → e < suc (length es)
          → kept_at groups (suc (length es)) (partly kept part ((63 - n) * 16) groups wide room) e
          ≡ marks_of cs (get_or (record { weight = weight_of v; pauli = P } ∷ es) e no_element).pauli
      more h zero i =
          let here : (64 - suc (length es) + 0) * 16 ≡ (63 - n) * 16 = omega arith in
          ap (λ (k : ℕ). take groups (drop k (partly kept part ((63 - n) * 16) groups wide room))) here
          ∙ ap (take groups) (partly_from kept part ((63 - n) * 16) groups wide room)
          ∙ take_at part (drop ((63 - n) * 16 + groups) kept) groups wide
          ∙ is
      more h (suc e) i =
          let d : ℕ = 16 - groups + e * 16 in
          let there : (64 - suc (length es) + suc e) * 16 ≡ (63 - n) * 16 + groups + d = omega arith in
          let then : (63 - n) * 16 + groups + d ≡ (64 - length es + e) * 16 = omega arith in
          ap (λ (k : ℕ). take groups (drop k (partly kept part ((63 - n) * 16) groups wide room))) there
          ∙ ap (take groups)
          (sym (drop-drop d ((63 - n) * 16 + groups) (partly kept part ((63 - n) * 16) groups wide room))
          ∙ ap (drop d) (partly_behind kept part ((63 - n) * 16) groups wide room)
          ∙ drop-drop d ((63 - n) * 16 + groups) kept)
          ∙ ap (λ (k : ℕ). take groups (drop k kept)) then
          ∙ k.held (omega arith) e (omega arith)

-- of a line that is known
module _ {f : Form} {words : List ℕ} (q : ElementKnown f words) (e : true ≡ is_element_of q.written) where
  at : ElementAt words q.values q.written
  at = element_at q.said e

  sound : PauliSound 256 (pauli_at_of 0 1 q.values)
  sound = q.element at.weight (pauli_at_of 0 1 q.values) at.is

  pub element_held : PauliHeld words 0
  element_held = pauli_held at.held q.wide 0 (omega arith) sound

  pub kept_element : {groups : ℕ} {cs : List Carried} {kept : List ℕ} {es : List WeightedPauli} {P : Pauli} (k : KeptFor groups cs kept es) (n : ℕ) (part : List ℕ)
      → n ≡ length es → n < 64 → groups ≤ 16 → length kept ≡ 1024 → length part ≡ groups → P ≡ pauli_of (held_pauli words 0) → part ≡ marks_by cs P
      → KeptFor groups cs (take ((63 - n) * 16) kept ++ (part ++ drop groups (drop ((63 - n) * 16) kept))) (elements_with q.written es)
  kept_element {groups} {cs} {kept} {es} k n part size inside few long wide p is =
      subst (λ (w : Written). KeptFor groups cs (take ((63 - n) * 16) kept ++ (part ++ drop groups (drop ((63 - n) * 16) kept))) (elements_with w es)) (sym at.is)
      (kept_more k at.weight (pauli_at_of 0 1 q.values) n part size inside few long wide
      (is ∙ ap (marks_by cs) (p ∙ ap pauli_of (pauli_same at.held q.wide 0 (omega arith) sound))))
