-- Forms that a line can not have, sifted out by a few of its bytes: laws. Assumes nothing.
use Prim.Native.Nat.{ℕ, suc, ◌≤◌, ◌<◌}
use Rattle.std.proofs.Common.{arith, sym, ap, ◌∙◌, true≢false, ltb-true, leb-false, eqb-true, ne_eqb}
use Rattle.std.specs.Prelude.{◌≡◌, Bool, ◌&&◌, ◌||◌, eqb, ltb, leb, length, get_or, take, drop}
use Rattle.std.proofs.Math.Path.{refl}
use Rattle.std.proofs.Math.Bool.{true, false, cond}
use mathlib.Core.List.{List, [], ◌∷◌}
use Rattle.std.proofs.Math.Option.{Option, none, some}
use Rattle.std.proofs.lemmas.Bool.{eqb-false}
use Rattle.std.proofs.Math.ListN.{length-drop}
use Rattle.text.specs.Bytes.{space, until, behind}
use Rattle.text.specs.Template.{Value, is_letter_of, value_of, and_then, same_byte, values_of}
use Rattle.text.proofs.Laws.Values.{both, none_some}
use Rattle.text.proofs.Laws.Places.{literals, other_place}
use Rattle.job.specs.Grammar.{Written, Form, forms, said, or_later, read_by, read_line_of}
use Rattle.job.specs.Marks.{read_as}

-- ---- sifting

module _ {A : Type 0} where
  unfoldable pub sift : (A → Bool) → List A → List A
  sift keep [] = []
  sift keep (a ∷ rest) = let later = sift keep rest in cond (keep a) (a ∷ later) later

  -- the forms of some things
  unfoldable pub forms_of : (A → Form) → List A → List Form
  forms_of form [] = []
  forms_of form (a ∷ rest) = form a ∷ forms_of form rest

  -- Forms by which a line says nothing may be left out.
  pub sifted : (form : A → Form) (l : List ℕ) (keep : A → Bool) → ((a : A) → keep a ≡ false → read_as (form a) l ≡ none) → (rest : List A)
      → read_by (forms_of form rest) l ≡ read_by (forms_of form (sift keep rest)) l
  unfolding sift forms_of read_by
  sifted form l keep h [] = refl
  sifted form l keep h (a ∷ rest) = go (keep a) refl (sifted form l keep h rest)
    where
      go : (b : Bool) → keep a ≡ b → read_by (forms_of form rest) l ≡ read_by (forms_of form (sift keep rest)) l
          → or_later (read_as (form a) l) (read_by (forms_of form rest) l) ≡ read_by (forms_of form (cond b (a ∷ sift keep rest) (sift keep rest))) l
      go true e ih = rw ih
      go false e ih = unfold or_later in rw (h a e) ih

-- one form alone
pub read_alone : (f : Form) (l : List ℕ) → read_by (f ∷ []) l ≡ read_as f l
unfolding read_by
read_alone f l = go (read_as f l)
  where
    go : (o : Option Written) → or_later o none ≡ o
    go none = unfold or_later in refl
    go (some w) = unfold or_later in refl

pub no_values : (f : Form) (l : List ℕ) → values_of f.template l ≡ none → read_as f l ≡ none
unfolding said
no_values f l e = rw e

-- ---- by a byte

-- whether a template's byte at i, where it stands for itself, is b
unfoldable pub opens : ℕ → ℕ → List ℕ → Bool
opens i b ts = cond (ltb i (literals ts)) (eqb b (get_or ts i 0)) true

-- the forms whose lines can have the byte b at i
abbrev pub opening : ℕ → ℕ → List Form → List Form
opening i b fs = sift (λ (f : Form). opens i b f.template) fs

not_open : (i : ℕ) (ts l : List ℕ) → opens i (get_or l i 0) ts ≡ false → values_of ts l ≡ none
unfolding opens behind
not_open i ts l e = go (ltb i (literals ts)) refl e
  where
    go : (b : Bool) → ltb i (literals ts) ≡ b → cond b (eqb (get_or l i 0) (get_or ts i 0)) true ≡ false → values_of ts l ≡ none
    go true h e = other_place ts l 0 i (ltb-true i (literals ts) h) (eqb-false _ _ e)
    go false h e = absurd (true≢false e)

same_forms : (fs : List Form) → forms_of (λ f. f) fs ≡ fs
unfolding forms_of
same_forms [] = refl
same_forms (f ∷ fs) = ap (λ (gs : List Form). f ∷ gs) (same_forms fs)

pub read_opening : (i : ℕ) (l : List ℕ) (fs : List Form) → read_by fs l ≡ read_by (opening i (get_or l i 0) fs) l
read_opening i l fs =
    let by : List Form → Option Written = λ gs. read_by gs l in
    ap by (sym (same_forms fs))
    ∙ sifted (λ (f : Form). f) l (λ (f : Form). opens i (get_or l i 0) f.template) (λ f e. no_values f l (not_open i f.template l e)) fs
    ∙ ap by (same_forms (opening i (get_or l i 0) fs))

-- a byte is none of these
abbrev pub Absent : ℕ → List ℕ → Type 0
Absent b [] = Unit {0}
Absent b (k ∷ ks) = Absent b ks × (b ≡ k → ⊥)

unfoldable pub is_among : ℕ → List ℕ → Bool
is_among b [] = false
is_among b (k ∷ ks) = eqb b k || is_among b ks

other_byte : (t b : ℕ) (ks : List ℕ) → is_among t ks ≡ true → Absent b ks → b ≡ t → ⊥
unfolding is_among
other_byte t b [] h a e = true≢false (sym h)
other_byte t b (k ∷ ks) h a e = go (eqb t k) refl (λ q. other_byte t b ks q a.0 e) h
  where
    go : (x : Bool) → eqb t k ≡ x → (is_among t ks ≡ true → ⊥) → (x || is_among t ks) ≡ true → ⊥
    go true q ih h = a.1 (e ∙ eqb-true t k q)
    go false q ih h = ih h

-- each form has one of these bytes at i
unfoldable pub all_among : ℕ → List ℕ → List Form → Bool
all_among i ks [] = true
all_among i ks (f ∷ fs) = (ltb i (literals f.template) && is_among (get_or f.template i 0) ks) && all_among i ks fs

-- a byte that none of the forms has
pub none_opening : (i b : ℕ) (ks : List ℕ) (fs : List Form) → all_among i ks fs ≡ true → Absent b ks → opening i b fs ≡ []
unfolding sift opens all_among
none_opening i b ks [] h a = refl
none_opening i b ks (f ∷ fs) h a =
    let now = both (ltb i (literals f.template) && is_among (get_or f.template i 0) ks) (all_among i ks fs) h in
    let here = both (ltb i (literals f.template)) (is_among (get_or f.template i 0) ks) now.0 in
    let other : eqb b (get_or f.template i 0) ≡ false = ne_eqb _ _ (other_byte (get_or f.template i 0) b ks here.1 a) in
    rw (here.0, other) (none_opening i b ks fs now.1 a)

-- ---- by the length

-- how many bytes of a template stand for themselves
unfoldable pub plain_bytes : List ℕ → ℕ
plain_bytes [] = 0
plain_bytes (t ∷ ts) = cond (is_letter_of t) (plain_bytes ts) (suc (plain_bytes ts))

-- a line has at least those bytes
plain_bytes_lem : (ts l : List ℕ) (v : List Value) → values_of ts l ≡ some v → plain_bytes ts ≤ length l
unfolding values_of plain_bytes
plain_bytes_lem [] l v h = omega arith
plain_bytes_lem (t ∷ ts) l v h = go (is_letter_of t) (plain_bytes_lem ts) h
  where
    value : (o : Option Value) (u : ℕ) (p : Option (List Value)) → ((w : List Value) → p ≡ some w → plain_bytes ts ≤ length (drop u l)) → and_then o p ≡ some v
        → plain_bytes ts ≤ length l
    value none u p ih h = unfold and_then in absurd (none_some h)
    value (some d) u none ih h = unfold and_then in absurd (none_some h)
    value (some d) u (some w) ih h = omega (arith, ih w refl, length-drop u l)

    literal : (l : List ℕ) → ((k : List ℕ) (w : List Value) → values_of ts k ≡ some w → plain_bytes ts ≤ length k) → same_byte t l (values_of ts) ≡ some v
        → suc (plain_bytes ts) ≤ length l
    literal [] ih h = unfold same_byte in absurd (none_some h)
    literal (b ∷ l) ih h = unfold same_byte in pick (eqb b t) h
      where
        pick : (x : Bool) → cond x (values_of ts l) none ≡ some v → suc (plain_bytes ts) ≤ suc (length l)
        pick true h = omega (arith, ih l v h)
        pick false h = absurd (none_some h)

    go : (x : Bool) → ((k : List ℕ) (w : List Value) → values_of ts k ≡ some w → plain_bytes ts ≤ length k)
        → cond x (and_then (value_of t (take (until space l) l)) (values_of ts (drop (until space l) l))) (same_byte t l (values_of ts)) ≡ some v
        → cond x (plain_bytes ts) (suc (plain_bytes ts)) ≤ length l
    go true ih h = value _ (until space l) (values_of ts (drop (until space l) l)) (ih (drop (until space l) l)) h
    go false ih h = literal l ih h

too_short : (ts l : List ℕ) → length l < plain_bytes ts → values_of ts l ≡ none
too_short ts l h = go (values_of ts l) refl
  where
    go : (o : Option (List Value)) → values_of ts l ≡ o → o ≡ none
    go none e = refl
    go (some v) e = absurd (omega (arith, plain_bytes_lem ts l v e))

-- ---- the table of forms

-- what a line says, by its bytes 0 and 3
pub read_by_bytes : (l : List ℕ) → read_line_of l ≡ read_by (opening 3 (get_or l 3 0) (opening 0 (get_or l 0 0) forms)) l
unfolding read_line_of
read_by_bytes l = read_opening 0 l forms ∙ read_opening 3 l (opening 0 (get_or l 0 0) forms)

-- each form has four bytes or more
pub read_short : (l : List ℕ) → length l < 4 → read_line_of l ≡ none
unfolding read_line_of forms sift forms_of plain_bytes read_by
read_short l h =
    sifted (λ (f : Form). f) l (λ (f : Form). leb (plain_bytes f.template) 3)
    (λ f e. no_values f l (too_short f.template l (omega (arith, leb-false (plain_bytes f.template) 3 e)))) forms
