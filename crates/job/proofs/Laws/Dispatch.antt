-- A line's mark, one byte, names the one form that the line can have, so that code which looks at the mark reads by one template. Assumes nothing.
use Rattle.std.specs.Prelude.{ℕ, ◌+◌, ◌≡◌, Bool, true, false, cond, not, ◌&&◌, List, [], ◌∷◌, eqb, ltb, get_or}
use Rattle.std.proofs.Math.Path.{refl}
use Rattle.std.proofs.Common.{ap, ltb-true, eqb-true}
use Rattle.std.proofs.Math.Option.{Option, none, some}
use Rattle.std.proofs.lemmas.Bool.{eqb-false, not-true}
use Rattle.text.specs.Bytes.{bytes, behind}
use Rattle.text.specs.Template.{Value, values_of}
use Rattle.text.proofs.Laws.Values.{both}
use Rattle.text.proofs.Laws.Places.{literals, same_place}
use Rattle.job.specs.Grammar.{Written, Form, forms, said, or_later, read_by, read_line_of}
use Rattle.job.specs.Marks.{mark_of, read_as, form_from, form_by_mark}

-- ---- marks

-- whether a template says which mark its lines have: the bytes that the mark looks at stand for themselves
unfoldable pub has_mark : List ℕ → Bool
has_mark ts =
    ltb 0 (literals ts)
    && cond (eqb (get_or ts 0 0) 111)
    (ltb 3 (literals ts) && cond (eqb (get_or ts 3 0) 110) (ltb 2 (literals (behind 5 ts))) (cond (eqb (get_or ts 3 0) 106) (ltb 7 (literals ts)) true)) true

-- the mark of a line that has values by a template is the template's
pub mark_same : (ts l : List ℕ) (v : List Value) → has_mark ts ≡ true → values_of ts l ≡ some v → mark_of l ≡ mark_of ts
unfolding mark_of has_mark behind
mark_same ts l v h e =
    let parts = both (ltb 0 (literals ts)) _ h in
    rw (same_place ts l v e 0 0 (ltb-true _ _ parts.0)) (first (eqb (get_or ts 0 0) 111) parts.1)
  where
    third : (b h : Bool) → cond b (ltb 2 (literals (behind 5 ts))) (cond h (ltb 7 (literals ts)) true) ≡ true
        → cond b (get_or (behind 5 l) 2 0) (cond h (256 + get_or l 7 0) (get_or ts 3 0)) ≡ cond b (get_or (behind 5 ts) 2 0) (cond h (256 + get_or ts 7 0) (get_or ts 3 0))
    third true h q = same_place ts l v e 5 2 (ltb-true _ _ q)
    third false true q = ap (λ (k : ℕ). 256 + k) (same_place ts l v e 0 7 (ltb-true _ _ q))
    third false false q = refl

    first : (b : Bool)
        → cond b (ltb 3 (literals ts) && cond (eqb (get_or ts 3 0) 110) (ltb 2 (literals (behind 5 ts))) (cond (eqb (get_or ts 3 0) 106) (ltb 7 (literals ts)) true)) true ≡ true
        → cond b (cond (eqb (get_or l 3 0) 110) (get_or (behind 5 l) 2 0) (cond (eqb (get_or l 3 0) 106) (256 + get_or l 7 0) (get_or l 3 0))) (get_or ts 0 0)
        ≡ cond b (cond (eqb (get_or ts 3 0) 110) (get_or (behind 5 ts) 2 0) (cond (eqb (get_or ts 3 0) 106) (256 + get_or ts 7 0) (get_or ts 3 0))) (get_or ts 0 0)
    first true q =
        let parts = both (ltb 3 (literals ts)) _ q in
        rw (same_place ts l v e 0 3 (ltb-true _ _ parts.0)) (third (eqb (get_or ts 3 0) 110) (eqb (get_or ts 3 0) 106) parts.1)
    first false q = refl

-- ---- the form of a mark

-- no form has the mark
unfoldable pub without : ℕ → List Form → Bool
without k [] = true
without k (f ∷ fs) = not (eqb k (mark_of f.template)) && without k fs

-- each form says its mark, and no two forms have the same
unfoldable pub marked : List Form → Bool
marked [] = true
marked (f ∷ fs) = has_mark f.template && without (mark_of f.template) fs && marked fs

-- the forms are marked
forms_marked : marked forms ≡ true
unfolding marked without has_mark mark_of behind literals forms bytes
forms_marked = refl

-- a line of another mark has no values by the form
other_mark : (f : Form) (l : List ℕ) → has_mark f.template ≡ true → eqb (mark_of l) (mark_of f.template) ≡ false → read_as f l ≡ none
other_mark f l h e = go (values_of f.template l) refl
  where
    go : (o : Option (List Value)) → values_of f.template l ≡ o → said f.says o ≡ none
    go none q = unfold said in refl
    go (some v) q = absurd (eqb-false _ _ e (mark_same f.template l v h q))

pub no_form : (fs : List Form) (l : List ℕ) → marked fs ≡ true → without (mark_of l) fs ≡ true → read_by fs l ≡ none
unfolding marked without read_by or_later
no_form [] l m w = refl
no_form (f ∷ fs) l m w =
    let one = both (has_mark f.template && without (mark_of f.template) fs) (marked fs) m in
    let two = both (not (eqb (mark_of l) (mark_of f.template))) (without (mark_of l) fs) w in
    rw (other_mark f l (both (has_mark f.template) _ one.0).0 (not-true _ two.0)) (no_form fs l one.1 two.1)

-- of forms with marks, the one of the line's mark reads it
read_marked : (fs : List Form) (l : List ℕ) → marked fs ≡ true → read_by fs l ≡ read_as (form_from (mark_of l) fs) l
unfolding marked read_by form_from or_later
read_marked [] l m = go (values_of [] l)
  where
    go : (o : Option (List Value)) → none ≡ said (λ v. none) o
    go none = unfold said in refl
    go (some v) = unfold said in refl
read_marked (f ∷ fs) l m =
    let one = both (has_mark f.template && without (mark_of f.template) fs) (marked fs) m in
    let two = both (has_mark f.template) (without (mark_of f.template) fs) one.0 in
    go (eqb (mark_of l) (mark_of f.template)) refl two.0 two.1 one.1 (read_marked fs l one.1)
  where
    alone : (o : Option Written) → or_later o none ≡ o
    alone none = refl
    alone (some w) = refl

    go : (b : Bool) → eqb (mark_of l) (mark_of f.template) ≡ b → has_mark f.template ≡ true → without (mark_of f.template) fs ≡ true → marked fs ≡ true
        → read_by fs l ≡ read_as (form_from (mark_of l) fs) l
        → or_later (read_as f l) (read_by fs l) ≡ read_as (cond b f (form_from (mark_of l) fs)) l
    go true e h w m ih = rw (no_form fs l m (rw (eqb-true (mark_of l) (mark_of f.template) e) w)) (alone (read_as f l))
    go false e h w m ih = rw (other_mark f l h e) ih

-- A line says what it says by the one form of its mark.
pub read_by_mark : (l : List ℕ) → read_line_of l ≡ read_as (form_by_mark (mark_of l)) l
unfolding read_line_of
read_by_mark l = read_marked forms l forms_marked
