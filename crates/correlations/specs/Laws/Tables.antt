-- A correlation looked up in a table. Laws. Assumes nothing.
use Rattle.std.specs.Prelude.{ℕ, suc, ◌+◌, ◌≤◌, ◌<◌, ◌≡◌, refl, Bool, true, false, cond, List, [], ◌∷◌, ◌++◌, eqb, length, get_or, set, take}
use Rattle.std.proofs.Common.{add-one, arith, sym, ap, ◌∙◌, take-suc-set, length-take-le}
use Rattle.std.proofs.Math.Option.{Option, none, some}
use Rattle.text.specs.Bytes.{until}
use Rattle.circuit.specs.Correlation.{Seen, agrees}
use Rattle.correlations.specs.Sizes.{table_of, size_for}

-- ---- where it stands

-- not in the table, or at a place of it
pub size_unseen : (c : ℕ) (seen sizes : List ℕ) → until c seen ≡ length seen → size_for (table_of seen sizes) c ≡ none
unfolding until table_of size_for
size_unseen c [] sizes e = refl
size_unseen c (b ∷ seen) [] e = refl
size_unseen c (b ∷ seen) (s ∷ sizes) e = go (eqb b c) refl e (size_unseen c seen sizes)
  where
    go : (t : Bool) → eqb b c ≡ t → cond t 0 (suc (until c seen)) ≡ suc (length seen) → (until c seen ≡ length seen → size_for (table_of seen sizes) c ≡ none)
        → cond t (some s) (size_for (table_of seen sizes) c) ≡ none
    go true q h ih = absurd (omega arith)
    go false q h ih = ih (omega arith)

pub size_seen : (c : ℕ) (seen sizes : List ℕ) → length seen ≡ length sizes → (until c seen ≡ length seen → ⊥) → size_for (table_of seen sizes) c ≡ some (get_or sizes (until c seen) 0)
unfolding until table_of size_for
size_seen c [] sizes l h = absurd (h refl)
size_seen c (b ∷ seen) [] l h = absurd (omega arith)
size_seen c (b ∷ seen) (s ∷ sizes) l h = go (eqb b c) h (size_seen c seen sizes (omega arith))
  where
    go : (t : Bool) → (cond t 0 (suc (until c seen)) ≡ suc (length seen) → ⊥) → ((until c seen ≡ length seen → ⊥) → size_for (table_of seen sizes) c ≡ some (get_or sizes (until c seen) 0))
        → cond t (some s) (size_for (table_of seen sizes) c) ≡ some (get_or (s ∷ sizes) (cond t 0 (suc (until c seen))) 0)
    go true k ih = refl
    go false k ih = ih (λ (e : until c seen ≡ length seen). k (ap suc e))

pub until_within : (c : ℕ) (seen : List ℕ) → until c seen ≤ length seen
unfolding until
until_within c [] = omega arith
until_within c (b ∷ seen) = go (eqb b c) (until_within c seen)
  where
    go : (t : Bool) → until c seen ≤ length seen → cond t 0 (suc (until c seen)) ≤ suc (length seen)
    go true k = omega arith
    go false k = omega arith

-- ---- one more

table_snoc : (seen sizes : List ℕ) (c s : ℕ) → length seen ≡ length sizes → table_of (seen ++ c ∷ []) (sizes ++ s ∷ []) ≡ table_of seen sizes ++ record { correlation = c; size = s } ∷ []
unfolding table_of
table_snoc [] [] c s e = refl
table_snoc [] (t ∷ sizes) c s e = absurd (omega arith)
table_snoc (b ∷ seen) [] c s e = absurd (omega arith)
table_snoc (b ∷ seen) (t ∷ sizes) c s e = ap (λ (l : List Seen). record { correlation = b; size = t } ∷ l) (table_snoc seen sizes c s (omega arith))

pub table_more : (n c s : ℕ) (seen sizes : List ℕ) → n < length seen → length seen ≡ length sizes
    → table_of (take (n + 1) (set seen n c)) (take (n + 1) (set sizes n s)) ≡ table_of (take n seen) (take n sizes) ++ record { correlation = c; size = s } ∷ []
table_more n c s seen sizes h e =
    let there : n < length sizes = omega arith in
    let same : length (take n seen) ≡ length (take n sizes) = length-take-le n seen (omega arith) ∙ sym (length-take-le n sizes (omega arith)) in
    rw (add-one, take-suc-set seen n c h, take-suc-set sizes n s there) (table_snoc (take n seen) (take n sizes) c s same)

-- ---- one size for a correlation

-- a size beside the size that was seen
unfoldable pub same_size : Option ℕ → ℕ → Bool
same_size none s = true
same_size (some t) s = eqb t s

pub agrees_by : (seen : List Seen) (c s : ℕ) → agrees seen c s ≡ same_size (size_for seen c) s
unfolding agrees size_for same_size
agrees_by [] c s = refl
agrees_by (x ∷ seen) c s = go (eqb x.correlation c) (agrees_by seen c s)
  where
    go : (t : Bool) → agrees seen c s ≡ same_size (size_for seen c) s
        → cond t (eqb x.size s) (agrees seen c s) ≡ same_size (cond t (some x.size) (size_for seen c)) s
    go true ih = refl
    go false ih = ih

unfoldable pub or_else : Option ℕ → Option ℕ → Option ℕ
or_else none o = o
or_else (some a) o = some a

pub size_append : (a b : List Seen) (c : ℕ) → size_for (a ++ b) c ≡ or_else (size_for a c) (size_for b c)
unfolding size_for or_else
size_append [] b c = refl
size_append (x ∷ a) b c = go (eqb x.correlation c) (size_append a b c)
  where
    go : (t : Bool) → size_for (a ++ b) c ≡ or_else (size_for a c) (size_for b c)
        → cond t (some x.size) (size_for (a ++ b) c) ≡ or_else (cond t (some x.size) (size_for a c)) (size_for b c)
    go true ih = refl
    go false ih = ih

pub size_one : (c s d : ℕ) → size_for (record { correlation = c; size = s } ∷ []) d ≡ cond (eqb c d) (some s) none
unfolding size_for
size_one c s d = refl
