-- The bytes that a line has from its template, and what follows where it has others: laws. Assumes nothing.
use Prim.Native.Nat.{ℕ, zero, suc, ◌<◌}
use Rattle.std.proofs.Common.{arith, sym, ap, ◌∙◌, true≢false, eqb-true, ne_eqb}
use Rattle.std.specs.Prelude.{◌≡◌, Bool, List, [], ◌∷◌, get_or, take, drop}
use Rattle.std.proofs.Math.Path.{refl}
use Rattle.std.proofs.Math.Bool.{true, false, cond}
use Rattle.std.proofs.Math.Option.{Option, none, some}
use Rattle.std.proofs.Math.Dec.{eqb}
use Rattle.text.specs.Bytes.{space, until, behind}
use Rattle.text.specs.Template.{Value, is_letter_of, value_of, and_then, same_byte, values_of}
use Rattle.text.proofs.Laws.Values.{none_some}

-- how many bytes stand before the first letter for a value
unfoldable pub literals : List ℕ → ℕ
literals [] = 0
literals (t ∷ ts) = cond (is_letter_of t) 0 (suc (literals ts))

-- the bytes before the first space are passed over
behind_value : (n : ℕ) (l : List ℕ) → behind (suc n) (drop (until space l) l) ≡ behind (suc n) l
unfolding behind until
behind_value n [] = refl
behind_value n (b ∷ l) = go (eqb b space) refl (behind_value n l)
  where
    go : (t : Bool) → eqb b space ≡ t → behind (suc n) (drop (until space l) l) ≡ behind (suc n) l
        → behind (suc n) (drop (cond t 0 (suc (until space l))) (b ∷ l)) ≡ cond t (behind n l) (behind (suc n) l)
    go true e ih = rw e
    go false e ih = ih

-- ---- a line and its template

-- what stands behind the first n spaces agrees on the literal beginning
Agree : ℕ → List ℕ → List ℕ → Type 0
Agree n ts l = (i : ℕ) → i < literals (behind n ts) → get_or (behind n l) i 0 ≡ get_or (behind n ts) i 0

letter_agrees : (t : ℕ) (ts l : List ℕ) → is_letter_of t ≡ true → ((n : ℕ) → Agree n ts (drop (until space l) l)) → (n : ℕ) → Agree n (t ∷ ts) l
unfolding Agree behind literals
letter_agrees t ts l e ih zero = λ i h. absurd (omega (arith, simp e at h))
letter_agrees t ts l e ih (suc n) =
    let other : eqb t space ≡ false = ne_eqb t space (λ q. true≢false (sym e ∙ ap is_letter_of q)) in
    rw (other, ← behind_value n l) (ih (suc n))

literal_agrees : (t : ℕ) (ts l : List ℕ) → is_letter_of t ≡ false → ((n : ℕ) → Agree n ts l) → (n : ℕ) → Agree n (t ∷ ts) (t ∷ l)
unfolding Agree behind literals
literal_agrees t ts l e ih zero zero h = refl
literal_agrees t ts l e ih zero (suc i) h = ih zero i (omega (arith, simp e at h))
literal_agrees t ts l e ih (suc n) i h = go (eqb t space) h
  where
    go : (x : Bool) → i < literals (cond x (behind n ts) (behind (suc n) ts))
        → get_or (cond x (behind n l) (behind (suc n) l)) i 0 ≡ get_or (cond x (behind n ts) (behind (suc n) ts)) i 0
    go true h = ih n i h
    go false h = ih (suc n) i h

then_some : (o : Option Value) (p : Option (List Value)) (v : List Value) → and_then o p ≡ some v → (w : List Value) × (p ≡ some w)
unfolding and_then
then_some none p v h = absurd (none_some h)
then_some (some d) none v h = absurd (none_some h)
then_some (some d) (some w) v h = (w, refl)

-- Where a template's field begins with bytes that stand for themselves, the line's field begins with the same.
pub same_place : (ts l : List ℕ) (v : List Value) → values_of ts l ≡ some v
    → (n i : ℕ) → i < literals (behind n ts) → get_or (behind n l) i 0 ≡ get_or (behind n ts) i 0
unfolding values_of Agree
same_place [] l v h = unfold behind literals in elim [ zero ↦ λ i lt. absurd (omega arith) | suc n ↦ λ i lt. absurd (omega arith) ]
same_place (t ∷ ts) l v h = go (is_letter_of t) refl (same_place ts) h
  where
    literal : (l : List ℕ) → is_letter_of t ≡ false → ((k : List ℕ) (w : List Value) → values_of ts k ≡ some w → (n : ℕ) → Agree n ts k)
        → same_byte t l (values_of ts) ≡ some v → (n : ℕ) → Agree n (t ∷ ts) l
    literal [] e ih h = unfold same_byte in absurd (none_some h)
    literal (b ∷ l) e ih h = unfold same_byte in pick (eqb b t) refl h
      where
        pick : (x : Bool) → eqb b t ≡ x → cond x (values_of ts l) none ≡ some v → (n : ℕ) → Agree n (t ∷ ts) (b ∷ l)
        pick true q h = rw (eqb-true b t q) (literal_agrees t ts l e (ih l v h))
        pick false q h = absurd (none_some h)

    go : (x : Bool) → is_letter_of t ≡ x → ((k : List ℕ) (w : List Value) → values_of ts k ≡ some w → (n : ℕ) → Agree n ts k)
        → cond x (and_then (value_of t (take (until space l) l)) (values_of ts (drop (until space l) l))) (same_byte t l (values_of ts)) ≡ some v
        → (n : ℕ) → Agree n (t ∷ ts) l
    go true e ih h = let (w, q) = then_some _ _ v h in letter_agrees t ts l e (ih (drop (until space l) l) w q)
    go false e ih h = literal l e ih h

-- a line that has another byte at such a place has no values
pub other_place : (ts l : List ℕ) (n i : ℕ) → i < literals (behind n ts) → (get_or (behind n l) i 0 ≡ get_or (behind n ts) i 0 → ⊥) → values_of ts l ≡ none
other_place ts l n i h other = go (values_of ts l) refl
  where
    go : (o : Option (List Value)) → values_of ts l ≡ o → o ≡ none
    go none e = refl
    go (some v) e = absurd (other (same_place ts l v e n i h))
