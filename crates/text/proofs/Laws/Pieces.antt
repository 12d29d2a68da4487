-- Bytes from a place on, and the first separator from there on. Laws. Assumes nothing.
use Rattle.std.specs.Prelude.{ℕ, suc, ◌+◌, ◌-◌, ◌≤◌, ◌<◌, Bool, true, false, cond, ◌≡◌, refl, List, [], ◌∷◌, eqb, length, get_or, take, drop}
use Rattle.std.proofs.Common.{add-one, arith, ◌∙◌, eq-eqb, ne_eqb, drop_of_length-le, length-drop, drop-cons, drop-drop}
use Rattle.std.proofs.Math.Path.{ap}
use Rattle.std.proofs.Math.Seq.{take-length}
use Rattle.text.specs.Bytes.{until, extend, pieces}

-- the bytes from `i` on are the byte at `i` and the bytes after it
pub step : (s : List ℕ) (i : ℕ) → i < length s → drop i s ≡ get_or s i 0 ∷ drop (i + 1) s
step s i h = rw (add-one, drop-cons s i 0)

module _ (sep : ℕ) (s : List ℕ) (i : ℕ) where
  pub until_here : i < length s → get_or s i 0 ≡ sep → until sep (drop i s) ≡ 0
  unfolding until
  until_here h e = ap (until sep) (step s i h) ∙ simp (eq-eqb _ _ e)

  pub until_next : i < length s → (get_or s i 0 ≡ sep → ⊥) → until sep (drop i s) ≡ suc (until sep (drop (i + 1) s))
  unfolding until
  until_next h e = ap (until sep) (step s i h) ∙ simp (ne_eqb _ _ e)

  pub until_end : length s ≤ i → until sep (drop i s) ≡ 0
  unfolding until
  until_end h = ap (until sep) (drop_of_length-le s h)

pub until_le : (sep : ℕ) (l : List ℕ) → until sep l ≤ length l
unfolding until
until_le sep [] = omega arith
until_le sep (b ∷ l) = go (eqb b sep) (until_le sep l)
  where
    go : (t : Bool) → until sep l ≤ length l → cond t 0 (suc (until sep l)) ≤ suc (length l)
    go true h = omega arith
    go false h = omega arith

-- up to the first separator, where there is one
abbrev pub First : List (List ℕ) → ℕ → List ℕ → Type 0
First last sep l =
    until sep l < length l → pieces last sep l ≡ take (until sep l) l ∷ pieces last sep (drop (suc (until sep l)) l)

first_cons : (last : List (List ℕ)) (sep b : ℕ) (l : List ℕ) → First last sep l → (t : Bool) → eqb b sep ≡ t → First last sep (b ∷ l)
unfolding until pieces extend
first_cons last sep b l ih true e h = simp e
first_cons last sep b l ih false e h = simp (e, ih (omega (arith, simp e at h)))

pub first_piece : (last : List (List ℕ)) (sep : ℕ) (l : List ℕ) → First last sep l
first_piece last sep [] h = absurd (omega arith)
first_piece last sep (b ∷ l) h = first_cons last sep b l (first_piece last sep l) (eqb b sep) refl h

-- all, where there is no separator
abbrev pub Only : ℕ → List ℕ → Type 0
Only sep l = until sep l ≡ length l → pieces ([] ∷ []) sep l ≡ l ∷ []

only_cons : (sep b : ℕ) (l : List ℕ) → Only sep l → (t : Bool) → eqb b sep ≡ t → Only sep (b ∷ l)
unfolding until pieces extend
only_cons sep b l ih true e h = absurd (omega (arith, simp e at h))
only_cons sep b l ih false e h = simp (e, ih (omega (arith, simp e at h)))

pub only_piece : (sep : ℕ) (l : List ℕ) → Only sep l
unfolding pieces
only_piece sep [] h = refl
only_piece sep (b ∷ l) h = only_cons sep b l (only_piece sep l) (eqb b sep) refl h

module _ (sep : ℕ) (s : List ℕ) (at e : ℕ) (here : at ≤ length s) (found : e ≡ at + until sep (drop at s)) where
  -- the piece that begins at `at`, where a separator ends it, and the pieces after it
  pub piece_more : (last : List (List ℕ)) → e < length s
      → pieces last sep (drop at s) ≡ take (e - at) (drop at s) ∷ pieces last sep (drop (e + 1) s)
  piece_more last h =
      let u : e - at ≡ until sep (drop at s) = omega arith in
      let k : at + suc (until sep (drop at s)) ≡ e + 1 = omega arith in
      let d : drop (e + 1) s ≡ drop (suc (until sep (drop at s))) (drop at s) = rw (drop-drop, k) in
      rw (u, d) (first_piece last sep (drop at s) (rw length-drop (omega arith)))

  -- the last piece
  pub piece_last : e ≡ length s → pieces ([] ∷ []) sep (drop at s) ≡ take (e - at) (drop at s) ∷ []
  piece_last h =
      let u : e - at ≡ length (drop at s) = rw length-drop (omega arith) in
      rw (u, take-length) (only_piece sep (drop at s) (omega (arith, length-drop at s)))
