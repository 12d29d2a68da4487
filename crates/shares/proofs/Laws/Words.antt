-- Laws: the words available, by their places and in number. Assumes nothing.
use Rattle.std.specs.Prelude.{◌≡◌, refl, ℕ, zero, suc, ◌+◌, ◌-◌, ◌≤◌, ◌<◌, min, length, take}
use Rattle.std.proofs.Math.Path.{sym, ap, ap₂}
use Rattle.std.proofs.Common.{◌∙◌, arith, length-take, length-drop}
use mathlib.Core.List.{List, [], ◌∷◌, ◌++◌, map}
use Rattle.std.proofs.Math.ListN.{get_or, drop, length-append}
use Rattle.std.proofs.Math.Seq.{get_or-take, get_or-drop}
use Rattle.draws.specs.Draws.{Lent}
use Rattle.draws.specs.Left.{left_after}
use Rattle.draws.proofs.Laws.Left.{left_suffix, taken, taken_used}
use Rattle.job.specs.Line.{Placed}
use Rattle.shares.specs.Shares.{Share, sum, stretch_from, own_left, common_left, available}
use Rattle.shares.specs.Account.{places, words_at, available_places}

map_append : (f : ℕ → ℕ) (a b : List ℕ) → map f (a ++ b) ≡ map f a ++ map f b
map_append f [] b = refl
map_append f (x ∷ a) b = ap (λ (l : List ℕ). f x ∷ l) (map_append f a b)

pub map_take : (f : ℕ → ℕ) (n : ℕ) (a : List ℕ) → map f (take n a) ≡ take n (map f a)
map_take f zero a = refl
map_take f (suc n) [] = refl
map_take f (suc n) (x ∷ a) = ap (λ (l : List ℕ). f x ∷ l) (map_take f n a)

-- a part of a list, by its places
places_words : (main part : List ℕ) (at : ℕ) → ((i : ℕ) → i < length part → get_or main (at + i) 0 ≡ get_or part i 0) → words_at main (places at (length part)) ≡ part
unfolding places
places_words main [] at same = refl
places_words main (w ∷ part) at same =
    let here : at + 0 ≡ at = omega arith in
    ap₂ (λ (a : ℕ) (l : List ℕ). a ∷ l) (ap (λ (i : ℕ). get_or main i 0) (sym here) ∙ same 0 (omega arith))
    (places_words main part (suc at)
    (λ i h. let later : suc at + i ≡ at + suc i = omega arith in ap (λ (j : ℕ). get_or main j 0) later ∙ same (suc i) (omega (arith, h))))

-- ---- the parts of the list in number

pub own_length : (shares marks : List ℕ) (c : ℕ) (main : List ℕ) → length (own_left shares marks c main) ≤ get_or shares c 0 - get_or marks c 0
unfolding own_left
own_length shares marks c main =
    let e : length (drop (get_or marks c 0) (take (get_or shares c 0) (drop (stretch_from shares c) main)))
    ≡ min (get_or shares c 0) (length (drop (stretch_from shares c) main)) - get_or marks c 0 =
    length-drop (get_or marks c 0) (take (get_or shares c 0) (drop (stretch_from shares c) main))
    ∙ ap (λ (n : ℕ). n - get_or marks c 0) (length-take (get_or shares c 0) (drop (stretch_from shares c) main)) in
    omega (arith, e)

pub common_length : (shares marks main : List ℕ) → length (common_left shares marks main) ≡ length main - sum shares - get_or marks (length shares) 0
unfolding common_left
common_length shares marks main =
    length-drop (get_or marks (length shares) 0) (drop (sum shares) main) ∙ ap (λ (n : ℕ). n - get_or marks (length shares) 0) (length-drop (sum shares) main)

-- ---- by their places

module _ (s : Share) (main : List ℕ) where
  own_words : (i : ℕ) → i < length (own_left s.shares s.marks s.caller main)
      → get_or main (stretch_from s.shares s.caller + get_or s.marks s.caller 0 + i) 0 ≡ get_or (own_left s.shares s.marks s.caller main) i 0
  unfolding own_left
  own_words i h =
      let share = get_or s.shares s.caller 0 in
      let mark = get_or s.marks s.caller 0 in
      let behind = drop (stretch_from s.shares s.caller) main in
      sym
      (get_or-drop mark (take share behind) i 0
      ∙ get_or-take share behind (mark + i) 0 (omega (arith, h, own_length s.shares s.marks s.caller main))
      ∙ get_or-drop (stretch_from s.shares s.caller) main (mark + i) 0
      ∙ ap (λ (j : ℕ). get_or main j 0) (omega arith))

  common_words : (i : ℕ) → i < length (common_left s.shares s.marks main)
      → get_or main (sum s.shares + get_or s.marks (length s.shares) 0 + i) 0 ≡ get_or (common_left s.shares s.marks main) i 0
  unfolding common_left
  common_words i h =
      let mark = get_or s.marks (length s.shares) 0 in
      sym
      (get_or-drop mark (drop (sum s.shares) main) i 0 ∙ get_or-drop (sum s.shares) main (mark + i) 0 ∙ ap (λ (j : ℕ). get_or main j 0) (omega arith))

  -- the words at the places available are those available
  pub available_words : words_at main (available_places s main) ≡ available s main
  unfolding available_places available
  available_words =
      map_append _ (places _ _) (places _ _)
      ∙ ap₂ ◌++◌ (places_words main (own_left s.shares s.marks s.caller main) _ own_words)
      (places_words main (common_left s.shares s.marks main) _ common_words)

  pub available_length : length (available s main) ≡ length (own_left s.shares s.marks s.caller main) + length (common_left s.shares s.marks main)
  unfolding available
  available_length = length-append (own_left s.shares s.marks s.caller main) (common_left s.shares s.marks main)

-- what a job takes of a list, and what it leaves, make the list
pub taken_left : (lent : Lent) (is : List Placed) (main : List ℕ) → take (taken lent is main) main ++ left_after lent is main ≡ main
taken_left lent is main =
    ap (λ (l : List ℕ). l ++ left_after lent is main) (taken_used lent is main) ∙ sym (left_suffix lent is main).whole
