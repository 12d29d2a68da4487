-- Cliffords and permutations going back, by the places of the operands. Laws. Assumes nothing.
use Prim.Native.Nat.{ℕ, suc, ◌+◌, ◌≤◌}
use Rattle.std.proofs.Common.{add-zero, sym, ◌∙◌}
use native.Mathlib.Omega.{arith}
use Rattle.std.specs.Prelude.{◌≡◌, refl, Bool, ◌&&◌, length, get_or}
use Rattle.std.proofs.Math.Path.{ap, ap₂, fun_ext}
use Rattle.std.proofs.Math.Bool.{true}
use mathlib.Core.List.{List, [], ◌∷◌}
use Rattle.std.specs.Int.Bits.{bit_xor}
use Rattle.pauli.specs.Bits.{Bits, ◌⊕◌, ◌∩◌, ◌△◌, none, only, given, outside, parity, bit}
use Rattle.pauli.specs.Pauli.{Pauli, identity, X_at, Z_at, ◌∗◌, when, anticommutes, cleared}
use Rattle.pauli.proofs.Laws.F2.{f2}
use Rattle.pauli.proofs.Laws.Parity.{bitwise}
use Rattle.pauli.proofs.Laws.Gates.{pauli_path}
use Rattle.job.specs.Checks.{all_below, distinct, is_permutation}
use Rattle.job.proofs.Laws.Lists.{below_at}
use Rattle.job.proofs.Laws.Permutation.{permutation_parts}
use Rattle.job.specs.Clifford.{row_over}
use Rattle.frames.specs.Forward.{placed, table_row, images_from, images_of}
use Rattle.frames.proofs.Laws.Places.{PlaceOf, where_is, placed_off, placed_at, parity_placed}
use Rattle.backward.specs.Walk.{images_back, clifford_back_of, fetched, permute_back_of}
use Rattle.lines_back.specs.Packed.{Packed, in_words}
use Rattle.lines_back.specs.Laws.Packed.{same_places}
use Rattle.lines_back.specs.Laws.Parts.{placed_same, packed_put}

-- ---- rows of a table, read at the places

-- what a Pauli has at the operands, by their places
abbrev pub parts_of : List ℕ → Pauli → Pauli
parts_of qs B = record { x = λ j. B.x (get_or qs j 0); z = λ j. B.z (get_or qs j 0) }

module _ (n : ℕ) (qs : List ℕ) (below : all_below n qs ≡ true) (d : distinct qs ≡ true) where
  overlap : (s row : Bits) → parity n (s ∩ placed row qs) ≡ parity (length qs) ((λ j. s (get_or qs j 0)) ∩ row)
  unfolding ◌∩◌
  overlap s row = ap (parity n) (fun_ext (λ q. where_is qs q (off q) (on q))) ∙ parity_placed n qs below d (λ j. s (get_or qs j 0)) row
    where
      off : (q : ℕ) → outside qs q ≡ true → (s q && placed row qs q) ≡ (placed (λ j. s (get_or qs j 0)) qs q && placed row qs q)
      off q o = rw (placed_off row qs q o) (simp f2)

      on : (q : ℕ) → PlaceOf qs q → (s q && placed row qs q) ≡ (placed (λ j. s (get_or qs j 0)) qs q && placed row qs q)
      on q p = ap (λ (b : Bool). b && placed row qs q) (ap s (sym p.there) ∙ sym (placed_at (λ j. s (get_or qs j 0)) qs d p.place p.inside) ∙ ap (placed (λ j. s (get_or qs j 0)) qs) p.there)

  pub row_parts : (B : Pauli) (t r : ℕ) → anticommutes n B (table_row qs t r) ≡ anticommutes (length qs) (parts_of qs B) (row_over (length qs) t r)
  unfolding anticommutes table_row
  row_parts B t r = ap₂ ◌⊕◌ (overlap B.x (row_over (length qs) t r).z) (overlap B.z (row_over (length qs) t r).x)

-- ---- what is put at the operands

-- one operand more
one_more : (q : ℕ) (a b : Bool) (s t : Bits)
    → when a (X_at q) ∗ when b (Z_at q) ∗ record { x = s; z = t } ≡ record { x = given a (only q) △ s; z = given b (only q) △ t }
unfolding when X_at Z_at ◌∗◌
one_more q a b s t = pauli_path (fun_ext (λ i. simp bitwise)) (fun_ext (λ i. simp bitwise))

none_placed : identity ≡ record { x = none; z = none }
unfolding identity
none_placed = refl

module _ (n : ℕ) (qs : List ℕ) (t : ℕ) (B : Pauli) where
  images_placed : (i : ℕ) (rest : List ℕ) → images_back n (images_from qs t i rest) B
      ≡ record {
        x = placed (λ j. anticommutes n B (table_row qs t (length qs + (i + j)))) rest;
        z = placed (λ j. anticommutes n B (table_row qs t (i + j))) rest;
      }
  unfolding images_back images_from placed
  images_placed i [] = none_placed
  images_placed i (q ∷ rest) =
      ap (λ (P : Pauli). when (anticommutes n B (table_row qs t (length qs + i))) (X_at q) ∗ when (anticommutes n B (table_row qs t i)) (Z_at q) ∗ P) (images_placed (suc i) rest)
      ∙ one_more q (anticommutes n B (table_row qs t (length qs + i))) (anticommutes n B (table_row qs t i)) _ _
      ∙ pauli_path (shifted (λ k. anticommutes n B (table_row qs t (length qs + k)))) (shifted (λ k. anticommutes n B (table_row qs t k)))
    where
      shifted : (f : Bits) → given (f i) (only q) △ placed (λ j. f (suc i + j)) rest ≡ given (f (i + 0)) (only q) △ placed (λ j. f (i + suc j)) rest
      shifted f = ap₂ (λ (k : ℕ) (g : Bits). given (f k) (only q) △ placed g rest) (sym (add-zero i)) (fun_ext (λ j. ap f (plus j)))
        where
          plus : (j : ℕ) → suc i + j ≡ i + suc j
          plus j = omega arith

  -- A Clifford going back: at place i stands the clash with Z's image as X part, with X's image as Z part.
  pub clifford_placed : all_below n qs ≡ true → distinct qs ≡ true
      → clifford_back_of n qs (images_of qs t) B
      ≡ record {
        x = (B.x ∩ outside qs) △ placed (λ j. anticommutes (length qs) (parts_of qs B) (row_over (length qs) t (length qs + j))) qs;
        z = (B.z ∩ outside qs) △ placed (λ j. anticommutes (length qs) (parts_of qs B) (row_over (length qs) t (0 + j))) qs;
      }
  unfolding clifford_back_of images_of cleared ◌∗◌
  clifford_placed below d =
      ap (λ (P : Pauli). record { x = (B.x ∩ outside qs) △ P.x; z = (B.z ∩ outside qs) △ P.z }) (images_placed 0 qs)
      ∙ pauli_path
      (ap (λ (s : Bits). (B.x ∩ outside qs) △ s) (placed_same _ _ qs (λ j h. row_parts n qs below d B t (length qs + (0 + j)) ∙ ap (λ (k : ℕ). anticommutes (length qs) (parts_of qs B) (row_over (length qs) t (length qs + k))) (zero_plus j))))
      (ap (λ (s : Bits). (B.z ∩ outside qs) △ s) (placed_same _ _ qs (λ j h. row_parts n qs below d B t (0 + j))))
    where
      zero_plus : (j : ℕ) → 0 + j ≡ j
      zero_plus j = omega arith

-- A permutation going back: place i gets what is at place s_i.
fetched_placed : (places s qs : List ℕ) (B : Pauli) → length s ≡ length qs
    → fetched places s qs B ≡ record { x = placed (λ j. B.x (get_or places (get_or s j 0) 0)) qs; z = placed (λ j. B.z (get_or places (get_or s j 0) 0)) qs }
unfolding fetched placed
fetched_placed places [] [] B e = none_placed
fetched_placed places [] (q ∷ qs) B e = absurd (omega arith)
fetched_placed places (j ∷ s) [] B e = absurd (omega arith)
fetched_placed places (j ∷ s) (q ∷ qs) B e =
    ap (λ (P : Pauli). when (B.x (get_or places j 0)) (X_at q) ∗ when (B.z (get_or places j 0)) (Z_at q) ∗ P) (fetched_placed places s qs B (omega arith))
    ∙ one_more q (B.x (get_or places j 0)) (B.z (get_or places j 0)) _ _

pub permute_placed : (s qs : List ℕ) (B : Pauli) → length s ≡ length qs
    → permute_back_of s qs B
    ≡ record {
      x = (B.x ∩ outside qs) △ placed (λ j. B.x (get_or qs (get_or s j 0) 0)) qs;
      z = (B.z ∩ outside qs) △ placed (λ j. B.z (get_or qs (get_or s j 0) 0)) qs;
    }
unfolding permute_back_of cleared ◌∗◌
permute_placed s qs B e =
    ap (λ (P : Pauli). record { x = (B.x ∩ outside qs) △ P.x; z = (B.z ∩ outside qs) △ P.z }) (fetched_placed qs s qs B e)

-- ---- what the code makes of an observable B

module _ (qs : List ℕ) (d : distinct qs ≡ true) (B P : Pauli) (x z new-x new-z : ℕ)
    (old-x : Packed (length qs) (λ j. B.x (get_or qs j 0)) x) (old-z : Packed (length qs) (λ j. B.z (get_or qs j 0)) z)
    (is_x : P.x ≡ B.x △ placed (bit (bit_xor x new-x)) qs) (is-z : P.z ≡ B.z △ placed (bit (bit_xor z new-z)) qs) where
  -- new bits at the operands
  put : (f g : Bits) → Packed (length qs) f new-x → Packed (length qs) g new-z
      → P ≡ record { x = (B.x ∩ outside qs) △ placed f qs; z = (B.z ∩ outside qs) △ placed g qs }
  put f g p q = pauli_path (is_x ∙ packed_put B.x f qs x new-x d old-x p) (is-z ∙ packed_put B.z g qs z new-z d old-z q)

  pub clifford_done : (t : ℕ) → all_below 256 qs ≡ true
      → Packed (length qs) (λ i. anticommutes (length qs) (in_words x z) (row_over (length qs) t (length qs + i))) new-x
      → Packed (length qs) (λ i. anticommutes (length qs) (in_words x z) (row_over (length qs) t (0 + i))) new-z
      → P ≡ clifford_back_of 256 qs (images_of qs t) B
  clifford_done t below p q =
      put _ _ (renamed (length qs) p) (renamed 0 q) ∙ sym (clifford_placed 256 qs t B below d)
    where
      renamed : (from : ℕ) {w : ℕ} → Packed (length qs) (λ i. anticommutes (length qs) (in_words x z) (row_over (length qs) t (from + i))) w
          → Packed (length qs) (λ i. anticommutes (length qs) (parts_of qs B) (row_over (length qs) t (from + i))) w
      renamed from r = record { small = r.small; at = λ j h. r.at j h ∙ same_places (length qs) old-x old-z (row_over (length qs) t (from + j)) }

  pub permute_done : (s : List ℕ) → is_permutation (length qs) s ≡ true → Packed (length s) (λ i. bit x (get_or s i 0)) new-x → Packed (length s) (λ i. bit z (get_or s i 0)) new-z
      → P ≡ permute_back_of s qs B
  permute_done s e p q =
      let parts = permutation_parts _ _ e in
      put _ _ (renamed old-x p) (renamed old-z q) ∙ sym (permute_placed s qs B parts.long)
    where
      renamed : {f : Bits} {old w : ℕ} → Packed (length qs) f old → Packed (length s) (λ i. bit old (get_or s i 0)) w → Packed (length qs) (λ i. f (get_or s i 0)) w
      renamed o r =
          let parts = permutation_parts _ _ e in
          let same : Packed (length qs) (λ i. bit _ (get_or s i 0)) _ = rw parts.long at r in
          record { small = same.small; at = λ j h. same.at j h ∙ o.at (get_or s j 0) (below_at (length qs) s parts.below j (omega (arith, parts.long))) }

-- a permutation of at most 31 places: what fetching asks
pub fetchable : (k : ℕ) (s : List ℕ) → k ≤ 31 → is_permutation k s ≡ true → (length s ≤ 31) × (all_below (length s) s ≡ true)
fetchable k s h e = let parts = permutation_parts _ _ e in (omega (arith, parts.long), rw parts.long parts.below)
