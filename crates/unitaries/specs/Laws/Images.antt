-- Cliffords and permutations: saved rows, and sums of images, in every shot. Assumes nothing.
use Rattle.std.specs.Prelude.{◌≡◌, refl, Bool, true, false, ◌&&◌, List, [], ◌∷◌, ℕ, suc, ◌+◌, ◌*◌, ◌/◌, ◌%◌, ◌^◌, ◌<◌, ◌≤◌, eqb, length, get_or, drop}
use Rattle.std.proofs.Common.{sym, ap, ◌∙◌, arith, zero-add, add-zero, mul-le-mul_right, add-one, drop_of_length-le, drop-cons}
use Rattle.std.proofs.Math.Path.{fun_ext}
use Rattle.pauli.specs.Bits.{Bits, none, only, given, outside, ◌∩◌, ◌△◌, bit}
use Rattle.pauli.specs.Pauli.{Pauli, identity, X_at, Z_at, ◌∗◌, when, cleared}
use Rattle.pauli.proofs.Laws.Word.{bit_is}
use Rattle.pauli.proofs.Laws.Parity.{bitwise, added_is}
use Rattle.pauli.proofs.Laws.Gates.{pauli_path}
use Rattle.pauli.proofs.Laws.Group.{∗_assoc, ∗_identity}
use Rattle.job.specs.Line.{Line}
use Rattle.job.specs.Checks.{all_below, is_permutation}
use Rattle.job.specs.Clifford.{row_over}
use Rattle.tables.specs.Rows.{row_word}
use Rattle.tables.specs.Laws.Rows.{row_bit}
use Rattle.frames.specs.Forward.{placed, table_row, images_from, images_of, places_of, image_sum, transformed, on_frame, forward}
use Rattle.frames.proofs.Laws.Permutation.{test_permutes}
use Rattle.rows.specs.Overwrite.{xored, cleared as clearedWords}
use Rattle.rows.specs.Listed.{over_list, collected}
use Rattle.rows.specs.Column.{column}
use Rattle.rows.proofs.Laws.Overwrite.{before_row}
use Rattle.rows.proofs.Laws.Column.{column_xored, column_clear, collected_before, column_collected}
use Rattle.propagator.specs.Acts.{frame_of, Acts, line_rule}
use Rattle.unitaries.specs.Images.{Saved, RowAdded, ImagesAdded, moved, PlacesAdded, RowsPermuted}
use Rattle.propagator.specs.Laws.Lists.{rows_in}
use Rattle.propagator.specs.Laws.Acts.{acts_frame}

-- ---- room

-- the rows of a buffer
pub row_below : (w k i : ℕ) {l : ℕ} → k * w ≤ l → i < k → i * w + w ≤ l
row_below w k i fits h = omega (arith, before_row w i k h)

pub first_half : (w k : ℕ) {l : ℕ} → (k + k) * w ≤ l → (0 + k) * w ≤ l
first_half w k fits = rw zero-add (omega (arith, mul-le-mul_right {m = k} {n = k + k} w (omega arith)))

-- ---- a row that is added where on is true

pub row_added : (w : ℕ) (on : Bool) (q i : ℕ) (src l l' : List ℕ) → on ≡ true → q * w + w ≤ length l → l' ≡ xored (q * w) (i * w) w src l
    → RowAdded w on q i src l l'
row_added w on q i src l l' set fits e = record { shots = λ s h. rw (e, set) (column_xored w s h q i src l fits) }

pub row_left : (w : ℕ) (on : Bool) (q i : ℕ) (src l : List ℕ) → on ≡ false → RowAdded w on q i src l l
row_left w on q i src l unset = record { shots = λ s h. rw unset (sym (added_is (column w l s) q false ∙ fun_ext (λ r. simp bitwise))) }

-- ---- a row of the table

-- a bit of the row's word is a bit of the table
pub row_part : (k t r j : ℕ) {row : ℕ} → row ≡ row_word k t r → j < 2 * k → eqb (row / 2 ^ j % 2) 1 ≡ bit t (2 * k * r + j)
row_part k t r j {row} e h = sym (bit_is row j) ∙ ap (λ (w : ℕ). bit w j) e ∙ row_bit k t r j h

-- What is left to add, from operand j on, comes to the whole: b is the shot's bit of the row under which it is added.
pub record RowLeft (w : ℕ) (row : Bits) (qs : List ℕ) (i : ℕ) (src l₀ : List ℕ) (j : ℕ) (l : List ℕ) : Type 0 where
  pub shots : (s : ℕ) → s / 64 < w
      → column w l s △ given (column w src s i) (placed (λ c. row (j + c)) (drop j qs)) ≡ column w l₀ s △ given (column w src s i) (placed row qs)

pub row_starts : (w : ℕ) (row : Bits) (qs : List ℕ) (i : ℕ) (src l : List ℕ) → RowLeft w row qs i src l 0 l
row_starts w row qs i src l =
    record { shots = λ s h. ap (λ (r : Bits). column w l s △ given (column w src s i) (placed r qs)) (fun_ext (λ c. ap row (zero-add c))) }

-- one operand more
placed_more : (row : Bits) (j q : ℕ) (qs : List ℕ) → placed (λ c. row (j + c)) (q ∷ qs) ≡ given (row j) (only q) △ placed (λ c. row (j + 1 + c)) qs
unfolding placed
placed_more row j q qs =
    let later : ◌≡◌ {A = Bits} (λ c. row (j + suc c)) (λ c. row (j + 1 + c)) = fun_ext (λ c. ap row (omega arith)) in
    rw (add-zero j) (ap (λ (r : Bits). given (row j) (only q) △ placed r qs) later)

pub row_turn : (w : ℕ) (row : Bits) (qs : List ℕ) (i : ℕ) (src l₀ : List ℕ) (j : ℕ) (on : Bool) (l l' : List ℕ) → j < length qs → on ≡ row j
    → RowAdded w on (get_or qs j 0) i src l l' → RowLeft w row qs i src l₀ j l → RowLeft w row qs i src l₀ (j + 1) l'
row_turn w row qs i src l₀ j on l l' h e one left =
    record {
      shots = λ s k.
          rw (one.shots s k, e, added_is (column w l s) (get_or qs j 0) (row j && column w src s i))
          (more (column w l s) (column w src s i) (placed (λ c. row (j + 1 + c)) (drop (j + 1) qs))
          ∙ rw (drop-cons qs j 0 h, ← (add-one j), placed_more row j (get_or qs j 0) (drop (j + 1) qs)) at (left.shots s k));
    }
  where
    more : (c : Bits) (b : Bool) (rest : Bits)
        → (c △ given (row j && b) (only (get_or qs j 0))) △ given b rest ≡ c △ given b (given (row j) (only (get_or qs j 0)) △ rest)
    more c b rest = fun_ext (λ r. simp bitwise)

pub row_ends : (w : ℕ) (row : Bits) (qs : List ℕ) (i : ℕ) (src l₀ : List ℕ) (j : ℕ) (l : List ℕ) → length qs ≤ j → RowLeft w row qs i src l₀ j l
    → (s : ℕ) → s / 64 < w → column w l s ≡ column w l₀ s △ given (column w src s i) (placed row qs)
unfolding placed
row_ends w row qs i src l₀ j l h left s k = nothing (column w l s) (column w src s i) ∙ rw (drop_of_length-le qs h) at (left.shots s k)
  where
    nothing : (c : Bits) (b : Bool) → c ≡ c △ given b none
    nothing c b = fun_ext (λ r. simp bitwise)

-- both parts of the row
pub image_acts : (w t r i : ℕ) (qs src x z d x' z' : List ℕ) (j : ℕ) → length qs ≤ j
    → RowLeft w (λ c. bit t (2 * length qs * r + c)) qs i src x j x' → RowLeft w (λ c. bit t (2 * length qs * r + (length qs + c))) qs i src z j z'
    → Acts w (λ s. on_frame (λ F. F ∗ when (column w src s i) (table_row qs t r))) x z d x' z' d
unfolding ◌∗◌ when table_row row_over
image_acts w t r i qs src x z d x' z' j h of_x of_z =
    acts_frame w (λ s F. F ∗ when (column w src s i) (table_row qs t r)) x z d x' z'
    (λ s k. pauli_path (row_ends w _ qs i src x j x' h of_x s k) (row_ends w _ qs i src z j z' h of_z s k))

-- ---- all images

pub record ImagesLeft (w : ℕ) (qs : List ℕ) (t : ℕ) (saved x₀ z₀ : List ℕ) (i : ℕ) (x z : List ℕ) : Type 0 where
  pub shots : (s : ℕ) → s / 64 < w → (F : Pauli) → Saved w qs saved 0 s F.x → Saved w qs saved (length qs) s F.z
      → frame_of w x z s ∗ image_sum (images_from qs t i (drop i qs)) F ≡ frame_of w x₀ z₀ s ∗ image_sum (images_of qs t) F

-- a frame to which row r of the table was added in the shots of saved row r
abbrev pub Added : ℕ → List ℕ → ℕ → ℕ → List ℕ → List ℕ → List ℕ → List ℕ → List ℕ → Type 0
Added w qs t r saved x z x' z' = (d : List ℕ) → Acts w (λ s. on_frame (λ F. F ∗ when (column w saved s r) (table_row qs t r))) x z d x' z' d

pub images_start : (w : ℕ) (qs : List ℕ) (t : ℕ) (saved x z : List ℕ) → ImagesLeft w qs t saved x z 0 x z
unfolding images_of
images_start w qs t saved x z = record { shots = λ s h F of_x of_z. refl }

pub images_turn : (w : ℕ) (qs : List ℕ) (t : ℕ) (saved x₀ z₀ : List ℕ) (i : ℕ) (x z x₁ z₁ x₂ z₂ : List ℕ) → i < length qs → Added w qs t i saved x z x₁ z₁
    → Added w qs t (length qs + i) saved x₁ z₁ x₂ z₂ → ImagesLeft w qs t saved x₀ z₀ i x z → ImagesLeft w qs t saved x₀ z₀ (i + 1) x₂ z₂
unfolding images_from image_sum
images_turn w qs t saved x₀ z₀ i x z x₁ z₁ x₂ z₂ h first second left =
    record {
      shots = λ s k F of_x of_z.
          let one : frame_of w x₁ z₁ s ≡ frame_of w x z s ∗ when (column w saved s i) (table_row qs t i) = ap (λ (u : Rattle.frames.specs.Forward.State). u.frame) ((first []).shots s k) in
          let two : frame_of w x₂ z₂ s ≡ frame_of w x₁ z₁ s ∗ when (column w saved s (length qs + i)) (table_row qs t (length qs + i)) = ap (λ (u : Rattle.frames.specs.Forward.State). u.frame) ((second []).shots s k) in
          let of-i : column w saved s i ≡ F.x (get_or qs i 0) = rw zero-add at (of_x.row i h) in
          rw (two, one, of-i, of_z.row i h, add-one i)
          (simp ∗_assoc (simp ∗_assoc at (rw (drop-cons qs i 0 h) at (left.shots s k F of_x of_z))));
    }

pub images_end : (w : ℕ) (qs : List ℕ) (t : ℕ) (saved x₀ z₀ : List ℕ) (i : ℕ) (x z : List ℕ) → length qs ≤ i → ImagesLeft w qs t saved x₀ z₀ i x z
    → ImagesAdded w qs t saved x₀ z₀ x z
unfolding images_from image_sum
images_end w qs t saved x₀ z₀ i x z h left =
    record {
      shots = λ s k F of_x of_z. sym (∗_identity (frame_of w x z s)) ∙ rw (drop_of_length-le qs h) at (left.shots s k F of_x of_z);
    }

-- ---- saved rows

pub rows_saved : (w : ℕ) (qs l : List ℕ) (first : ℕ) (saved saved' : List ℕ) → (first + length qs) * w ≤ length saved → saved' ≡ collected w l first qs saved
    → (s : ℕ) → s / 64 < w → Saved w qs saved' first s (column w l s)
rows_saved w qs l first saved saved' fits e s h = record { row = λ i k. rw e (column_collected w s h l first qs saved fits i k) }

-- those before them are as they were
saved_before : (w : ℕ) (qs l : List ℕ) (saved saved' : List ℕ) → (length qs + length qs) * w ≤ length saved → saved' ≡ collected w l (length qs) qs saved
    → (s : ℕ) → s / 64 < w → {c : Bits} → Saved w qs saved 0 s c → Saved w qs saved' 0 s c
saved_before w qs l saved saved' fits e s h {c} held =
    record { row = λ i k. rw e (collected_before w s h l (length qs) qs saved fits (0 + i) (rw zero-add k) ∙ held.row i k) }

pub clifford_acts : (w n m : ℕ) (qs : List ℕ) (t : ℕ) (x z d saved₀ saved₁ saved x₁ z₁ x' z' : List ℕ) → length x ≡ n * w → length z ≡ n * w
    → all_below n qs ≡ true → (length qs + length qs) * w ≤ length saved₀ → length saved₁ ≡ length saved₀ → saved₁ ≡ collected w x 0 qs saved₀
    → saved ≡ collected w z (length qs) qs saved₁ → x₁ ≡ over_list (λ q. clearedWords (q * w) w) qs x → z₁ ≡ over_list (λ q. clearedWords (q * w) w) qs z
    → ImagesAdded w qs t saved x₁ z₁ x' z' → Acts w (line_rule n m (Line.clifford qs t)) x z d x' z' d
unfolding forward transformed cleared
clifford_acts w n m qs t x z d saved₀ saved₁ saved x₁ z₁ x' z' lx lz below fits same ex ez ex₁ ez₁ images =
    acts_frame w (λ s. transformed qs (images_of qs t)) x z d x' z'
    (λ s h. images.shots s h (frame_of w x z s)
    (saved_before w qs z saved₁ saved room ez s h (rows_saved w qs x 0 saved₀ saved₁ first ex s h))
    (rows_saved w qs z (length qs) saved₁ saved room ez s h)
    ∙ ap (λ (F : Pauli). F ∗ image_sum (images_of qs t) (frame_of w x z s))
    (pauli_path
    (rw ex₁ (column_clear w s h qs x (rows_in w n x qs lx below)))
    (rw ez₁ (column_clear w s h qs z (rows_in w n z qs lz below)))))
  where
    room : (length qs + length qs) * w ≤ length saved₁
    room = omega arith

    first : (0 + length qs) * w ≤ length saved₀
    first = first_half w (length qs) fits

-- ---- permutations

-- as many places as operands
pub operand_at : (places qs : List ℕ) (i : ℕ) → is_permutation (length qs) places ≡ true → i < length places → i < length qs
operand_at places qs i test h = rw (← (test_permutes (length qs) places test).as_many) h

pub record PlacesLeft (w : ℕ) (places qs saved l₀ : List ℕ) (i : ℕ) (l : List ℕ) : Type 0 where
  pub shots : (s : ℕ) → s / 64 < w → (c : Bits) → Saved w qs saved 0 s c
      → column w l s △ moved qs (drop i places) (drop i qs) c ≡ column w l₀ s △ moved qs places qs c

pub places_start : (w : ℕ) (places qs saved l : List ℕ) → PlacesLeft w places qs saved l 0 l
places_start w places qs saved l = record { shots = λ s h c held. refl }

pub places_turn : (w : ℕ) (places qs saved l₀ : List ℕ) (i : ℕ) (l l' : List ℕ) → i < length places → i < length qs
    → get_or qs (get_or places i 0) 0 * w + w ≤ length l → l' ≡ xored (get_or qs (get_or places i 0) 0 * w) (i * w) w saved l
    → PlacesLeft w places qs saved l₀ i l → PlacesLeft w places qs saved l₀ (i + 1) l'
unfolding moved
places_turn w places qs saved l₀ i l l' hp hq fits e left =
    record {
      shots = λ s k c held.
          rw (e, column_xored w s k (get_or qs (get_or places i 0) 0) i saved l fits, added_is (column w l s) _ (column w saved s i), rw zero-add at (held.row i hq), add-one i)
          (regroup (column w l s) _ _ ∙ rw (drop-cons places i 0 hp, drop-cons qs i 0 hq) at (left.shots s k c held));
    }
  where
    regroup : (a b c : Bits) → (a △ b) △ c ≡ a △ (b △ c)
    regroup a b c = fun_ext (λ r. simp bitwise)

pub places_end : (w : ℕ) (places qs saved l₀ : List ℕ) (i : ℕ) (l : List ℕ) → length places ≤ i → PlacesLeft w places qs saved l₀ i l
    → PlacesAdded w places qs saved l₀ l
unfolding moved
places_end w places qs saved l₀ i l h left =
    record { shots = λ s k c held. nothing (column w l s) ∙ rw (drop_of_length-le places h) at (left.shots s k c held) }
  where
    nothing : (c : Bits) → c ≡ c △ none
    nothing c = fun_ext (λ r. simp bitwise)

pub rows_permuted : (w n : ℕ) (places qs l saved₀ saved l₁ l' : List ℕ) → length l ≡ n * w → all_below n qs ≡ true → length qs * w ≤ length saved₀
    → saved ≡ collected w l 0 qs saved₀ → l₁ ≡ over_list (λ q. clearedWords (q * w) w) qs l → PlacesAdded w places qs saved l₁ l'
    → RowsPermuted w places qs l l'
rows_permuted w n places qs l saved₀ saved l₁ l' len below fits e e₁ placed =
    record {
      shots = λ s h.
          placed.shots s h (column w l s) (rows_saved w qs l 0 saved₀ saved (rw zero-add fits) e s h)
          ∙ rw (e₁, column_clear w s h qs l (rows_in w n l qs len below));
    }

-- images of X are X, images of Z are Z
with_none : (b c : Bool) (s rest : Bits) → given b s △ rest ≡ given b s △ given c none △ rest
with_none b c s rest = fun_ext (λ r. simp bitwise)

none_with : (b c : Bool) (s rest : Bits) → given b s △ rest ≡ given c none △ given b s △ rest
none_with b c s rest = fun_ext (λ r. simp bitwise)

moved_x : (operands places qs : List ℕ) (F : Pauli) → moved operands places qs F.x ≡ (image_sum (places_of operands places qs) F).x
unfolding moved image_sum places_of ◌∗◌ when identity X_at Z_at
moved_x operands [] qs F = refl
moved_x operands (j ∷ places) [] F = refl
moved_x operands (j ∷ places) (q ∷ qs) F =
    ap (λ (rest : Bits). given (F.x q) (only (get_or operands j 0)) △ rest) (moved_x operands places qs F) ∙ with_none (F.x q) (F.z q) _ _

moved_z : (operands places qs : List ℕ) (F : Pauli) → moved operands places qs F.z ≡ (image_sum (places_of operands places qs) F).z
unfolding moved image_sum places_of ◌∗◌ when identity X_at Z_at
moved_z operands [] qs F = refl
moved_z operands (j ∷ places) [] F = refl
moved_z operands (j ∷ places) (q ∷ qs) F =
    ap (λ (rest : Bits). given (F.z q) (only (get_or operands j 0)) △ rest) (moved_z operands places qs F) ∙ none_with (F.z q) (F.x q) _ _

pub permutation_acts : (w n m : ℕ) (places qs x z d x' z' : List ℕ) → RowsPermuted w places qs x x' → RowsPermuted w places qs z z'
    → Acts w (line_rule n m (Line.permute places qs)) x z d x' z' d
unfolding forward transformed cleared ◌∗◌
permutation_acts w n m places qs x z d x' z' of_x of_z =
    acts_frame w (λ s. transformed qs (places_of qs places qs)) x z d x' z'
    (λ s h. pauli_path
    (of_x.shots s h ∙ ap (λ (c : Bits). (column w x s ∩ outside qs) △ c) (moved_x qs places qs (frame_of w x z s)))
    (of_z.shots s h ∙ ap (λ (c : Bits). (column w z s ∩ outside qs) △ c) (moved_z qs places qs (frame_of w x z s))))
