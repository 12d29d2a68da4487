-- Saved rows, and what goes by them: definitions that contracts of Cliffords and permutations cite. Assumes nothing.
use Rattle.std.specs.Prelude.{◌≡◌, Bool, ◌&&◌, List, [], ◌∷◌, ℕ, ◌+◌, ◌/◌, ◌<◌, length, get_or}
use Rattle.pauli.specs.Bits.{Bits, none, only, given, added, outside, ◌∩◌, ◌△◌}
use Rattle.pauli.specs.Pauli.{Pauli, ◌∗◌}
use Rattle.frames.specs.Forward.{images_of, image_sum}
use Rattle.rows.specs.Column.{column}
use Rattle.propagator.specs.Acts.{frame_of}

-- Of the saved rows from `first` on, row i has, in shot s, what stands at operand i in c: the X parts or the Z parts of a frame.
pub record Saved (w : ℕ) (qs saved : List ℕ) (first s : ℕ) (c : Bits) : Type 0 where
  pub row : (i : ℕ) → i < length qs → column w saved s (first + i) ≡ c (get_or qs i 0)

-- Row i of src was added to row q in every shot, where on is true.
pub record RowAdded (w : ℕ) (on : Bool) (q i : ℕ) (src l l' : List ℕ) : Type 0 where
  pub shots : (s : ℕ) → s / 64 < w → column w l' s ≡ added (column w l s) q (on && column w src s i)

-- In every shot was added the sum of the images of the frame F whose rows on the operands were saved.
pub record ImagesAdded (w : ℕ) (qs : List ℕ) (t : ℕ) (saved x z x' z' : List ℕ) : Type 0 where
  pub shots : (s : ℕ) → s / 64 < w → (F : Pauli) → Saved w qs saved 0 s F.x → Saved w qs saved (length qs) s F.z
      → frame_of w x' z' s ≡ frame_of w x z s ∗ image_sum (images_of qs t) F

-- What stood at operand i, of those from here on, at the operand of place s_i.
unfoldable pub moved : List ℕ → List ℕ → List ℕ → Bits → Bits
moved operands [] qs c = none
moved operands (j ∷ places) [] c = none
moved operands (j ∷ places) (q ∷ qs) c = given (c q) (only (get_or operands j 0)) △ moved operands places qs c

-- The saved rows were added at their places, in every shot.
pub record PlacesAdded (w : ℕ) (places qs saved l l' : List ℕ) : Type 0 where
  pub shots : (s : ℕ) → s / 64 < w → (c : Bits) → Saved w qs saved 0 s c → column w l' s ≡ column w l s △ moved qs places qs c

-- The rows of the operands were permuted, in every shot.
pub record RowsPermuted (w : ℕ) (places qs l l' : List ℕ) : Type 0 where
  pub shots : (s : ℕ) → s / 64 < w → column w l' s ≡ (column w l s ∩ outside qs) △ moved qs places qs (column w l s)
