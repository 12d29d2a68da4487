-- What a line does to the observable going back is the transpose, under the commutation form, of what it does to a frame. Assumes nothing.
use Rattle.std.specs.Prelude.{◌≡◌, true, ℕ, zero, suc, ◌<◌, ltb, get_or}
use Rattle.std.proofs.Math.Path.{refl, ap, ap₂}
use Rattle.std.proofs.Common.{◌∙◌, arith, ltb-true}
use Rattle.std.proofs.Math.Bool.{and-eq-true_iff}
use mathlib.Core.List.{List, [], ◌∷◌, map}
use Rattle.pauli.specs.Pauli.{Pauli, X_at, Z_at, ◌∗◌, when, anticommutes, cleared}
use Rattle.pauli.specs.Gate.{Gate, swap_XZ, add_xto_Z, add_zto_X, controlled_X, controlled_Z, controlled_Y, swap_rows_of, prepare_bell, prepare_bell_back, gate_with, conjugated, conjugated_back}
use Rattle.pauli.specs.Bits.{parity, ◌⊕◌}
use Rattle.pauli.proofs.Laws.Pairing.{pairing, anti_comm, anti_cleared, anti_∗, anti_∗_right, anti_X_right, anti_Z_right}
use Rattle.pauli.proofs.Laws.Gates.{swap_XZ_is, add_xto_Z_is, add_zto_X_is, controlled_X_is, controlled_Z_is, controlled_Y_is, swap_rows_is}
use Rattle.job.specs.Checks.{all_below}
use Rattle.frames.specs.Forward.{exponentiate, controlled_pauli, Image, images_from, images_of, image_sum, transformed, places_of}
use Rattle.backward.specs.Walk.{images_back, clifford_back_of, fetched, permute_back_of}

-- g is the transpose of f under the commutation form over n qubits: f F and B anticommute exactly when F and g B do.
abbrev pub Transpose : ℕ → (Pauli → Pauli) → (Pauli → Pauli) → Type 0
Transpose n f g = (F B : Pauli) → anticommutes n (f F) B ≡ anticommutes n F (g B)

-- over no qubits all Paulis commute
pub transpose_none : (f g : Pauli → Pauli) → Transpose 0 f g
unfolding anticommutes parity ◌⊕◌
transpose_none f g F B = refl

-- each number of the list is below n
abbrev pub Below : ℕ → List ℕ → Type 0
Below n [] = Unit {0}
Below n (q ∷ qs) = (q < n) × Below n qs

pub all_below_below : (n : ℕ) (qs : List ℕ) → all_below n qs ≡ true → Below n qs
unfolding all_below
all_below_below n [] h = tt
all_below_below n (q ∷ qs) h = let (first, rest) = (and-eq-true_iff (ltb q n) (all_below n qs)).0 h in (ltb-true q n first, all_below_below n qs rest)

-- every operand is below n, and so is the 0 that stands for one that is missing
below_at : (n : ℕ) (qs : List ℕ) (i : ℕ) → 0 < n → Below n qs → get_or qs i 0 < n
below_at n [] i z h = z
below_at n (q ∷ qs) zero z (h, hs) = h
below_at n (q ∷ qs) (suc i) z (h, hs) = below_at n qs i z hs

abbrev qubit_of : Image → ℕ
qubit_of g = g.qubit

ruleset gates = (pairing, swap_XZ_is, add_xto_Z_is, add_zto_X_is, controlled_X_is, controlled_Z_is, controlled_Y_is, swap_rows_is)

module _ (n : ℕ) where
  -- ---- gates

  swap_XZ_transpose : (q : ℕ) → q < n → Transpose n (swap_XZ q) (swap_XZ q)
  swap_XZ_transpose q h F B = simp gates

  add_xto_Z_transpose : (q : ℕ) → q < n → Transpose n (add_xto_Z q) (add_xto_Z q)
  add_xto_Z_transpose q h F B = simp gates

  add_zto_X_transpose : (q : ℕ) → q < n → Transpose n (add_zto_X q) (add_zto_X q)
  add_zto_X_transpose q h F B = simp gates

  controlled_X_transpose : (a b : ℕ) → a < n → b < n → Transpose n (controlled_X a b) (controlled_X a b)
  controlled_X_transpose a b h k F B = simp gates

  controlled_Z_transpose : (a b : ℕ) → a < n → b < n → Transpose n (controlled_Z a b) (controlled_Z a b)
  controlled_Z_transpose a b h k F B = simp gates

  controlled_Y_transpose : (a b : ℕ) → a < n → b < n → Transpose n (controlled_Y a b) (controlled_Y a b)
  controlled_Y_transpose a b h k F B = simp gates

  swap_rows_transpose : (a b : ℕ) → a < n → b < n → Transpose n (swap_rows_of a b) (swap_rows_of a b)
  swap_rows_transpose a b h k F B = simp gates

  pub gate_transpose : (g : Gate) (a b : ℕ) → a < n → b < n → Transpose n (conjugated g a b) (conjugated_back g a b)
  unfolding gate_with prepare_bell prepare_bell_back
  gate_transpose Gate.I a b h k F B = refl
  gate_transpose Gate.X a b h k F B = refl
  gate_transpose Gate.Y a b h k F B = refl
  gate_transpose Gate.Z a b h k F B = refl
  gate_transpose Gate.Hadamard a b h k F B = swap_XZ_transpose a h F B
  gate_transpose Gate.SqrtZ a b h k F B = add_xto_Z_transpose a h F B
  gate_transpose Gate.SqrtZInv a b h k F B = add_xto_Z_transpose a h F B
  gate_transpose Gate.SqrtX a b h k F B = add_zto_X_transpose a h F B
  gate_transpose Gate.SqrtXInv a b h k F B = add_zto_X_transpose a h F B
  gate_transpose Gate.SqrtY a b h k F B = swap_XZ_transpose a h F B
  gate_transpose Gate.SqrtYInv a b h k F B = swap_XZ_transpose a h F B
  gate_transpose Gate.ControlledX a b h k F B = controlled_X_transpose a b h k F B
  gate_transpose Gate.ControlledZ a b h k F B = controlled_Z_transpose a b h k F B
  gate_transpose Gate.Swap a b h k F B = swap_rows_transpose a b h k F B
  gate_transpose Gate.PrepareBell a b h k F B = controlled_X_transpose a b h k (swap_XZ a F) B ∙ swap_XZ_transpose a h F (controlled_X a b B)
  gate_transpose Gate.ControlledY a b h k F B = controlled_Y_transpose a b h k F B

  pub exponentiate_transpose : (P : Pauli) → Transpose n (exponentiate n P) (exponentiate n P)
  unfolding exponentiate
  exponentiate_transpose P F B = simp (pairing, anti_comm n P B)

  pub controlled_pauli_transpose : (C T : Pauli) → Transpose n (controlled_pauli n C T) (controlled_pauli n C T)
  unfolding controlled_pauli
  controlled_pauli_transpose C T F B = simp (pairing, anti_comm n C B, anti_comm n T B)

  -- ---- Cliffords and permutations: one image after the other

  image_step : (q : ℕ) (RX RZ F' B' F B : Pauli) → q < n → anticommutes n F' B ≡ anticommutes n F B'
      → anticommutes n (when (F.x q) RX ∗ when (F.z q) RZ ∗ F') B
      ≡ anticommutes n F (when (anticommutes n B RZ) (X_at q) ∗ when (anticommutes n B RX) (Z_at q) ∗ B')
  image_step q RX RZ F' B' F B h e = simp (pairing, anti_comm n B RX, anti_comm n B RZ, e)

  image_sum_transpose : (gs : List Image) → Below n (map qubit_of gs) → Transpose n (image_sum gs) (images_back n gs)
  unfolding image_sum images_back
  image_sum_transpose [] h F B = simp pairing
  image_sum_transpose (g ∷ gs) (h, hs) F B = image_step g.qubit _ _ _ _ F B h (image_sum_transpose gs hs F B)

  pub transformed_transpose : (qs : List ℕ) (gs : List Image) → Below n (map qubit_of gs) → Transpose n (transformed qs gs) (clifford_back_of n qs gs)
  unfolding transformed clifford_back_of
  transformed_transpose qs gs h F B = simp (anti_∗, anti_∗_right, anti_cleared, image_sum_transpose gs h)

  images_below : (qs : List ℕ) (t i : ℕ) (rest : List ℕ) → Below n rest → Below n (map qubit_of (images_from qs t i rest))
  unfolding images_from
  images_below qs t i [] h = tt
  images_below qs t i (q ∷ rest) (h, hs) = (h, images_below qs t (suc i) rest hs)

  pub clifford_transpose : (qs : List ℕ) (t : ℕ) → all_below n qs ≡ true → Transpose n (transformed qs (images_of qs t)) (clifford_back_of n qs (images_of qs t))
  unfolding images_of
  clifford_transpose qs t h = transformed_transpose qs (images_of qs t) (images_below qs t 0 qs (all_below_below n qs h))

  places_below : (places s qs : List ℕ) → Below n qs → Below n (map qubit_of (places_of places s qs))
  unfolding places_of
  places_below places [] qs h = tt
  places_below places (j ∷ s) [] h = tt
  places_below places (j ∷ s) (q ∷ qs) (h, hs) = (h, places_below places s qs hs)

  -- to fetch B from place s_i is to see whether B anticommutes with the images there
  images_back_places : (places s qs : List ℕ) (B : Pauli) → 0 < n → Below n places → images_back n (places_of places s qs) B ≡ fetched places s qs B
  unfolding places_of images_back fetched
  images_back_places places [] qs B z h = refl
  images_back_places places (j ∷ s) [] B z h = refl
  images_back_places places (j ∷ s) (q ∷ qs) B z h =
      ap₂ ◌∗◌
      (ap₂ (λ x y. when x (X_at q) ∗ when y (Z_at q)) (anti_Z_right n (get_or places j 0) B (below_at n places j z h)) (anti_X_right n (get_or places j 0) B (below_at n places j z h)))
      (images_back_places places s qs B z h)

  permute_some : (s qs : List ℕ) → 0 < n → Below n qs → Transpose n (transformed qs (places_of qs s qs)) (permute_back_of s qs)
  unfolding clifford_back_of permute_back_of
  permute_some s qs z h F B =
      transformed_transpose qs (places_of qs s qs) (places_below qs s qs h) F B
      ∙ ap (λ R. anticommutes n F (cleared qs B ∗ R)) (images_back_places qs s qs B z h)

-- ---- operands as a line lists them

pub unitary_transpose : (n : ℕ) (g : Gate) (qs : List ℕ) → all_below n qs ≡ true
    → Transpose n (conjugated g (get_or qs 0 0) (get_or qs 1 0)) (conjugated_back g (get_or qs 0 0) (get_or qs 1 0))
unitary_transpose zero g qs h = transpose_none _ _
unitary_transpose (suc n) g qs h =
    let below : Below (suc n) qs = all_below_below (suc n) qs h in
    gate_transpose (suc n) g _ _ (below_at (suc n) qs 0 (omega arith) below) (below_at (suc n) qs 1 (omega arith) below)

pub permute_transpose : (n : ℕ) (s qs : List ℕ) → all_below n qs ≡ true → Transpose n (transformed qs (places_of qs s qs)) (permute_back_of s qs)
permute_transpose zero s qs h = transpose_none _ _
permute_transpose (suc n) s qs h = permute_some (suc n) s qs (omega arith) (all_below_below (suc n) qs h)
