-- Laws: what a sound line makes of a frame on the n qubits is a frame on them; so is what sound lines make of it. Assumes nothing.
use Rattle.std.specs.Prelude.{◌≡◌, Bool, true, false, ◌&&◌, ℕ, suc, ◌+◌, ◌<◌, ◌≤◌, length}
use Rattle.std.proofs.Math.Path.{refl, ap, ap₂}
use Rattle.std.proofs.Common.{◌∙◌, arith, eq-eqb}
use Rattle.std.proofs.Math.Bool.{not, and-false}
use mathlib.Core.List.{List, [], ◌∷◌, ◌++◌}
use Rattle.std.proofs.Math.ListN.{get_or}
use Rattle.pauli.specs.Bits.{◌⊕◌, ◌△◌, ◌∩◌, none, only, given, outside, members}
use Rattle.pauli.specs.Pauli.{Pauli, identity, X_at, Y_at, Z_at, ◌∗◌, when, cleared}
use Rattle.pauli.specs.Gate.{Gate, operands_of, swap_XZ, gate_with, prepare_bell, conjugated}
use Rattle.pauli.proofs.Laws.Gates.{swap_XZ_is, add_xto_Z_is, add_zto_X_is, controlled_X_is, controlled_Z_is, controlled_Y_is, swap_rows_is}
use Rattle.job.specs.declared.Header.{Header}
use Rattle.job.specs.Line.{SparsePauli, pauli_of, Line, Instruction}
use Rattle.job.specs.Checks.{all_below}
use Rattle.job.specs.Job.{recorded_by}
use Rattle.job.specs.Sound.{Every, PauliSound, LineSound, LinesSound}
use Rattle.job.proofs.Laws.Lists.{below_first, below_at}
use Rattle.job.proofs.Laws.Permutation.{permutation_parts}
use Rattle.frames.specs.Forward.{exponentiate, controlled_pauli, Image, table_row, images_from, images_of, places_of, image_sum, transformed, State, setting_of, forward, run}
use Rattle.frames.specs.Conjugation.{Within}
use Rattle.frames.proofs.Laws.Gates.{GateOperands}
use Rattle.frames.proofs.Laws.Places.{where_is, placed_off}
use Rattle.frames.proofs.Laws.Generators.{within_X, within_Z}
use Rattle.frames.proofs.Laws.Lines.{operands}

module _ (n : ℕ) where
  -- ---- products

  pub within_identity : Within n identity
  unfolding identity none
  within_identity = record { in_x = λ i h. refl; in_z = λ i h. refl }

  pub within_∗ : (P Q : Pauli) → Within n P → Within n Q → Within n (P ∗ Q)
  unfolding ◌∗◌ ◌△◌ ◌⊕◌
  within_∗ P Q p q = record { in_x = λ i h. ap₂ ◌⊕◌ (p.in_x i h) (q.in_x i h); in_z = λ i h. ap₂ ◌⊕◌ (p.in_z i h) (q.in_z i h) }

  within_when : (b : Bool) (P : Pauli) → Within n P → Within n (when b P)
  unfolding when given
  within_when b P p = record { in_x = λ i h. ap (λ c. b && c) (p.in_x i h) ∙ and-false b; in_z = λ i h. ap (λ c. b && c) (p.in_z i h) ∙ and-false b }

  -- a Pauli, and another where b is true
  within_added : (F : Pauli) (b : Bool) (P : Pauli) → Within n F → Within n P → Within n (F ∗ when b P)
  within_added F b P f p = within_∗ F (when b P) f (within_when b P p)

  within_cleared : (qs : List ℕ) (P : Pauli) → Within n P → Within n (cleared qs P)
  unfolding cleared ◌∩◌
  within_cleared qs P p = record { in_x = λ i h. ap (λ c. c && outside qs i) (p.in_x i h); in_z = λ i h. ap (λ c. c && outside qs i) (p.in_z i h) }

  within_Y : (q : ℕ) → q < n → Within n (Y_at q)
  unfolding Y_at X_at Z_at
  within_Y q h = record { in_x = (within_X n q h).in_x; in_z = (within_Z n q h).in_z }

  -- ---- lists of qubits

  -- a number from n up is not on a list of qubits
  outside_past : (qs : List ℕ) → all_below n qs ≡ true → (i : ℕ) → n ≤ i → outside qs i ≡ true
  outside_past qs b i h = where_is qs i (λ e. e) (λ p. absurd (omega (arith, below_at n qs b p.place p.inside, p.there)))

  within_pauli : (P : SparsePauli) → PauliSound n P → Within n (pauli_of P)
  unfolding pauli_of members
  within_pauli P s =
      record { in_x = λ i h. ap not (outside_past P.x s.x.below i h); in_z = λ i h. ap not (outside_past P.z s.z.below i h) }

  within_row : (qs : List ℕ) → all_below n qs ≡ true → (t r : ℕ) → Within n (table_row qs t r)
  unfolding table_row
  within_row qs b t r = record { in_x = λ i h. placed_off _ qs i (outside_past qs b i h); in_z = λ i h. placed_off _ qs i (outside_past qs b i h) }

  -- ---- gates

  within_swap_XZ : (q : ℕ) → q < n → (F : Pauli) → Within n F → Within n (swap_XZ q F)
  within_swap_XZ q h F w = rw (swap_XZ_is q F) (within_added F _ (Y_at q) w (within_Y q h))

  within_controlled : (F : Pauli) (a b : Bool) (P Q : Pauli) → Within n F → Within n P → Within n Q → Within n (F ∗ when a P ∗ when b Q)
  within_controlled F a b P Q f p q = within_added _ b Q (within_added F a P f p) q

  gate_within : (g : Gate) (a b : ℕ) → GateOperands n g a b → (F : Pauli) → Within n F → Within n (conjugated g a b F)
  unfolding gate_with prepare_bell operands_of
  gate_within Gate.I a b o F w = w
  gate_within Gate.X a b o F w = w
  gate_within Gate.Y a b o F w = w
  gate_within Gate.Z a b o F w = w
  gate_within Gate.Hadamard a b o F w = within_swap_XZ a o.first F w
  gate_within Gate.SqrtZ a b o F w = rw (add_xto_Z_is a F) (within_added F _ _ w (within_Z n a o.first))
  gate_within Gate.SqrtZInv a b o F w = rw (add_xto_Z_is a F) (within_added F _ _ w (within_Z n a o.first))
  gate_within Gate.SqrtX a b o F w = rw (add_zto_X_is a F) (within_added F _ _ w (within_X n a o.first))
  gate_within Gate.SqrtXInv a b o F w = rw (add_zto_X_is a F) (within_added F _ _ w (within_X n a o.first))
  gate_within Gate.SqrtY a b o F w = within_swap_XZ a o.first F w
  gate_within Gate.SqrtYInv a b o F w = within_swap_XZ a o.first F w
  gate_within Gate.ControlledX a b o F w =
      rw (controlled_X_is a b F) (within_controlled F _ _ _ _ w (within_X n b (o.second refl)) (within_Z n a o.first))
  gate_within Gate.ControlledZ a b o F w =
      rw (controlled_Z_is a b F) (within_controlled F _ _ _ _ w (within_Z n b (o.second refl)) (within_Z n a o.first))
  gate_within Gate.Swap a b o F w =
      rw (swap_rows_is a b F)
      (within_controlled F _ _ _ _ w
      (within_∗ _ _ (within_X n a o.first) (within_X n b (o.second refl)))
      (within_∗ _ _ (within_Z n a o.first) (within_Z n b (o.second refl))))
  gate_within Gate.PrepareBell a b o F w =
      rw (controlled_X_is a b (swap_XZ a F))
      (within_controlled (swap_XZ a F) _ _ _ _ (within_swap_XZ a o.first F w) (within_X n b (o.second refl)) (within_Z n a o.first))
  gate_within Gate.ControlledY a b o F w =
      rw (controlled_Y_is a b F) (within_controlled F _ _ _ _ w (within_Y b (o.second refl)) (within_Z n a o.first))

  -- ---- Cliffords and permutations

  ImageWithin : Image → Type 0
  ImageWithin g = Within n g.of_X × Within n g.of_Z

  sum_within : (gs : List Image) → Every ImageWithin gs → (F : Pauli) → Within n (image_sum gs F)
  unfolding image_sum ImageWithin
  sum_within [] e F = within_identity
  sum_within (g ∷ gs) e F =
      within_∗ _ _ (within_∗ _ _ (within_when _ g.of_X e.0.0) (within_when _ g.of_Z e.0.1)) (sum_within gs e.1 F)

  transformed_within : (qs : List ℕ) (gs : List Image) → Every ImageWithin gs → (F : Pauli) → Within n F → Within n (transformed qs gs F)
  unfolding transformed
  transformed_within qs gs e F w = within_∗ _ _ (within_cleared qs F w) (sum_within gs e F)

  images_within : (qs : List ℕ) → all_below n qs ≡ true → (t i : ℕ) (rest : List ℕ) → Every ImageWithin (images_from qs t i rest)
  unfolding images_from ImageWithin
  images_within qs b t i [] = tt
  images_within qs b t i (q ∷ rest) = ((within_row qs b t i, within_row qs b t (length qs + i)), images_within qs b t (suc i) rest)

  places_within : (places : List ℕ) → all_below n places ≡ true → (s qs : List ℕ) → all_below (length places) s ≡ true → Every ImageWithin (places_of places s qs)
  unfolding places_of ImageWithin
  places_within places b [] qs e = tt
  places_within places b (j ∷ s) [] e = tt
  places_within places b (j ∷ s) (q ∷ qs) e =
      let h = below_first (length places) j s e in
      let below : get_or places j 0 < n = below_at n places b j h.0 in
      ((within_X n _ below, within_Z n _ below), places_within places b s qs h.1)

-- ---- lines

-- a sound line
pub line_within : (h : Header) (r shot : ℕ) (l : Line) → LineSound h r l → (s : State) → Within h.qubits s.frame
    → Within h.qubits (forward (setting_of h shot) l s).frame
unfolding LineSound forward exponentiate controlled_pauli images_of
line_within h r shot (Line.unitary g qs) o s w =
    let t = operands h.qubits g qs (record { below = o.operands.below; once = o.operands.apart; last = eq-eqb _ _ o.count }) in
    gate_within h.qubits g _ _ t s.frame w
line_within h r shot (Line.clifford qs t) o s w =
    transformed_within h.qubits qs _ (images_within h.qubits qs o.operands.below t 0 qs) s.frame w
line_within h r shot (Line.pauli P) o s w = w
line_within h r shot (Line.exponential P) o s w = within_added h.qubits s.frame _ _ w (within_pauli h.qubits P o)
line_within h r shot (Line.controlled C T) o s w =
    within_controlled h.qubits s.frame _ _ _ _ w (within_pauli h.qubits T o.target) (within_pauli h.qubits C o.control)
line_within h r shot (Line.permute p qs) o s w =
    let places = permutation_parts (length qs) p o.places in
    transformed_within h.qubits qs _ (places_within h.qubits qs o.operands.below p qs places.below) s.frame w
line_within h r shot (Line.measure P id) o s w = w
line_within h r shot (Line.allocate id angle) o s w = w
line_within h r shot (Line.conditional P ids par) o s w = within_added h.qubits s.frame _ _ w (within_pauli h.qubits P o.pauli)
line_within h r shot (Line.reset qs) o s w = within_cleared h.qubits qs s.frame w
line_within h r shot (Line.inject at P) o s w = within_added h.qubits s.frame _ _ w (within_pauli h.qubits P o.pauli)
line_within h r shot (Line.flip at id) o s w = w
line_within h r shot (Line.barrier qs) o s w = w

-- sound lines, one after another
pub lines_within : (h : Header) (r shot : ℕ) (ls : List Line) → LinesSound h r ls → (s : State) → Within h.qubits s.frame
    → Within h.qubits (run (setting_of h shot) ls s).frame
unfolding LinesSound run
lines_within h r shot [] o s w = w
lines_within h r shot (l ∷ ls) o s w =
    lines_within h (r + recorded_by (Instruction.line l)) shot ls o.1 (forward (setting_of h shot) l s) (line_within h r shot l o.0 s w)

-- ---- some of the lines

pub sound_before : (h : Header) (r : ℕ) (before after : List Line) → LinesSound h r (before ++ after) → LinesSound h r before
unfolding LinesSound
sound_before h r [] after o = tt
sound_before h r (l ∷ before) after o = (o.0, sound_before h (r + recorded_by (Instruction.line l)) before after o.1)

-- the line behind some others, with the outcomes that those record
pub sound_here : (h : Header) (r : ℕ) (before : List Line) (l : Line) (after : List Line) → LinesSound h r (before ++ (l ∷ after)) → (k : ℕ) × LineSound h k l
unfolding LinesSound
sound_here h r [] l after o = (r, o.0)
sound_here h r (k ∷ before) l after o = sound_here h (r + recorded_by (Instruction.line k)) before l after o.1
