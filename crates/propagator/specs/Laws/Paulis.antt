-- Paulis that are added where a mask says, in every shot. Assumes nothing.
use Rattle.std.specs.Prelude.{◌≡◌, refl, Bool, true, List, ℕ, ◌+◌, ◌*◌, ◌/◌, ◌<◌, ◌≤◌, eqb, set}
use Rattle.std.proofs.Math.Path.{ap, ap₂}
use Rattle.std.proofs.Common.{◌∙◌, arith, zero-mul, zero-add}
use Rattle.std.proofs.Math.ListN.{length}
use Rattle.pauli.specs.Bits.{Bits, members, replaced, added as added_at, ◌⊕◌, ◌∩◌, parity, sum_over}
use Rattle.pauli.specs.Pauli.{Pauli, ◌∗◌, when, anticommutes, cleared}
use Rattle.pauli.proofs.Laws.Gates.{pauli_path}
use Rattle.job.specs.Line.{SparsePauli, pauli_of, Line}
use Rattle.job.specs.Checks.{all_below, distinct}
use Rattle.frames.specs.Forward.{State, on_frame, forward, exponentiate, controlled_pauli}
use Rattle.rows.specs.Words.{bit_in}
use Rattle.rows.specs.Overwrite.{xored, cleared as clearedWords, flipped}
use Rattle.rows.specs.Listed.{over_list}
use Rattle.rows.specs.Column.{column}
use Rattle.rows.proofs.Laws.Overwrite.{length_cleared, length_xored}
use Rattle.rows.proofs.Laws.Listed.{length_over}
use Rattle.rows.proofs.Laws.Column.{column_add_mask, column_flip, column_clear, column_flipped, column_add_listed, column_sum_listed, added_twice, added_replaced, replaced_here, replaced_off}
use Rattle.totals.specs.Ones.{ones_to}
use Rattle.totals.specs.Held.{TotalsHeld}
use Rattle.totals.specs.Laws.Held.{added_off, held_set}
use Rattle.propagator.specs.Acts.{frame_of, Acts, line_rule, written, PauliIn, MaskPut}
use Rattle.propagator.specs.Laws.Lists.{odd_members_lem, sum_members, row_in, rows_in}
use Rattle.propagator.specs.Laws.Acts.{acts_frame}

module _ (w n : ℕ) (x z : List ℕ) (lx : length x ≡ n * w) (lz : length z ≡ n * w) (px pz : List ℕ) (within : PauliIn n px pz) where
  -- the sums of the listed rows say whether a frame anticommutes
  sums_anticommute : (s : ℕ) → sum_over pz (column w x s) ⊕ sum_over px (column w z s) ≡ anticommutes n (frame_of w x z s) (pauli_of (written px pz))
  unfolding anticommutes pauli_of
  sums_anticommute s =
      rw (sum_members n (column w x s) pz within.z_below within.z_once, sum_members n (column w z s) px within.x_below within.x_once)

  pub mask_put : (r : ℕ) (m m₁ m' : List ℕ) → r * w + w ≤ length m → m₁ ≡ over_list (λ q. xored (r * w) (q * w) w x) pz (clearedWords (r * w) w m)
      → m' ≡ over_list (λ q. xored (r * w) (q * w) w z) px m₁ → MaskPut w n (written px pz) r x z m m'
  mask_put r m m₁ m' fits e₁ e₂ =
      let fits₁ : r * w + w ≤ length m₁ = rw (e₁, length_over _ (λ q l. length_xored (r * w) (q * w) w x l) pz (clearedWords (r * w) w m), length_cleared) fits in
      record {
        shots = λ s h.
            rw (e₂, column_add_listed w s h r z px m₁ fits₁, e₁, column_sum_listed w s h r x pz m fits, added_replaced)
            (ap (replaced (column w m s) r) (sums_anticommute s));
      }

  pub measure_acts : (m id : ℕ) (d d₁ d' : List ℕ) → length d ≡ m * w → id < m → d₁ ≡ over_list (λ q. xored (id * w) (q * w) w x) pz d
      → d' ≡ over_list (λ q. xored (id * w) (q * w) w z) px d₁ → Acts w (line_rule n m (Line.measure (written px pz) id)) x z d x z d'
  unfolding forward
  measure_acts m id d d₁ d' ld below e₁ e₂ =
      record {
        shots = λ s h. λ i. record { frame = frame_of w x z s; deltas = shot s h i };
      }
    where
      fits : id * w + w ≤ length d
      fits = row_in w m id (length d) ld below

      fits₁ : id * w + w ≤ length d₁
      fits₁ = rw (e₁, length_over _ (λ q l. length_xored (id * w) (q * w) w x l) pz d) fits

      shot : (s : ℕ) → s / 64 < w → column w d' s ≡ added_at (column w d s) id (anticommutes n (frame_of w x z s) (pauli_of (written px pz)))
      shot s h =
          rw (e₂, column_add_listed w s h id z px d₁ fits₁, e₁, column_add_listed w s h id x pz d fits, added_twice)
          (ap (added_at (column w d s) id) (sums_anticommute s))

  -- the other rows are as they were, so that their totals hold
  pub measure_held : (m id : ℕ) (d d' totals totals' : List ℕ) → id < m → Acts w (line_rule n m (Line.measure (written px pz) id)) x z d x z d' → TotalsHeld w m d totals
      → totals' ≡ set totals id (ones_to (64 * w) (bit_in w d' id)) → TotalsHeld w m d' totals'
  unfolding forward
  measure_held m id d d' totals totals' below acts held e =
      rw e (held_set held id below _ (λ s r h ne. ap (λ (t : State). t.deltas r) (acts.shots s h) ∙ added_off (column w d s) id _ r ne) refl)

  pub pauli_acts : (d masks : List ℕ) (r : ℕ) (x' z' : List ℕ) → x' ≡ over_list (λ q. xored (q * w) (r * w) w masks) px x
      → z' ≡ over_list (λ q. xored (q * w) (r * w) w masks) pz z
      → Acts w (λ s. on_frame (λ F. F ∗ when (column w masks s r) (pauli_of (written px pz)))) x z d x' z' d
  unfolding ◌∗◌ when pauli_of
  pauli_acts d masks r x' z' ex ez =
      acts_frame w (λ s F. F ∗ when (column w masks s r) (pauli_of (written px pz))) x z d x' z'
      (λ s h. pauli_path
      (rw (ex, column_add_mask w s h r masks px x (rows_in w n x px lx within.x_below), odd_members_lem px within.x_once))
      (rw (ez, column_add_mask w s h r masks pz z (rows_in w n z pz lz within.z_below), odd_members_lem pz within.z_once)))

  pub inject_acts : (shot : ℕ) → shot < 64 * w → (m : ℕ) (d x' z' : List ℕ) → x' ≡ over_list (flipped w shot) px x → z' ≡ over_list (flipped w shot) pz z
      → Acts w (line_rule n m (Line.inject shot (written px pz))) x z d x' z' d
  unfolding forward ◌∗◌ when pauli_of
  inject_acts shot k m d x' z' ex ez =
      acts_frame w (λ s F. F ∗ when (eqb shot s) (pauli_of (written px pz))) x z d x' z'
      (λ s h. pauli_path
      (rw (ex, column_flip w s h shot (omega arith) px x (rows_in w n x px lx within.x_below), odd_members_lem px within.x_once))
      (rw (ez, column_flip w s h shot (omega arith) pz z (rows_in w n z pz lz within.z_below), odd_members_lem pz within.z_once)))

-- ---- what lines do under their masks

-- the row that was put holds the shots whose frame anticommutes with P; the others are as they were
mask_is : {w n : ℕ} {P : SparsePauli} {r : ℕ} {x z m m' : List ℕ} → MaskPut w n P r x z m m' → (s : ℕ) → s / 64 < w
    → column w m' s r ≡ anticommutes n (frame_of w x z s) (pauli_of P)
mask_is {r = r} put s h = ap (λ (c : Bits). c r) (put.shots s h) ∙ replaced_here _ r _

other_mask : {w n : ℕ} {P : SparsePauli} {r : ℕ} {x z m m' : List ℕ} (i : ℕ) → (i ≡ r → ⊥) → MaskPut w n P r x z m m' → (s : ℕ) → s / 64 < w
    → column w m' s i ≡ column w m s i
other_mask {r = r} i ne put s h = ap (λ (c : Bits). c i) (put.shots s h) ∙ replaced_off _ r _ i ne

-- a Pauli that is added in the shots of a mask, row r
abbrev pub under_mask : ℕ → List ℕ → ℕ → SparsePauli → ℕ → Pauli → Pauli
under_mask w masks r P s F = F ∗ when (column w masks s r) (pauli_of P)

module _ (w n m : ℕ) (x z : List ℕ) where
  pub exponential_acts : (P : SparsePauli) (d x' z' scratch masks : List ℕ) → MaskPut w n P 0 x z scratch masks
      → Acts w (λ s. on_frame (under_mask w masks 0 P s)) x z d x' z' d → Acts w (line_rule n m (Line.exponential P)) x z d x' z' d
  unfolding forward exponentiate
  exponential_acts P d x' z' scratch masks put acts =
      record {
        shots = λ s h.
            acts.shots s h ∙ ap (λ (b : Bool). record { frame = frame_of w x z s ∗ when b (pauli_of P); deltas = column w d s }) (mask_is put s h);
      }

  pub controlled_acts : (C T : SparsePauli) (d x₁ z₁ x' z' scratch of-C masks : List ℕ) → MaskPut w n C 0 x z scratch of-C → MaskPut w n T 1 x z of-C masks
      → Acts w (λ s. on_frame (under_mask w masks 0 T s)) x z d x₁ z₁ d → Acts w (λ s. on_frame (under_mask w masks 1 C s)) x₁ z₁ d x' z' d
      → Acts w (line_rule n m (Line.controlled C T)) x z d x' z' d
  unfolding forward controlled_pauli
  controlled_acts C T d x₁ z₁ x' z' scratch of-C masks put-C put-T first second =
      record {
        shots = λ s h.
            second.shots s h
            ∙ ap (on_frame (under_mask w masks 1 C s)) (first.shots s h)
            ∙ ap₂ (λ (b c : Bool). record { frame = frame_of w x z s ∗ when b (pauli_of T) ∗ when c (pauli_of C); deltas = column w d s })
            (other_mask 0 (λ (e : 0 ≡ 1). omega arith) put-T s h ∙ mask_is put-C s h)
            (mask_is put-T s h);
      }

  pub conditional_acts : (P : SparsePauli) (ids : List ℕ) (par : Bool) (d scratch masks x' z' : List ℕ) → w ≤ length scratch → all_below m ids ≡ true
      → distinct ids ≡ true → masks ≡ over_list (λ q. xored (0 * w) (q * w) w d) ids (clearedWords (0 * w) w scratch)
      → Acts w (λ s. on_frame (under_mask w masks 0 P s)) x z d x' z' d → Acts w (line_rule n m (Line.conditional P ids par)) x z d x' z' d
  unfolding forward
  conditional_acts P ids par d scratch masks x' z' fits below once e acts =
      record {
        shots = λ s h.
            acts.shots s h ∙ ap (λ (b : Bool). record { frame = frame_of w x z s ∗ when b (pauli_of P); deltas = column w d s }) (sums s h);
      }
    where
      row : 0 * w + w ≤ length scratch
      row = rw (zero-mul, zero-add) fits

      sums : (s : ℕ) → s / 64 < w → column w masks s 0 ≡ parity m (column w d s ∩ members ids)
      sums s h =
          rw e (ap (λ (c : Bits). c 0) (column_sum_listed w s h 0 d ids scratch row) ∙ replaced_here _ 0 _) ∙ sum_members m (column w d s) ids below once

  pub reset_acts : (qs d x' z' : List ℕ) → length x ≡ n * w → length z ≡ n * w → all_below n qs ≡ true → x' ≡ over_list (λ q. clearedWords (q * w) w) qs x
      → z' ≡ over_list (λ q. clearedWords (q * w) w) qs z → Acts w (line_rule n m (Line.reset qs)) x z d x' z' d
  unfolding forward cleared
  reset_acts qs d x' z' lx lz below ex ez =
      acts_frame w (λ s. cleared qs) x z d x' z'
      (λ s h. pauli_path (rw ex (column_clear w s h qs x (rows_in w n x qs lx below))) (rw ez (column_clear w s h qs z (rows_in w n z qs lz below))))

  pub flip_acts : (shot id : ℕ) (d d' : List ℕ) → length d ≡ m * w → id < m → shot < 64 * w → d' ≡ flipped w shot id d
      → Acts w (line_rule n m (Line.flip shot id)) x z d x z d'
  unfolding forward
  flip_acts shot id d d' ld below within e =
      record {
        shots = λ s h. λ i. record { frame = frame_of w x z s; deltas = flips s h i };
      }
    where
      flips : (s : ℕ) → s / 64 < w → column w d' s ≡ added_at (column w d s) id (eqb shot s)
      flips s h = rw e (column_flipped w id shot s d (omega arith) h (row_in w m id (length d) ld below))
