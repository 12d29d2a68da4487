-- Gates in every shot: from what the operations on words ensure to the rules of document 01. Assumes nothing.
use Rattle.std.specs.Prelude.{◌≡◌, true, List, ℕ, ◌*◌, ◌-◌, ◌<◌, ◌≤◌, get_or}
use Rattle.std.proofs.Math.Path.{refl, fun_ext}
use Rattle.std.proofs.Common.{sym, ap, subst, ◌∙◌}
use Rattle.std.proofs.Math.Option.{some}
use native.Mathlib.Omega.{arith}
use Rattle.std.proofs.Math.ListN.{length}
use Rattle.pauli.specs.Pauli.{Pauli}
use Rattle.pauli.specs.Gate.{Gate, operands_of, conjugated, prepare_bell, swap_XZ, add_xto_Z, add_zto_X, controlled_X, controlled_Z, controlled_Y, swap_rows_of}
use Rattle.pauli.proofs.Laws.Gates.{pauli_path}
use Rattle.pauli.proofs.Laws.Code.{last_operand, some_operand}
use Rattle.job.specs.Line.{Line}
use Rattle.job.specs.Checks.{all_below, distinct}
use Rattle.job.proofs.Laws.Lists.{below_at, distinct_at}
use Rattle.frames.specs.Forward.{on_frame, forward}
use Rattle.frames.proofs.Laws.Gates.{controlled_Y_composed}
use Rattle.rows.specs.Overwrite.{copied, xored, swapped}
use Rattle.rows.specs.Column.{column}
use Rattle.rows.proofs.Laws.Overwrite.{length_xored}
use Rattle.rows.proofs.Laws.Column.{column_copied, column_xored, column_swapped}
use Rattle.propagator.specs.Acts.{frame_of, Acts, line_rule}
use Rattle.propagator.specs.Laws.Lists.{row_in}
use Rattle.propagator.specs.Laws.Acts.{acts_frame, acts_then}

module _ (w n : ℕ) (x z d : List ℕ) (lx : length x ≡ n * w) (lz : length z ≡ n * w) where
  module _ (q : ℕ) (h : q < n) where
    pub h_acts : (x' z' : List ℕ) → x' ≡ copied (q * w) (q * w) w z x → z' ≡ copied (q * w) (q * w) w x z → Acts w (λ s. on_frame (swap_XZ q)) x z d x' z' d
    unfolding swap_XZ
    h_acts x' z' ex ez =
        acts_frame w (λ s. swap_XZ q) x z d x' z'
        (λ s k. pauli_path (rw ex (column_copied w s k q q z x (row_in w n q (length x) lx h))) (rw ez (column_copied w s k q q x z (row_in w n q (length z) lz h))))

    pub s_acts : (z' : List ℕ) → z' ≡ xored (q * w) (q * w) w x z → Acts w (λ s. on_frame (add_xto_Z q)) x z d x z' d
    unfolding add_xto_Z
    s_acts z' ez = acts_frame w (λ s. add_xto_Z q) x z d x z' (λ s k. pauli_path refl (rw ez (column_xored w s k q q x z (row_in w n q (length z) lz h))))

    pub sqrt_x_acts : (x' : List ℕ) → x' ≡ xored (q * w) (q * w) w z x → Acts w (λ s. on_frame (add_zto_X q)) x z d x' z d
    unfolding add_zto_X
    sqrt_x_acts x' ex = acts_frame w (λ s. add_zto_X q) x z d x' z (λ s k. pauli_path (rw ex (column_xored w s k q q z x (row_in w n q (length x) lx h))) refl)

  module _ (a b : ℕ) (ha : a < n) (hb : b < n) where
    pub cnot_acts : (x' z' : List ℕ) → x' ≡ xored (b * w) (a * w) w x x → z' ≡ xored (a * w) (b * w) w z z
        → Acts w (λ s. on_frame (controlled_X a b)) x z d x' z' d
    unfolding controlled_X
    cnot_acts x' z' ex ez =
        acts_frame w (λ s. controlled_X a b) x z d x' z'
        (λ s k. pauli_path (rw ex (column_xored w s k b a x x (row_in w n b (length x) lx hb))) (rw ez (column_xored w s k a b z z (row_in w n a (length z) lz ha))))

    pub cz_acts : (z₁ z' : List ℕ) → z₁ ≡ xored (b * w) (a * w) w x z → z' ≡ xored (a * w) (b * w) w x z₁
        → Acts w (λ s. on_frame (controlled_Z a b)) x z d x z' d
    unfolding controlled_Z
    cz_acts z₁ z' e₁ e₂ =
        acts_frame w (λ s. controlled_Z a b) x z d x z'
        (λ s k. pauli_path refl
        (rw (
          e₂,
          column_xored w s k a b x z₁ (row_in w n a (length z₁) (ap length e₁ ∙ length_xored (b * w) (a * w) w x z ∙ lz) ha),
          e₁,
          column_xored w s k b a x z (row_in w n b (length z) lz hb),
        )))

    pub swap_acts : (x' z' : List ℕ) → x' ≡ swapped (a * w) (b * w) w x → z' ≡ swapped (a * w) (b * w) w z
        → Acts w (λ s. on_frame (swap_rows_of a b)) x z d x' z' d
    unfolding swap_rows_of
    swap_acts x' z' ex ez =
        acts_frame w (λ s. swap_rows_of a b) x z d x' z'
        (λ s k. pauli_path
        (rw ex (column_swapped w s k a b x (row_in w n a (length x) lx ha) (row_in w n b (length x) lx hb)))
        (rw ez (column_swapped w s k a b z (row_in w n a (length z) lz ha) (row_in w n b (length z) lz hb))))

-- ControlledX between SqrtZInv and SqrtZ on the target
pub cy_acts : {w : ℕ} {x z d x₁ z₁ z₂ z₃ : List ℕ} (a b : ℕ) → Acts w (λ s. on_frame (add_xto_Z b)) x z d x z₁ d
    → Acts w (λ s. on_frame (controlled_X a b)) x z₁ d x₁ z₂ d → Acts w (λ s. on_frame (add_xto_Z b)) x₁ z₂ d x₁ z₃ d
    → Acts w (λ s. on_frame (controlled_Y a b)) x z d x₁ z₃ d
cy_acts {w} {x} {z} {d} {x₁} {z₁} {z₂} {z₃} a b first second third =
    subst (λ (f : Pauli → Pauli). Acts w (λ s. on_frame f) x z d x₁ z₃ d) (fun_ext (controlled_Y_composed a b)) (acts_then (acts_then first second) third)

-- ---- a gate on its operands

module _ (g : Gate) (qs : List ℕ) (count : length qs ≡ operands_of g) where
  pub has_operand : 0 < length qs
  has_operand = rw count (some_operand g)

  -- two operands are two qubits
  pub operands_apart : (a b : ℕ) → operands_of g ≡ 2 → distinct qs ≡ true → a ≡ get_or qs 0 0 → b ≡ get_or qs (length qs - 1) 0 → a ≡ b → ⊥
  operands_apart a b both once ea eb e =
      let two : length qs ≡ 2 = count ∙ both in
      let same : 0 ≡ length qs - 1 = distinct_at qs once 0 (length qs - 1) (omega arith) (omega arith) (sym ea ∙ e ∙ eb) in
      omega arith

  pub first_below : (n a : ℕ) → all_below n qs ≡ true → a ≡ get_or qs 0 0 → a < n
  first_below n a below e = rw e (below_at n qs below 0 has_operand)

  pub last_below : (n b : ℕ) → all_below n qs ≡ true → b ≡ get_or qs (length qs - 1) 0 → b < n
  last_below n b below e = let some : 0 < length qs = has_operand in rw e (below_at n qs below (length qs - 1) (omega arith))

  -- a rule that is what the gate does on the first and the last operand
  module _ (a b : ℕ) (ea : a ≡ get_or qs 0 0) (eb : b ≡ get_or qs (length qs - 1) 0) (f : Pauli → Pauli) (made : (P : Pauli) → f P ≡ conjugated g a b P) where
    made_by : (P : Pauli) → f P ≡ conjugated g (get_or qs 0 0) (get_or qs 1 0) P
    made_by P = rw (ea, eb) at (made P) ∙ last_operand prepare_bell g qs P count

    pub gate_acts : (w n m : ℕ) (x z d x' z' : List ℕ) → Acts w (λ s. on_frame f) x z d x' z' d → Acts w (line_rule n m (Line.unitary g qs)) x z d x' z' d
    unfolding forward
    gate_acts w n m x z d x' z' acts =
        record { shots = λ s h. acts.shots s h ∙ (λ i. record { frame = made_by (frame_of w x z s) i; deltas = column w d s }) }
