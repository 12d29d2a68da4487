-- The elements of d=2 on rows: the qubits whose bit is set, one after the other, and what they come to in every shot. Assumes nothing.
use Rattle.std.specs.Prelude.{◌≡◌, refl, Bool, true, cond, eqb, length, get_or, drop}
use Rattle.std.proofs.Common.{sym, ◌∙◌, add-one, drop_of_length-le}
use Rattle.std.proofs.Math.Path.{ap}
use Rattle.std.proofs.Math.Bool.{false}
use mathlib.Core.List.{List, [], ◌∷◌}
use Prim.Native.Nat.{ℕ, suc, ◌+◌, ◌*◌, ◌/◌, ◌%◌, ◌<◌, ◌≤◌}
use Rattle.std.proofs.Math.Seq.{drop-cons}
use Rattle.pauli.specs.Pauli.{Pauli, ◌∗◌, when}
use Rattle.pauli.proofs.Laws.Gates.{pauli_path}
use Rattle.job.specs.Line.{pauli_of, Line}
use Rattle.job.specs.Checks.{all_below, distinct}
use Rattle.frames.specs.Forward.{on_frame, forward}
use Rattle.job.proofs.Laws.Lists.{distinct_first}
use Rattle.draws.specs.Draws.{selected, depolarizing_element_of}
use Rattle.draws.proofs.Laws.Elements.{members_rising, selected_off, selected_below}
use Rattle.rows.specs.Overwrite.{flipped}
use Rattle.rows.specs.Listed.{over_list}
use Rattle.propagator.specs.Acts.{state_of, Acts, line_rule, written, PauliIn}
use Rattle.propagator.specs.Laws.Paulis.{inject_acts}

-- ---- the selected qubits, one after the other

module _ (step : ℕ → List ℕ → List ℕ) (qs : List ℕ) (i v : ℕ) (l : List ℕ) where
  -- the turn at place i
  pub selected_next : (l' : List ℕ) → i < length qs → l' ≡ cond (eqb (v % 2) 1) (step (get_or qs i 0) l) l
      → over_list step (selected v (drop i qs)) l ≡ over_list step (selected (v / 4) (drop (i + 1) qs)) l'
  unfolding selected
  selected_next l' h e = rw (add-one i, drop-cons qs i 0 h) (go (eqb (v % 2) 1) e)
    where
      rest : List ℕ
      rest = selected (v / 4) (drop (suc i) qs)

      go : (b : Bool) → l' ≡ cond b (step (get_or qs i 0) l) l → over_list step (cond b (get_or qs i 0 ∷ rest) rest) l ≡ over_list step rest l'
      go true k = unfold over_list in rw k
      go false k = rw k

  pub selected_end : length qs ≤ i → over_list step (selected v (drop i qs)) l ≡ l
  unfolding selected over_list
  selected_end h = rw (drop_of_length-le qs h)

-- ---- they are distinct

selected_distinct : (v : ℕ) (qs : List ℕ) → distinct qs ≡ true → distinct (selected v qs) ≡ true
unfolding selected distinct
selected_distinct v [] d = refl
selected_distinct v (q ∷ qs) d = go (eqb (v % 2) 1) (selected_distinct (v / 4) qs (distinct_first q qs d).1)
  where
    go : (b : Bool) → distinct (selected (v / 4) qs) ≡ true → distinct (cond b (q ∷ selected (v / 4) qs) (selected (v / 4) qs)) ≡ true
    go true ih = unfold distinct in rw (selected_off (v / 4) qs q (distinct_first q qs d).0, ih)
    go false ih = ih

-- ---- in every shot

module _ (w n : ℕ) (x z : List ℕ) (lx : length x ≡ n * w) (lz : length z ≡ n * w) (qs : List ℕ) (below : all_below n qs ≡ true) (once : distinct qs ≡ true)
  where
    selected_in : (u v : ℕ) → PauliIn n (selected u qs) (selected v qs)
    selected_in u v =
        record {
          x_below = selected_below n u qs below;
          x_once = selected_distinct u qs once;
          z_below = selected_below n v qs below;
          z_once = selected_distinct v qs once;
        }

    same_element : (e : ℕ) → pauli_of (written (selected (e + 1) qs) (selected ((e + 1) / 2) qs)) ≡ pauli_of (depolarizing_element_of qs e)
    unfolding pauli_of depolarizing_element_of
    same_element e = pauli_path (sym (members_rising (selected (e + 1) qs))) (sym (members_rising (selected ((e + 1) / 2) qs)))

    pub depolarizing_acts : (e shot : ℕ) → shot < 64 * w → (m : ℕ) (d x' z' : List ℕ) → x' ≡ over_list (flipped w shot) (selected (e + 1) qs) x
        → z' ≡ over_list (flipped w shot) (selected ((e + 1) / 2) qs) z
        → Acts w (line_rule n m (Line.inject shot (depolarizing_element_of qs e))) x z d x' z' d
    unfolding forward
    depolarizing_acts e shot k m d x' z' ex ez =
        record {
          shots = λ s h.
              (inject_acts w n x z lx lz _ _ (selected_in (e + 1) ((e + 1) / 2)) shot k m d x' z' ex ez).shots s h
              ∙ ap (λ (P : Pauli). on_frame (λ F. F ∗ when (eqb shot s) P) (state_of w x z d s)) (same_element e);
        }
