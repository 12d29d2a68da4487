-- Run and walk keep one sum: from line to line, and so over whole lists. Assumes nothing.
use Rattle.std.specs.Prelude.{◌≡◌, Bool, true, false, ◌&&◌, ℕ, ◌<◌}
use Rattle.std.proofs.Math.Path.{refl, ap}
use Rattle.std.proofs.Common.{◌∙◌}
use mathlib.Core.List.{List, [], ◌∷◌}
use Rattle.pauli.specs.Bits.{Bits, ◌⊕◌, ◌∩◌, ◌△◌, given, added, members, parity, odd}
use Rattle.pauli.specs.Pauli.{Pauli, identity, ◌∗◌, when, anticommutes}
use Rattle.pauli.proofs.Laws.F2.{f2}
use Rattle.pauli.proofs.Laws.Parity.{added_is, parity_△, parity_given, parity_none, parity_only, parity_△_right, parity_given_right}
use Rattle.pauli.proofs.Laws.Pairing.{pairing, anti_comm, anti_cleared}
use Rattle.job.specs.Line.{pauli_of, Line}
use Rattle.job.specs.InRange.{InRange, AllInRange}
use Rattle.frames.specs.Forward.{on_frame, State, Setting, forward, run, start}
use Rattle.backward.specs.Walk.{Carried, on_observable, carry, counts, Walk, one_more_of, backward, walk_back}
use Rattle.backward.proofs.Laws.Transpose.{Transpose, unitary_transpose, clifford_transpose, exponentiate_transpose, controlled_pauli_transpose, permute_transpose}

-- Whether the frame and the observable anticommute, plus the deltas' sum over the set.
unfoldable pub paired : Setting → State → Carried → Bool
paired c s w = anticommutes c.qubits s.frame w.observable ⊕ parity c.outcomes (s.deltas ∩ w.set)

-- with the count: what each step of the walk keeps
unfoldable pub total : Setting → State → Walk → Bool
total c s w = paired c s w.carried ⊕ odd w.count

odd_one_more : (b : Bool) (k : ℕ) → odd (one_more_of b k) ≡ b ⊕ odd k
unfolding odd ◌⊕◌
odd_one_more true k = refl
odd_one_more false k = refl

ruleset lines = (pairing, added_is, parity_△, parity_given, parity_only, parity_△_right, parity_given_right)

module _ (n m : ℕ) (F B : Pauli) (D S : Bits) where
  -- the four lines that are no action on the frame alone, with the state's parts as variables
  measure_step : (P : Pauli) (id : ℕ) → id < m
      → anticommutes n F B ⊕ parity m (added D id (anticommutes n F P) ∩ S) ≡ anticommutes n F (B ∗ when (S id) P) ⊕ parity m (D ∩ S) ⊕ false
  measure_step P id h = simp lines

  conditional_step : (P : Pauli) (L : Bits)
      → anticommutes n (F ∗ when (parity m (D ∩ L)) P) B ⊕ parity m (D ∩ S)
      ≡ anticommutes n F B ⊕ parity m (D ∩ (S △ given (anticommutes n B P) L)) ⊕ false
  conditional_step P L = simp (lines, anti_comm n B P)

  inject_step : (b : Bool) (P : Pauli)
      → anticommutes n (F ∗ when b P) B ⊕ parity m (D ∩ S) ≡ anticommutes n F B ⊕ parity m (D ∩ S) ⊕ (b && anticommutes n P B)
  inject_step b P = simp lines

  flip_step : (b : Bool) (id : ℕ) → id < m
      → anticommutes n F B ⊕ parity m (added D id b ∩ S) ≡ anticommutes n F B ⊕ parity m (D ∩ S) ⊕ (b && S id)
  flip_step b id h = simp lines

plus_false : (a : Bool) → a ≡ a ⊕ false
plus_false a = simp f2

module _ (c : Setting) where
  -- a line that acts on the frame alone
  on_frame_lem : (f g : Pauli → Pauli) → Transpose c.qubits f g → (s : State) (w : Carried)
      → paired c (on_frame f s) w ≡ paired c s (on_observable g w) ⊕ false
  unfolding paired
  on_frame_lem f g t s w = ap (λ (b : Bool). b ⊕ parity c.outcomes (s.deltas ∩ w.set)) (t s.frame w.observable) ∙ plus_false _

  -- one line: what the line does forwards and what is carried back over it differ by what is counted
  pub forward_carry : (l : Line) → InRange c.qubits c.outcomes l → (s : State) (w : Carried)
      → paired c (forward c l s) w ≡ paired c s (carry c.qubits l w) ⊕ counts c l w
  unfolding forward carry counts paired
  forward_carry (Line.unitary g qs) h s w = on_frame_lem _ _ (unitary_transpose c.qubits g qs h) s w
  forward_carry (Line.clifford qs t) h s w = on_frame_lem _ _ (clifford_transpose c.qubits qs t h) s w
  forward_carry (Line.pauli P) h s w = plus_false _
  forward_carry (Line.exponential P) h s w = on_frame_lem _ _ (exponentiate_transpose c.qubits (pauli_of P)) s w
  forward_carry (Line.controlled C T) h s w = on_frame_lem _ _ (controlled_pauli_transpose c.qubits (pauli_of C) (pauli_of T)) s w
  forward_carry (Line.permute p qs) h s w = on_frame_lem _ _ (permute_transpose c.qubits p qs h) s w
  forward_carry (Line.measure P id) h s w = measure_step _ _ _ _ _ _ (pauli_of P) id h
  forward_carry (Line.allocate id angle) h s w = plus_false _
  forward_carry (Line.conditional P ids par) h s w = conditional_step _ _ _ _ _ _ (pauli_of P) (members ids)
  forward_carry (Line.reset qs) h s w = on_frame_lem _ _ (anti_cleared c.qubits qs) s w
  forward_carry (Line.inject shot P) h s w = inject_step _ _ _ _ _ _ _ (pauli_of P)
  forward_carry (Line.flip shot id) h s w = flip_step _ _ _ _ _ _ _ id h
  forward_carry (Line.barrier qs) h s w = plus_false _

  forward_backward : (l : Line) → InRange c.qubits c.outcomes l → (s : State) (w : Walk)
      → total c (forward c l s) w ≡ total c s (backward c l w)
  unfolding total backward
  forward_backward l h s w =
      ap (λ (b : Bool). b ⊕ odd w.count) (forward_carry l h s w.carried)
      ∙ simp (f2, odd_one_more)

  -- The general form: from any frame and deltas, and any observable, set and count.
  pub run_walk : (ls : List Line) → AllInRange c.qubits c.outcomes ls → (s : State) (w : Walk)
      → total c (run c ls s) w ≡ total c s (walk_back c ls w)
  unfolding run walk_back
  run_walk [] h s w = refl
  run_walk (l ∷ ls) (h, hs) s w = run_walk ls hs (forward c l s) w ∙ forward_backward l h s (walk_back c ls w)

  -- with the frame and the deltas of the start
  pub total_start : (w : Walk) → total c start w ≡ odd w.count
  unfolding total paired start
  total_start w = simp (pairing, parity_none)

  -- with the identity as observable, and nothing counted
  pub total_end : (s : State) (S : Bits)
      → parity c.outcomes (s.deltas ∩ S) ≡ total c s (record { carried = record { observable = identity; set = S }; count = 0 })
  unfolding total paired odd
  total_end s S = simp pairing
