-- Lines without a fault (injection or flip) in the shot are linear in frame and deltas; so a shot without faults stays at its start. Assumes nothing.
use Rattle.std.specs.Prelude.{◌≡◌, Bool, not, ℕ, eqb}
use Rattle.std.proofs.Math.Path.{refl, ap, fun_ext}
use Rattle.std.proofs.Common.{sym, ap₂, ◌∙◌, ne_eqb}
use Rattle.std.proofs.Math.Bool.{true, false, cond, not-eq-not, and-eq-true_iff}
use mathlib.Core.List.{List, [], ◌∷◌}
use Rattle.pauli.specs.Bits.{Bits, ◌⊕◌, ◌△◌, ◌∩◌, replaced, added, members, parity}
use Rattle.pauli.specs.Pauli.{Pauli, ◌∗◌, when, anticommutes, cleared}
use Rattle.pauli.specs.Gate.{Gate, swap_XZ, add_xto_Z, add_zto_X, controlled_X, controlled_Z, controlled_Y, exchanged, swap_rows_of, gate_with, prepare_bell, conjugated}
use Rattle.pauli.proofs.Laws.F2.{f2}
use Rattle.pauli.proofs.Laws.Parity.{bitwise, added_is, parity_△}
use Rattle.pauli.proofs.Laws.Pairing.{anti_∗}
use Rattle.pauli.proofs.Laws.Gates.{pauli_path}
use Rattle.pauli.proofs.Laws.Group.{group, ∗_self, when_⊕}
use Rattle.job.specs.Line.{pauli_of, Line}
use Rattle.frames.specs.Forward.{exponentiate, controlled_pauli, Image, image_sum, images_of, places_of, transformed, State, Setting, on_frame, forward, run, start}
use Rattle.frames.specs.Shots.{concerns, within, combined}

-- f keeps products
abbrev Linear : (Pauli → Pauli) → Type 0
Linear f = (F G : Pauli) → f (F ∗ G) ≡ f F ∗ f G

-- ---- gates

-- a bit put, or added, at q
module _ (s t : Bits) (q : ℕ) (a b : Bool) where
  replaced_linear : replaced (s △ t) q (a ⊕ b) ≡ replaced s q a △ replaced t q b
  unfolding replaced ◌△◌
  replaced_linear = fun_ext (λ i. go i (eqb i q))
    where
      go : (i : ℕ) (e : Bool) → cond e (a ⊕ b) (s i ⊕ t i) ≡ cond e a (s i) ⊕ cond e b (t i)
      go i true = refl
      go i false = refl

  added_linear : added (s △ t) q (a ⊕ b) ≡ added s q a △ added t q b
  added_linear = simp added_is (fun_ext (λ i. simp bitwise))

exchanged_linear : (a b : ℕ) (s t : Bits) → exchanged a b (s △ t) ≡ exchanged a b s △ exchanged a b t
unfolding exchanged ◌△◌
exchanged_linear a b s t = ap (λ u. replaced u b (s a ⊕ t a)) (replaced_linear s t a (s b) (t b)) ∙ replaced_linear _ _ b (s a) (t a)

swap_XZ_linear : (q : ℕ) → Linear (swap_XZ q)
unfolding swap_XZ ◌∗◌ ◌△◌
swap_XZ_linear q F G = pauli_path (replaced_linear F.x G.x q (F.z q) (G.z q)) (replaced_linear F.z G.z q (F.x q) (G.x q))

add_xto_Z_linear : (q : ℕ) → Linear (add_xto_Z q)
unfolding add_xto_Z ◌∗◌ ◌△◌
add_xto_Z_linear q F G = pauli_path refl (added_linear F.z G.z q (F.x q) (G.x q))

add_zto_X_linear : (q : ℕ) → Linear (add_zto_X q)
unfolding add_zto_X ◌∗◌ ◌△◌
add_zto_X_linear q F G = pauli_path (added_linear F.x G.x q (F.z q) (G.z q)) refl

controlled_X_linear : (a b : ℕ) → Linear (controlled_X a b)
unfolding controlled_X ◌∗◌ ◌△◌
controlled_X_linear a b F G = pauli_path (added_linear F.x G.x b (F.x a) (G.x a)) (added_linear F.z G.z a (F.z b) (G.z b))

controlled_Z_linear : (a b : ℕ) → Linear (controlled_Z a b)
unfolding controlled_Z ◌∗◌ ◌△◌
controlled_Z_linear a b F G =
    pauli_path refl
    (ap (λ u. added u a (F.x b ⊕ G.x b)) (added_linear F.z G.z b (F.x a) (G.x a)) ∙ added_linear _ _ a (F.x b) (G.x b))

controlled_Y_linear : (a b : ℕ) → Linear (controlled_Y a b)
unfolding controlled_Y ◌∗◌ ◌△◌
controlled_Y_linear a b F G =
    pauli_path (added_linear F.x G.x b (F.x a) (G.x a))
    (ap₂ (λ u t. added u a t) (added_linear F.z G.z b (F.x a) (G.x a)) (simp f2) ∙ added_linear _ _ a (F.x b ⊕ F.z b) (G.x b ⊕ G.z b))

swap_rows_linear : (a b : ℕ) → Linear (swap_rows_of a b)
unfolding swap_rows_of ◌∗◌
swap_rows_linear a b F G = pauli_path (exchanged_linear a b F.x G.x) (exchanged_linear a b F.z G.z)

gate_linear : (g : Gate) (a b : ℕ) → Linear (conjugated g a b)
unfolding gate_with prepare_bell
gate_linear Gate.I a b F G = refl
gate_linear Gate.X a b F G = refl
gate_linear Gate.Y a b F G = refl
gate_linear Gate.Z a b F G = refl
gate_linear Gate.Hadamard a b F G = swap_XZ_linear a F G
gate_linear Gate.SqrtZ a b F G = add_xto_Z_linear a F G
gate_linear Gate.SqrtZInv a b F G = add_xto_Z_linear a F G
gate_linear Gate.SqrtX a b F G = add_zto_X_linear a F G
gate_linear Gate.SqrtXInv a b F G = add_zto_X_linear a F G
gate_linear Gate.SqrtY a b F G = swap_XZ_linear a F G
gate_linear Gate.SqrtYInv a b F G = swap_XZ_linear a F G
gate_linear Gate.ControlledX a b F G = controlled_X_linear a b F G
gate_linear Gate.ControlledZ a b F G = controlled_Z_linear a b F G
gate_linear Gate.Swap a b F G = swap_rows_linear a b F G
gate_linear Gate.PrepareBell a b F G = ap (controlled_X a b) (swap_XZ_linear a F G) ∙ controlled_X_linear a b (swap_XZ a F) (swap_XZ a G)
gate_linear Gate.ControlledY a b F G = controlled_Y_linear a b F G

-- ---- the other actions on the frame

∗_x : (F G : Pauli) (q : ℕ) → (F ∗ G).x q ≡ F.x q ⊕ G.x q
unfolding ◌∗◌ ◌△◌
∗_x F G q = refl

∗_z : (F G : Pauli) (q : ℕ) → (F ∗ G).z q ≡ F.z q ⊕ G.z q
unfolding ◌∗◌ ◌△◌
∗_z F G q = refl

ruleset linear = (group, when_⊕, anti_∗)

cleared_linear : (qs : List ℕ) → Linear (cleared qs)
unfolding cleared ◌∗◌
cleared_linear qs F G = pauli_path (fun_ext (λ i. simp bitwise)) (fun_ext (λ i. simp bitwise))

image_step : (a b d e : Bool) (P Q F G H : Pauli) → H ≡ F ∗ G
    → when (a ⊕ b) P ∗ when (d ⊕ e) Q ∗ H ≡ (when a P ∗ when d Q ∗ F) ∗ (when b P ∗ when e Q ∗ G)
image_step a b d e P Q F G H h = simp (linear, h)

image_sum_linear : (gs : List Image) → Linear (image_sum gs)
unfolding image_sum
image_sum_linear [] F G = simp group
image_sum_linear (g ∷ gs) F G = simp (∗_x, ∗_z) (image_step _ _ _ _ _ _ _ _ _ (image_sum_linear gs F G))

transformed_linear : (qs : List ℕ) (gs : List Image) → Linear (transformed qs gs)
unfolding transformed
transformed_linear qs gs F G = simp (group, cleared_linear, image_sum_linear gs F G)

exponentiate_linear : (n : ℕ) (P : Pauli) → Linear (exponentiate n P)
unfolding exponentiate
exponentiate_linear n P F G = simp linear

controlled_pauli_linear : (n : ℕ) (C T : Pauli) → Linear (controlled_pauli n C T)
unfolding controlled_pauli
controlled_pauli_linear n C T F G = simp linear

-- ---- frame and deltas together

measure_linear : (n : ℕ) (F G : Pauli) (D E : Bits) (P : Pauli) (id : ℕ)
    → added (D △ E) id (anticommutes n (F ∗ G) P) ≡ added D id (anticommutes n F P) △ added E id (anticommutes n G P)
measure_linear n F G D E P id = rw anti_∗ (added_linear D E id _ _)

conditional_linear : (m : ℕ) (F G : Pauli) (D E L : Bits) (P : Pauli)
    → F ∗ G ∗ when (parity m ((D △ E) ∩ L)) P ≡ (F ∗ when (parity m (D ∩ L)) P) ∗ (G ∗ when (parity m (E ∩ L)) P)
conditional_linear m F G D E L P = simp (linear, parity_△)

-- an injection and a flip, not in the shot
inject_linear : (b : Bool) → b ≡ false → (P : Pauli) → Linear (λ F. F ∗ when b P)
inject_linear b e P F G = simp (e, group)

flip_linear : (b : Bool) → b ≡ false → (D E : Bits) (id : ℕ) → added (D △ E) id b ≡ added D id b △ added E id b
unfolding ◌⊕◌
flip_linear b e D E id = rw e (added_linear D E id false false)

pub state_path : {s t : State} → s.frame ≡ t.frame → s.deltas ≡ t.deltas → s ≡ t
state_path p q = λ i. record { frame = p i; deltas = q i }

twice : (s : State) → combined s s ≡ start
unfolding combined start
twice s = state_path (∗_self s.frame) (fun_ext (λ i. simp bitwise))

-- two shots differ if one is in the set and the other is not
pub apart : (shots : Bits) (i j : ℕ) {b : Bool} → shots i ≡ b → shots j ≡ not b → eqb i j ≡ false
apart shots i j {b} p q = ne_eqb i j (λ (e : i ≡ j). not-eq-not.1 refl (sym p ∙ ap shots e ∙ q))

module _ (c : Setting) (shots : Bits) (off : shots c.shot ≡ false) where
  on_frame_lem : (f : Pauli → Pauli) → Linear f → (s t : State) → on_frame f (combined s t) ≡ combined (on_frame f s) (on_frame f t)
  unfolding combined
  on_frame_lem f h s t = state_path (h s.frame t.frame) refl

  -- a line without a fault in the shot
  pub forward_linear : (l : Line) → concerns shots l ≡ true → (s t : State) → forward c l (combined s t) ≡ combined (forward c l s) (forward c l t)
  unfolding forward concerns combined
  forward_linear (Line.unitary g qs) h s t = on_frame_lem _ (gate_linear g _ _) s t
  forward_linear (Line.clifford qs u) h s t = on_frame_lem _ (transformed_linear qs (images_of qs u)) s t
  forward_linear (Line.pauli P) h s t = refl
  forward_linear (Line.exponential P) h s t = on_frame_lem _ (exponentiate_linear c.qubits (pauli_of P)) s t
  forward_linear (Line.controlled C T) h s t = on_frame_lem _ (controlled_pauli_linear c.qubits (pauli_of C) (pauli_of T)) s t
  forward_linear (Line.permute p qs) h s t = on_frame_lem _ (transformed_linear qs (places_of qs p qs)) s t
  forward_linear (Line.measure P id) h s t = state_path refl (measure_linear _ _ _ _ _ (pauli_of P) id)
  forward_linear (Line.allocate id angle) h s t = refl
  forward_linear (Line.conditional P ids par) h s t = state_path (conditional_linear _ _ _ _ _ (members ids) (pauli_of P)) refl
  forward_linear (Line.reset qs) h s t = on_frame_lem _ (cleared_linear qs) s t
  forward_linear (Line.inject shot P) h s t = on_frame_lem _ (inject_linear _ (apart shots shot c.shot h off) (pauli_of P)) s t
  forward_linear (Line.flip shot id) h s t = state_path refl (flip_linear _ (apart shots shot c.shot h off) _ _ id)
  forward_linear (Line.barrier qs) h s t = refl

  pub run_linear : (ls : List Line) → within shots ls ≡ true → (s t : State) → run c ls (combined s t) ≡ combined (run c ls s) (run c ls t)
  unfolding run within
  run_linear [] h s t = refl
  run_linear (l ∷ ls) h s t =
      let (first, rest) = (and-eq-true_iff (concerns shots l) (within shots ls)).0 h in
      ap (run c ls) (forward_linear l first s t) ∙ run_linear ls rest (forward c l s) (forward c l t)

  -- The start is the sum of a state with itself, and so is what lines without a fault make of it.
  pub run_quiet : (ls : List Line) → within shots ls ≡ true → run c ls start ≡ start
  run_quiet ls h = ap (run c ls) (sym (twice start)) ∙ run_linear ls h start start ∙ twice (run c ls start)
