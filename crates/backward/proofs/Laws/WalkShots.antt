-- A shot's walk does not notice the faults (injections and flips) of other shots; what is carried back does not depend on the shot. Assumes nothing.
use Rattle.std.specs.Prelude.{◌≡◌, Bool, true, false, ◌&&◌, ℕ}
use Rattle.std.proofs.Math.Path.{refl, sym, ap₂}
use Rattle.std.proofs.Common.{ap, ◌∙◌}
use Rattle.std.proofs.Math.Bool.{and-eq-true_iff}
use mathlib.Core.List.{List, [], ◌∷◌}
use Rattle.pauli.specs.Bits.{Bits}
use Rattle.job.specs.Line.{Line}
use Rattle.frames.specs.Forward.{Setting}
use Rattle.backward.specs.Walk.{Carried, carry, counts, Walk, one_more_of, backward, walk_back}
use Rattle.frames.specs.Shots.{concerns, restricted, within}
use Rattle.frames.proofs.Laws.Linear.{apart}
use Rattle.frames.proofs.Laws.RunShots.{other, kept_or_not}

-- ---- the faults of other shots

count_off : (b d : Bool) → b ≡ false → (w : Walk) → record { carried = w.carried; count = one_more_of (b && d) w.count } ≡ w
count_off b d e w = ap (λ (b : Bool). record { carried = w.carried; count = one_more_of (b && d) w.count }) e

-- With a set that has the shot in it, from any observable, set and count.
module _ (c : Setting) (shots : Bits) (on : shots c.shot ≡ true) where
  backward_other : (l : Line) → concerns shots l ≡ false → (w : Walk) → backward c l w ≡ w
  unfolding backward carry counts
  backward_other l h w =
      other shots (λ k. backward c k w ≡ w)
      (λ shot P k. count_off _ _ (apart shots shot c.shot k on) w)
      (λ shot id k. count_off _ _ (apart shots shot c.shot k on) w) l h

  pub walk_back_restricted : (ls : List Line) (w : Walk) → walk_back c (restricted shots ls) w ≡ walk_back c ls w
  unfolding walk_back restricted
  walk_back_restricted [] w = refl
  walk_back_restricted (l ∷ ls) w =
      kept_or_not (λ k. walk_back c k w ≡ backward c l (walk_back c ls w)) shots l (restricted shots ls)
      (ap (backward c l) (walk_back_restricted ls w))
      (λ h. walk_back_restricted ls w ∙ sym (backward_other l h (walk_back c ls w)))

-- ---- a shot without faults counts nothing

module _ (c : Setting) (shots : Bits) (off : shots c.shot ≡ false) where
  counts_quiet : (l : Line) → concerns shots l ≡ true → (w : Carried) → counts c l w ≡ false
  unfolding concerns counts
  counts_quiet (Line.unitary g qs) h w = refl
  counts_quiet (Line.clifford qs u) h w = refl
  counts_quiet (Line.pauli P) h w = refl
  counts_quiet (Line.exponential P) h w = refl
  counts_quiet (Line.controlled C T) h w = refl
  counts_quiet (Line.permute p qs) h w = refl
  counts_quiet (Line.measure P id) h w = refl
  counts_quiet (Line.allocate id angle) h w = refl
  counts_quiet (Line.conditional P ids par) h w = refl
  counts_quiet (Line.reset qs) h w = refl
  counts_quiet (Line.inject shot P) h w = rw (apart shots shot c.shot h off)
  counts_quiet (Line.flip shot id) h w = rw (apart shots shot c.shot h off)
  counts_quiet (Line.barrier qs) h w = refl

  pub walk_back_quiet : (ls : List Line) → within shots ls ≡ true → (w : Walk) → (walk_back c ls w).count ≡ w.count
  unfolding walk_back within backward
  walk_back_quiet [] h w = refl
  walk_back_quiet (l ∷ ls) h w =
      let (first, rest) = (and-eq-true_iff (concerns shots l) (within shots ls)).0 h in
      ap₂ one_more_of (counts_quiet l first (walk_back c ls w).carried) (walk_back_quiet ls rest w)

-- ---- what is carried back

-- The observable and the set depend on the number of qubits, not on the shot, nor on the count.
pub same_carried : (c d : Setting) → c.qubits ≡ d.qubits → (ls : List Line) (v w : Walk) → v.carried ≡ w.carried
    → (walk_back c ls v).carried ≡ (walk_back d ls w).carried
unfolding walk_back backward
same_carried c d q [] v w e = e
same_carried c d q (l ∷ ls) v w e = ap₂ (λ n x. carry n l x) q (same_carried c d q ls v w e)

carry_other : (n : ℕ) (shots : Bits) (l : Line) → concerns shots l ≡ false → (w : Carried) → w ≡ carry n l w
unfolding carry
carry_other n shots l h w = other shots (λ k. w ≡ carry n k w) (λ shot P k. refl) (λ shot id k. refl) l h

-- Nor do they depend on any fault.
pub carried_restricted : (c : Setting) (shots : Bits) (ls : List Line) (w : Walk)
    → (walk_back c (restricted shots ls) w).carried ≡ (walk_back c ls w).carried
unfolding walk_back restricted backward
carried_restricted c shots [] w = refl
carried_restricted c shots (l ∷ ls) w =
    kept_or_not (λ k. (walk_back c k w).carried ≡ carry c.qubits l (walk_back c ls w).carried) shots l (restricted shots ls)
    (ap (carry c.qubits l) (carried_restricted c shots ls w))
    (λ h. carried_restricted c shots ls w ∙ carry_other c.qubits shots l h (walk_back c ls w).carried)
