-- A line of a job of n qubits, at most 256, is carried back alike over n qubits and over 256: its operands are below n. Laws. Assumes nothing.
use Rattle.std.specs.Prelude.{ℕ, ◌+◌, ◌-◌, ◌≤◌, ◌≡◌, Bool, true, false, ◌&&◌, List}
use native.Mathlib.Omega.{arith}
use Rattle.std.proofs.Math.Path.{refl, sym, ap, ap₂}
use Rattle.std.proofs.Common.{◌∙◌}
use Rattle.std.proofs.Math.Dec.{eqb}
use Rattle.pauli.specs.Bits.{Bits, ◌⊕◌, ◌∩◌, ◌△◌, given, members, parity}
use Rattle.pauli.specs.Pauli.{Pauli, ◌∗◌, when, anticommutes}
use Rattle.pauli.proofs.Laws.F2.{&&_false}
use Rattle.pauli.proofs.Laws.Parts.{parity_within}
use Rattle.pauli.proofs.Laws.Pairing.{anti_comm}
use Rattle.job.specs.declared.Header.{Header}
use Rattle.job.specs.Line.{SparsePauli, pauli_of, Line}
use Rattle.job.specs.Checks.{all_below}
use Rattle.job.specs.Sound.{PauliSound, LineSound}
use Rattle.job.proofs.Laws.Lists.{below_at, below_more, at_member}
use Rattle.frames.specs.Forward.{exponentiate, controlled_pauli, setting_of}
use Rattle.backward.specs.Walk.{Carried, carry, counts, Walk, one_more_of, backward}
use Rattle.lines_back.specs.Full.{full}
use Rattle.lines_back.specs.Laws.Images.{clifford_placed}

-- ---- Paulis on n qubits

-- a list below n has no member from n on
members_beyond : (n : ℕ) (l : List ℕ) (i : ℕ) → all_below n l ≡ true → n ≤ i → members l i ≡ false
members_beyond n l i below h = go (members l i) refl
  where
    go : (b : Bool) → members l i ≡ b → b ≡ false
    go true m = let (j, k, e) = at_member l i m in absurd (omega (arith, below_at n l below j k))
    go false m = refl

overlap : (n m : ℕ) (s : Bits) (l : List ℕ) → all_below n l ≡ true → parity (m + n) (s ∩ members l) ≡ parity n (s ∩ members l)
unfolding ◌∩◌
overlap n m s l e = parity_within n m (s ∩ members l) (λ i h. rw (members_beyond n l i e h) (&&_false (s i)))

module _ (n : ℕ) (few : n ≤ 256) (B : Pauli) (P : SparsePauli) (s : PauliSound n P) where
  anti_right : anticommutes n B (pauli_of P) ≡ anticommutes 256 B (pauli_of P)
  unfolding anticommutes pauli_of
  anti_right =
      let all : 256 ≡ 256 - n + n = omega arith in
      sym (ap (λ (k : ℕ). parity k (B.x ∩ members P.z) ⊕ parity k (B.z ∩ members P.x)) all
      ∙ ap₂ ◌⊕◌ (overlap n (256 - n) B.x P.z s.z.below) (overlap n (256 - n) B.z P.x s.x.below))

  pub anti_left : anticommutes n (pauli_of P) B ≡ anticommutes 256 (pauli_of P) B
  anti_left = anti_comm n (pauli_of P) B ∙ anti_right ∙ anti_comm 256 B (pauli_of P)

-- ---- lines

module _ (h : Header) (few : h.qubits ≤ 256) (r : ℕ) where
  same_carry : (l : Line) → LineSound h r l → (w : Carried) → carry h.qubits l w ≡ carry 256 l w
  unfolding carry LineSound exponentiate controlled_pauli
  same_carry (Line.unitary g qs) s w = refl
  same_carry (Line.clifford qs t) s w =
      ap (λ (P : Pauli). record { observable = P; set = w.set })
      (clifford_placed h.qubits qs t w.observable s.operands.below s.operands.apart
      ∙ sym (clifford_placed 256 qs t w.observable (below_more h.qubits 256 qs few s.operands.below) s.operands.apart))
  same_carry (Line.pauli P) s w = refl
  same_carry (Line.exponential P) s w =
      ap (λ (b : Bool). record { observable = w.observable ∗ when b (pauli_of P); set = w.set }) (anti_right h.qubits few w.observable P s)
  same_carry (Line.controlled C T) s w =
      ap₂ (λ (a b : Bool). record { observable = w.observable ∗ when a (pauli_of T) ∗ when b (pauli_of C); set = w.set })
      (anti_right h.qubits few w.observable C s.control) (anti_right h.qubits few w.observable T s.target)
  same_carry (Line.permute p qs) s w = refl
  same_carry (Line.measure P id) s w = refl
  same_carry (Line.allocate id angle) s w = refl
  same_carry (Line.conditional P ids par) s w =
      ap (λ (b : Bool). record { observable = w.observable; set = w.set △ given b (members ids) }) (anti_right h.qubits few w.observable P s.pauli)
  same_carry (Line.reset qs) s w = refl
  same_carry (Line.inject shot P) s w = refl
  same_carry (Line.flip shot id) s w = refl
  same_carry (Line.barrier qs) s w = refl

  same_counts : (l : Line) → LineSound h r l → (shot : ℕ) (w : Carried) → counts (setting_of h shot) l w ≡ counts (full shot) l w
  unfolding counts LineSound
  same_counts (Line.unitary g qs) s shot w = refl
  same_counts (Line.clifford qs t) s shot w = refl
  same_counts (Line.pauli P) s shot w = refl
  same_counts (Line.exponential P) s shot w = refl
  same_counts (Line.controlled C T) s shot w = refl
  same_counts (Line.permute p qs) s shot w = refl
  same_counts (Line.measure P id) s shot w = refl
  same_counts (Line.allocate id angle) s shot w = refl
  same_counts (Line.conditional P ids par) s shot w = refl
  same_counts (Line.reset qs) s shot w = refl
  same_counts (Line.inject t P) s shot w = ap (λ (b : Bool). eqb t shot && b) (anti_left h.qubits few w.observable P s.pauli)
  same_counts (Line.flip t id) s shot w = refl
  same_counts (Line.barrier qs) s shot w = refl

  -- so one line of the walk is the same
  pub same_backward : (l : Line) → LineSound h r l → (shot : ℕ) (w : Walk) → backward (setting_of h shot) l w ≡ backward (full shot) l w
  unfolding backward
  same_backward l s shot w =
      ap₂ (λ (c : Carried) (b : Bool). record { carried = c; count = one_more_of b w.count }) (same_carry l s w.carried) (same_counts l s shot w.carried)
