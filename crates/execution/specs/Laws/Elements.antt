-- An element of a distribution in lent words, as the code takes it. Laws. Assumes nothing.
use Rattle.std.specs.Prelude.{◌≡◌, List, ℕ, ◌+◌, ◌^◌, ◌<◌, ◌≤◌, Float}
use Rattle.std.proofs.Common.{sym, ap, ◌∙◌, arith}
use Rattle.std.proofs.Math.Path.{subst}
use Rattle.job.specs.Line.{Distribution}
use Rattle.job.specs.Sound.{Operands, DistributionSound}
use Rattle.draws.specs.Draws.{depolarizing_element_of, element_at}
use Rattle.noise.specs.declared.PauliDistribution.{PauliDistribution}
use Rattle.noise.specs.declared.PauliDistribution.TheVariants.{Depolarizing}
use Rattle.noise.specs.Kinds.{Chooses}
use Rattle.faults.specs.Elements.{x_count, element_X, DistributionHeld}
use Rattle.faults.specs.Laws.Drawn.{size_fits, size_few, held_element, element_sound, held_qubits}
use Rattle.execution.specs.Injected.{ListedHeld, ElementReady}

-- ---- d=2

pub element_depolarizing : {D : Distribution} {d : PauliDistribution} {sums : List Float} → Chooses D d sums → (k : ℕ) → d ≡ Depolarizing k → (l : List ℕ)
    → DistributionHeld D l → (e : ℕ) → element_at D e ≡ depolarizing_element_of (element_X l 0) e
unfolding element_at
element_depolarizing c k kind l held e =
    let q = held_qubits c k kind l held in
    ap (λ (E : Distribution). element_at E e) q.is ∙ ap (λ (qs : List ℕ). depolarizing_element_of qs e) (sym q.held.is)

pub record DepolarizingReady (n : ℕ) (l : List ℕ) (e : ℕ) : Type 0 where
  pub few : x_count l 0 ≤ 31
  pub operands : Operands n (element_X l 0)
  pub small : e + 1 < 2 ^ 64

module _ {n : ℕ} {d : PauliDistribution} {l : List ℕ} {e : ℕ} (r : ElementReady n d l e) where
  pub depolarizing_ready : (k : ℕ) → d ≡ Depolarizing k → DepolarizingReady n l e
  unfolding DistributionSound
  depolarizing_ready k kind =
      let q = held_qubits r.chooses k kind l r.held in
      let operands : Operands n q.qubits = subst (DistributionSound n) q.is r.sound in
      let below = r.below in
      record {
        few = omega (arith, q.held.count, q.held.few);
        operands = rw q.held.is operands;
        small = omega (arith, size_fits n r.distribution r.sound);
      }

  -- ---- d=1, d=3 and d=4

  pub listed_ready : ((k : ℕ) → d ≡ Depolarizing k → ⊥) → ListedHeld n l e
  listed_ready other =
      let below = r.below in
      record {
        room = r.room;
        few = omega (arith, size_few r.chooses other n r.sound);
        pauli = element_at r.distribution e;
        sound = element_sound r.chooses other e below n r.sound;
        held = held_element r.chooses other e below l r.held;
      }
