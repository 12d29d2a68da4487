-- The elements of a distribution in lent words. Laws. Assumes nothing.
use Rattle.std.proofs.Math.Path.{◌≡◌, refl}
use Rattle.std.proofs.Common.{sym, ap, arith}
use Rattle.std.specs.Prelude.{List, ℕ, ◌<◌, Float}
use Rattle.job.specs.Line.{Distribution, size_of}
use Rattle.job.specs.Sound.{DistributionSound}
use Rattle.draws.specs.Draws.{element_at}
use Rattle.noise.specs.Kinds.{Chooses}
use Rattle.faults.specs.Elements.{AllInside, DistributionHeld}
use Rattle.faults.specs.Laws.Drawn.{size_fits, size_few, held_element, held_qubits}
use Rattle.noise.specs.declared.PauliDistribution.{PauliDistribution}
use Rattle.noise.specs.declared.PauliDistribution.TheVariants.{Single, Depolarizing, Uniform, Weighted}
use Rattle.noise_text.specs.Elements.{kept_element, element_in, Kept, KeptQubits, ElementIn}

-- all kinds but one keep their elements whole
pub whole_in : {l : List ℕ} {e : ℕ} (d : PauliDistribution) → ((k : ℕ) → d ≡ Depolarizing k → ⊥) → ElementIn d l e → Kept l e
unfolding ElementIn
whole_in Single ne h = h
whole_in (Depolarizing k) ne h = absurd (ne k refl)
whole_in (Uniform n) ne h = h
whole_in (Weighted t) ne h = h

pub whole_is : (l : List ℕ) (e : ℕ) (d : PauliDistribution) → ((k : ℕ) → d ≡ Depolarizing k → ⊥) → kept_element l e ≡ element_in d l e
unfolding element_in
whole_is l e Single ne = refl
whole_is l e (Depolarizing k) ne = absurd (ne k refl)
whole_is l e (Uniform n) ne = refl
whole_is l e (Weighted t) ne = refl

pub qubits_in : {d : PauliDistribution} {l : List ℕ} {e k : ℕ} → d ≡ Depolarizing k → ElementIn d l e → KeptQubits l e
unfolding ElementIn
qubits_in same h = rw same at h

-- ---- as a noise line was made ready

pub record ElementOf (D : Distribution) (d : PauliDistribution) (l : List ℕ) (e : ℕ) : Type 0 where
  pub inside : ElementIn d l e
  pub is : element_in d l e ≡ element_at D e

module _ (n : ℕ) (D : Distribution) (sound : DistributionSound n D) (l : List ℕ) (held : DistributionHeld D l) (room : AllInside l) (e : ℕ) (h : e < size_of D)
  where
    whole_of : {d : PauliDistribution} {sums : List Float} → Chooses D d sums → ((k : ℕ) → d ≡ Depolarizing k → ⊥) → Kept l e × (kept_element l e ≡ element_at D e)
    unfolding kept_element
    whole_of c listed =
        let t = held_element c listed e h l held in
        let few = size_few c listed n sound in (
          record { inside = omega arith; x_few = rw t.x_count_lem t.x_few; z_few = rw t.z_count_lem t.z_few },
          λ i. record { x = t.x i; z = t.z i },
        )

    pub element_of : (d : PauliDistribution) {sums : List Float} → Chooses D d sums → ElementOf D d l e
    unfolding ElementIn element_in element_at DistributionSound
    element_of Single c = let w = whole_of c (λ k q. let z : ◌≡◌ {A = ℕ} 0 1 = cc in omega arith) in record { inside = w.0; is = w.1 }
    element_of (Depolarizing k) c =
        let t = held_qubits c k refl l held in
        record {
          inside = record { inside = omega arith; few = omega (arith, t.held.count, t.held.few); small = omega (arith, size_fits n D sound) };
          is = rw t.held.is (sym (ap (λ (E : Distribution). element_at E e) t.is));
        }
    element_of (Uniform m) c = let w = whole_of c (λ k q. let z : ◌≡◌ {A = ℕ} 0 1 = cc in omega arith) in record { inside = w.0; is = w.1 }
    element_of (Weighted t) c = let w = whole_of c (λ k q. let z : ◌≡◌ {A = ℕ} 0 1 = cc in omega arith) in record { inside = w.0; is = w.1 }
