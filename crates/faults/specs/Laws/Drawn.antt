-- An element that was drawn, where the words hold it. Laws. Assumes nothing.
use Rattle.std.specs.Prelude.{ℕ, ◌^◌, ◌≤◌, ◌<◌, ◌≡◌, refl, List, length, get_or, Float}
use native.Mathlib.Omega.{arith}
use Rattle.std.proofs.Common.{sym, ◌∙◌}
use Rattle.std.proofs.Math.Dec.{lit<}
use Rattle.std.proofs.Math.ListN.{get_or-map}
use Rattle.job.specs.Line.{WeightedPauli, Distribution, size_of}
use Rattle.job.specs.Sound.{PauliSound, ElementSound, DistributionSound}
use Rattle.job.proofs.Laws.Lists.{every_at}
use Rattle.job.proofs.Laws.Sizes.{depolarizing_small}
use Rattle.draws.specs.Draws.{no_pauli, element_at}
use Rattle.draws.proofs.Laws.Faults.{depolarizing_size}
use Rattle.noise.specs.declared.PauliDistribution.{PauliDistribution}
use Rattle.noise.specs.declared.PauliDistribution.TheVariants.{Depolarizing}
use Rattle.noise.specs.Kinds.{kind_of, Chooses}
use Rattle.faults.specs.Elements.{ElementHeld, QubitsHeld, DistributionHeld}

-- no element
abbrev no_element : WeightedPauli
no_element = record { weight = 0; pauli = no_pauli }

weighted_at : (es : List WeightedPauli) (e : ℕ) → element_at (Distribution.weighted es) e ≡ (get_or es e no_element).pauli
unfolding element_at
weighted_at es e = get_or-map (λ (x : WeightedPauli). x.pauli) es e no_element

held_at : (E : Distribution) (d : PauliDistribution) (e : ℕ) (l : List ℕ) → d ≡ kind_of E → ((k : ℕ) → d ≡ Depolarizing k → ⊥) → e < size_of E
    → DistributionHeld E l → ElementHeld l e (element_at E e)
unfolding kind_of size_of element_at DistributionHeld
held_at (Distribution.single P) d e l k listed m t = let first : e ≡ 0 = omega arith in rw first t
held_at (Distribution.depolarizing qs) d e l k listed m t = absurd (listed (length qs) k)
held_at (Distribution.uniform Ps) d e l k listed m t = t e m
held_at (Distribution.weighted es) d e l k listed m t = rw (weighted_at es e) (t e m)

-- ---- how many elements there are

pub size_some : (n : ℕ) (D : Distribution) → DistributionSound n D → 0 < size_of D
unfolding DistributionSound
size_some n (Distribution.single P) s = unfold size_of in lit< tt
size_some n (Distribution.depolarizing qs) s = depolarizing_size qs s.filled
size_some n (Distribution.uniform Ps) s = unfold size_of in s.filled
size_some n (Distribution.weighted es) s = unfold size_of in s.filled

-- fewer than a word can count
pub size_fits : (n : ℕ) (D : Distribution) → DistributionSound n D → size_of D < 2 ^ 62
unfolding DistributionSound size_of
size_fits n (Distribution.single P) s = lit< tt
size_fits n (Distribution.depolarizing qs) s = depolarizing_small qs s.few
size_fits n (Distribution.uniform Ps) s = omega (arith, s.few)
size_fits n (Distribution.weighted es) s = omega (arith, s.few)

-- ---- an element of a distribution that is not depolarizing

module _ {D : Distribution} {d : PauliDistribution} {sums : List Float} (c : Chooses D d sums) (listed : (k : ℕ) → d ≡ Depolarizing k → ⊥) where
  -- in 64 words each
  pub size_few : (n : ℕ) → DistributionSound n D → size_of D ≤ 64
  size_few n s = go D c.kind s
    where
      go : (E : Distribution) → d ≡ kind_of E → DistributionSound n E → size_of E ≤ 64
      go (Distribution.single P) k t = unfold size_of in omega arith
      go (Distribution.depolarizing qs) k t = absurd (listed (length qs) (unfold kind_of in k))
      go (Distribution.uniform Ps) k t = unfold size_of DistributionSound in t.few
      go (Distribution.weighted es) k t = unfold size_of DistributionSound in t.few

  module _ (e : ℕ) (h : e < size_of D) where
    pub held_element : (l : List ℕ) → DistributionHeld D l → ElementHeld l e (element_at D e)
    held_element l held = held_at D d e l c.kind listed h held

    pub element_sound : (n : ℕ) → DistributionSound n D → PauliSound n (element_at D e)
    element_sound n s = go D c.kind h s
      where
        go : (E : Distribution) → d ≡ kind_of E → e < size_of E → DistributionSound n E → PauliSound n (element_at E e)
        go (Distribution.single P) k m t = unfold element_at DistributionSound in t
        go (Distribution.depolarizing qs) k m t = absurd (listed (length qs) (unfold kind_of in k))
        go (Distribution.uniform Ps) k m t = unfold element_at DistributionSound size_of in every_at (PauliSound n) Ps no_pauli t.each e m
        go (Distribution.weighted es) k m t =
            rw (weighted_at es e) (unfold DistributionSound size_of in (every_at (ElementSound n) es no_element t.each e m).pauli)

-- ---- the qubits of a depolarizing distribution

-- it is of these qubits
pub record OfQubits (D : Distribution) (l : List ℕ) : Type 0 where
  pub qubits : List ℕ
  pub is : D ≡ Distribution.depolarizing qubits
  pub held : QubitsHeld l qubits

qubits_held : (E : Distribution) (k : ℕ) (l : List ℕ) → Depolarizing k ≡ kind_of E → DistributionHeld E l → OfQubits E l
unfolding kind_of DistributionHeld
qubits_held (Distribution.single P) k l q t = let z : ◌≡◌ {A = ℕ} 0 1 = cc in absurd (omega arith)
qubits_held (Distribution.depolarizing qs) k l q t = record { qubits = qs; is = refl; held = t }
qubits_held (Distribution.uniform Ps) k l q t = let z : ◌≡◌ {A = ℕ} 0 1 = cc in absurd (omega arith)
qubits_held (Distribution.weighted es) k l q t = let z : ◌≡◌ {A = ℕ} 0 1 = cc in absurd (omega arith)

pub held_qubits : {D : Distribution} {d : PauliDistribution} {sums : List Float} → Chooses D d sums → (k : ℕ) → d ≡ Depolarizing k → (l : List ℕ)
    → DistributionHeld D l → OfQubits D l
held_qubits {D} c k e l held = qubits_held D k l (sym e ∙ c.kind) held
