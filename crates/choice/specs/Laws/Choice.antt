-- The choice of an element, by the place of its words. Laws. Assumes nothing.
use Rattle.std.specs.Prelude.{ℕ, zero, suc, ◌+◌, ◌-◌, ◌%◌, ◌^◌, ◌<◌, ◌≤◌, ◌≡◌, refl, true, false, Option, Some, None, List, [], ltb, length, get_or, drop, Float}
use Rattle.std.proofs.Math.Nat.{mod-zero}
use Rattle.std.proofs.Math.Numerals.{add-one}
use Rattle.std.proofs.Common.{arith, ap, ◌∙◌, drop_of_length-le}
use Rattle.std.proofs.Math.Path.{sym}
use Rattle.std.proofs.Math.Seq.{drop-cons}
use Rattle.job.specs.Line.{Distribution, size_of}
use Rattle.job.specs.Sound.{weights_of}
use Rattle.draws.specs.Draws.{unit_of, Choice, limit_of, bounded, place_of, by_weight, choose_from}
use Rattle.draws.specs.Known.{rust_place}
use Rattle.noise.specs.declared.PauliDistribution.{PauliDistribution}
use Rattle.noise.specs.declared.PauliDistribution.TheVariants.{Single, Depolarizing, Uniform, Weighted}
use Rattle.choice.specs.declared.Chosen.{Chosen}
use Rattle.noise.specs.Kinds.{kind_of, bound_of, Small, PlacesBy, Chooses}
use Rattle.choice.specs.Choice.{choice_of, next_of, Chose, Weighed, ElementChosen}

-- ---- what is chosen

module _ {words : List ℕ} {o : Choice} where
  pub chose : (e next : ℕ) → o ≡ Choice.chosen e (drop next words) → next ≤ length words → Chose words o (Some record { element = e; position = next })
  unfolding choice_of next_of
  chose e next q h = record { within = h; is = sym q }

  pub chose_none : o ≡ Choice.spent → Chose words o None
  unfolding choice_of next_of
  chose_none q = record { within = omega arith; is = sym q }

-- ---- by a bound

-- of no elements none is chosen
pub limit_none : 0 ≡ limit_of 0
limit_none = sym (ap (λ (m : ℕ). 2 ^ 64 - 1 - m) (mod-zero (2 ^ 64 - 1)))

pub below_limit : (c w limit : ℕ) → limit ≡ limit_of c → w < limit → 0 < c
below_limit zero w limit e h = absurd (omega (arith, limit_none))
below_limit (suc c) w limit e h = omega arith

-- a word below the limit, one that is rejected, and no word
module _ (c : ℕ) (ws : List ℕ) (i w limit : ℕ) (e : limit ≡ limit_of c) (is : w ≡ get_or ws i 0) where
  pub choose_takes : i < length ws → ltb w limit ≡ true → bounded c (drop i ws) ≡ Choice.chosen (w % c) (drop (i + 1) ws)
  unfolding bounded
  choose_takes h t = rw (add-one, drop-cons ws i 0, ← is, ← e, t)

  pub choose_rejects : i < length ws → ltb w limit ≡ false → bounded c (drop i ws) ≡ bounded c (drop (i + 1) ws)
  unfolding bounded
  choose_rejects h t = rw (add-one, drop-cons ws i 0, ← is, ← e, t)

pub choose_ends : (c : ℕ) (ws : List ℕ) (i : ℕ) → length ws ≤ i → bounded c (drop i ws) ≡ Choice.spent
unfolding bounded
choose_ends c ws i h = rw (drop_of_length-le ws h)

-- ---- by weight

module _ {ws : List ℕ} {sums : List Float} (i : ℕ) where
  pub weighed : i < length ws → (w : ℕ) → w ≡ get_or ws i 0 → w < 2 ^ 64 → (e : ℕ) → e ≡ rust_place (unit_of w) sums → Weighed ws i sums (Some record { element = e; position = i + 1 })
  unfolding by_weight choice_of next_of
  weighed h w read small e is =
      record {
        within = omega arith;
        is = λ weights p. rw (is, p.is w small, add-one, drop-cons ws i 0, ← read);
      }

  pub weighed_none : length ws ≤ i → Weighed ws i sums None
  unfolding by_weight choice_of next_of
  weighed_none h = record { within = omega arith; is = λ weights p. rw (drop_of_length-le ws h) }

-- ---- the bound of a kind

pub small_qubits : {d : PauliDistribution} (k : ℕ) → d ≡ Depolarizing k → Small d → k < 32
unfolding Small
small_qubits k e s = rw e at s

-- ---- by the kind of a distribution

-- the weights of the weighted kind
unfoldable weights_in : Distribution → List Float
weights_in (Distribution.single P) = []
weights_in (Distribution.depolarizing qs) = []
weights_in (Distribution.uniform Ps) = []
weights_in (Distribution.weighted es) = weights_of es

weights_beside : (D : Distribution) {d : PauliDistribution} {sums : List Float} → Chooses D d sums → (t : Float) → d ≡ Weighted t → PlacesBy (weights_in D) sums
unfolding weights_in kind_of
weights_beside (Distribution.single P) r t e = let z : ◌≡◌ {A = ℕ} 0 1 = cc r.kind in absurd (omega arith)
weights_beside (Distribution.depolarizing qs) r t e = let z : ◌≡◌ {A = ℕ} 0 1 = cc r.kind in absurd (omega arith)
weights_beside (Distribution.uniform Ps) r t e = let z : ◌≡◌ {A = ℕ} 0 1 = cc r.kind in absurd (omega arith)
weights_beside (Distribution.weighted es) r t e = r.beside es refl

-- what the words choose, by the kind and the weights
unfoldable chosen_by_of : PauliDistribution → List Float → List ℕ → Choice
unfolding bound_of
chosen_by_of Single weights ws = Choice.chosen 0 ws
chosen_by_of (Depolarizing k) weights ws = bounded (bound_of (Depolarizing k)) ws
chosen_by_of (Uniform n) weights ws = bounded (bound_of (Uniform n)) ws
chosen_by_of (Weighted t) weights ws = by_weight (place_of weights) ws

chosen_by : (D : Distribution) {d : PauliDistribution} → d ≡ kind_of D → (ws : List ℕ) → choose_from D ws ≡ chosen_by_of d (weights_in D) ws
unfolding choose_from chosen_by_of kind_of bound_of size_of weights_in
chosen_by (Distribution.single P) e ws = rw e
chosen_by (Distribution.depolarizing qs) e ws = rw e
chosen_by (Distribution.uniform Ps) e ws = rw e
chosen_by (Distribution.weighted es) e ws = rw e

-- the kinds that are neither single nor weighted choose by their bound
chosen_bounded : (d : PauliDistribution) (c : ℕ) → (d ≡ Single → ⊥) → ((t : Float) → d ≡ Weighted t → ⊥) → c ≡ bound_of d
    → (weights : List Float) (ws : List ℕ) → chosen_by_of d weights ws ≡ bounded c ws
unfolding chosen_by_of bound_of
chosen_bounded Single c one other e weights ws = absurd (one refl)
chosen_bounded (Depolarizing k) c one other e weights ws = rw e
chosen_bounded (Uniform n) c one other e weights ws = rw e
chosen_bounded (Weighted t) c one other e weights ws = absurd (other t refl)

module _ {d : PauliDistribution} {sums : List Float} {words : List ℕ} (at : ℕ) where
  pub chosen_one : d ≡ Single → at ≤ length words → ElementChosen words at d sums (Some record { element = 0; position = at })
  unfolding chosen_by_of choice_of next_of
  chosen_one e h = record { within = h; is = λ D r. sym (chosen_by D r.kind (drop at words) ∙ rw e) }

  -- a choice by what the kind comes to
  chosen_as : {o : Choice} {a : Option Chosen} → ((weights : List Float) → chosen_by_of d weights (drop at words) ≡ o) → Chose words o a
      → ElementChosen words at d sums a
  chosen_as e q = record { within = q.within; is = λ D r. q.is ∙ sym (chosen_by D r.kind (drop at words) ∙ e (weights_in D)) }

  pub chosen_uniform : {a : Option Chosen} (c : ℕ) → (d ≡ Single → ⊥) → ((t : Float) → d ≡ Weighted t → ⊥) → c ≡ bound_of d
      → Chose words (bounded c (drop at words)) a → ElementChosen words at d sums a
  chosen_uniform c one other b q = chosen_as (λ weights. chosen_bounded d c one other b weights (drop at words)) q

  pub chosen_weighted : {a : Option Chosen} (t : Float) → d ≡ Weighted t → Weighed words at sums a → ElementChosen words at d sums a
  unfolding chosen_by_of
  chosen_weighted t e q =
      record {
        within = q.within;
        is = λ D r. q.is (weights_in D) (weights_beside D r t e) ∙ sym (chosen_by D r.kind (drop at words) ∙ rw e);
      }
