-- What a choice by the code says. Definitions. Assumes nothing.
use Rattle.std.specs.Prelude.{ℕ, ◌<◌, ◌≤◌, ◌≡◌, Bool, cond, Option, Some, None, List, [], ◌∷◌, length, drop, Float}
use Rattle.job.specs.Line.{Distribution}
use Rattle.job.specs.Float.{float, zero_float, one, total_from}
use Rattle.draws.specs.Draws.{Choice, limit_of, running_sums_of, is_positive, place_of, by_weight, choose_from}
use Rattle.draws.specs.Known.{any_positive_of}
use Rattle.noise.specs.declared.PauliDistribution.{PauliDistribution}
use Rattle.noise.specs.declared.PauliDistribution.TheVariants.{Weighted}
use Rattle.choice.specs.declared.Chooser.{Chooser}
use Rattle.choice.specs.declared.Chosen.{Chosen}
use Rattle.noise.specs.Kinds.{bound_of, PlacesBy, Chooses}

-- the words that are left are those from a position on
unfoldable pub choice_of : List ℕ → Option Chosen → Choice
choice_of words (Some c) = Choice.chosen c.element (drop c.position words)
choice_of words None = Choice.spent

-- the position of the next word
unfoldable pub next_of : Option Chosen → ℕ
next_of (Some c) = c.position
next_of None = 0

-- a choice, of which the definitions say that it is o
pub record Chose (words : List ℕ) (o : Choice) (r : Option Chosen) : Type 0 where
  pub within : next_of r ≤ length words
  pub is : choice_of words r ≡ o

-- a choice by sums, from a position of the words on: for all weights beside which these sums lie
pub record Weighed (words : List ℕ) (at : ℕ) (sums : List Float) (r : Option Chosen) : Type 0 where
  pub within : next_of r ≤ length words
  pub is : (weights : List Float) → PlacesBy weights sums → choice_of words r ≡ by_weight (place_of weights) (drop at words)

-- ---- a choice by the kind of distribution

-- the numbers beside the distribution are its own
pub record Sized (c : Chooser) : Type 0 where
  pub bound : c.bound ≡ bound_of c.distribution
  pub limit : c.limit ≡ limit_of c.bound

-- the total that the weighted kind carries is that of these weights, which are not none
pub record Totals (d : PauliDistribution) (weights : List Float) : Type 0 where
  pub is : (t : Float) → d ≡ Weighted t → (0 < length weights) × (t ≡ total_from zero_float weights)

-- ---- sums that pass over weights that aren't positive

-- below every u
abbrev pub minus_one_of : Float
minus_one_of = float 0xbff0_0000_0000_0000

-- A running sum beside its weight: -1.0 if that isn't positive, and 1.0, which isn't below any u, if it is and none behind it is.
unfoldable pub marked : Float → Float → Bool → Float
marked w s later = cond (is_positive w) (cond later s one) minus_one_of

unfoldable pub marked_by : List Float → List Float → List Float
marked_by [] sums = sums
marked_by (w ∷ ws) [] = []
marked_by (w ∷ ws) (s ∷ sums) = marked w s (any_positive_of ws) ∷ marked_by ws sums

-- the sums beside the weighted kind are the running sums of these weights, marked
pub record SumsOf (d : PauliDistribution) (weights sums : List Float) : Type 0 where
  pub is : (t : Float) → d ≡ Weighted t → sums ≡ marked_by weights (running_sums_of weights)

-- the choice of an element, from a position of the words on: for every distribution that the kind and the sums stand for
pub record ElementChosen (words : List ℕ) (at : ℕ) (d : PauliDistribution) (sums : List Float) (r : Option Chosen) : Type 0 where
  pub within : next_of r ≤ length words
  pub is : (D : Distribution) → Chooses D d sums → choice_of words r ≡ choose_from D (drop at words)
