-- What the code's values say of a noise line. Definitions. Assumes nothing.
use Rattle.std.specs.Prelude.{◌≡◌, ℕ, ◌-◌, ◌^◌, ◌<◌, List, length, Float, Some, None, Option as Given}
use Rattle.std.proofs.Math.Option.{Option, none, some}
use Rattle.job.specs.Line.{WeightedPauli, Distribution, Noise}
use Rattle.job.specs.Float.{float, zero_float, total_from}
use Rattle.job.specs.Sound.{weights_of}
use Rattle.draws.specs.Draws.{unit_of, place_of}
use Rattle.draws.specs.Known.{rust_place}
use Rattle.noise.specs.declared.PauliDistribution.{PauliDistribution}
use Rattle.noise.specs.declared.PauliDistribution.TheVariants.{Single, Depolarizing, Uniform, Weighted}

-- the number of a correlation, if there is one
unfoldable pub correlation_of : Given ℕ → Option ℕ
correlation_of None = none
correlation_of (Some c) = some c

-- ---- distributions

-- one of four kinds, the weighted one with its total
unfoldable pub kind_of : Distribution → PauliDistribution
kind_of (Distribution.single P) = Single
kind_of (Distribution.depolarizing qs) = Depolarizing (length qs)
kind_of (Distribution.uniform Ps) = Uniform (length Ps)
kind_of (Distribution.weighted es) = Weighted (total_from zero_float (weights_of es))

-- the bound of a choice, how many elements it is among where each is as likely as another: 0 where the kind chooses otherwise
unfoldable pub bound_of : PauliDistribution → ℕ
bound_of Single = 0
bound_of (Depolarizing k) = 4 ^ k - 1
bound_of (Uniform n) = n
bound_of (Weighted t) = 0

-- the bound fits a word: a list on a line holds at most 31
unfoldable pub Small : PauliDistribution → Type 0
Small Single = Unit
Small (Depolarizing k) = k < 32
Small (Uniform n) = Unit
Small (Weighted t) = Unit

-- The sums that lie beside weights: by the Rust's rule they give the place that the weights choose.
pub record PlacesBy (weights sums : List Float) : Type 0 where
  pub is : (w : ℕ) → w < 2 ^ 64 → rust_place (unit_of w) sums ≡ place_of weights (unit_of w)

-- the kind of a distribution, and beside it the sums of the weighted one
pub record Chooses (D : Distribution) (d : PauliDistribution) (sums : List Float) : Type 0 where
  pub kind : d ≡ kind_of D
  pub beside : (es : List WeightedPauli) → D ≡ Distribution.weighted es → PlacesBy (weights_of es) sums

-- the probability and the distribution of a noise line
pub record Represents (n : Noise) (p : Float) (d : PauliDistribution) (sums : List Float) : Type 0 where
  pub probability : p ≡ float n.probability
  pub chooses : Chooses n.distribution d sums
