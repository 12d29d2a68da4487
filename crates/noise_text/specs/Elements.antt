-- The elements of a distribution, as they lie in lent words. Definitions. Assumes nothing.
use Rattle.std.specs.Prelude.{List, ℕ, ◌+◌, ◌^◌, ◌≤◌, ◌<◌}
use Rattle.job.specs.Line.{SparsePauli}
use Rattle.draws.specs.Draws.{depolarizing_element_of}
use Rattle.noise.specs.declared.PauliDistribution.{PauliDistribution}
use Rattle.noise.specs.declared.PauliDistribution.TheVariants.{Single, Depolarizing, Uniform, Weighted}
use Rattle.faults.specs.Elements.{Inside, x_count, z_count, element_X, element_Z}

-- an element that is kept whole
unfoldable pub kept_element : List ℕ → ℕ → SparsePauli
kept_element l e = record { x = element_X l e; z = element_Z l e }

-- the element with a number
unfoldable pub element_in : PauliDistribution → List ℕ → ℕ → SparsePauli
element_in Single l e = kept_element l e
element_in (Depolarizing k) l e = depolarizing_element_of (element_X l 0) e
element_in (Uniform n) l e = kept_element l e
element_in (Weighted t) l e = kept_element l e

-- its words are there
pub record Kept (l : List ℕ) (e : ℕ) : Type 0 where
  pub inside : Inside l e
  pub x_few : x_count l e ≤ 31
  pub z_few : z_count l e ≤ 31

pub record KeptQubits (l : List ℕ) (e : ℕ) : Type 0 where
  pub inside : Inside l 0
  pub few : x_count l 0 ≤ 31
  pub small : e + 1 < 2 ^ 64

unfoldable pub ElementIn : PauliDistribution → List ℕ → ℕ → Type 0
ElementIn Single l e = Kept l e
ElementIn (Depolarizing k) l e = KeptQubits l e
ElementIn (Uniform n) l e = Kept l e
ElementIn (Weighted t) l e = Kept l e
