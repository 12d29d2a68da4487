-- Definitions: that a list begins as another. Assumes nothing.
use Rattle.std.specs.Prelude.{ℕ, List, [], ◌∷◌, ⊤}

-- the first list begins with the members of the second: each of them converts to a number to which the first's member at its place converts too
abbrev pub BeginsAs : {A : Type 0} → (A → ℕ → Type 0) → List A → List A → Type 0
BeginsAs converts found [] = ⊤
BeginsAs converts [] (b ∷ must) = ⊥
BeginsAs converts (a ∷ found) (b ∷ must) = ((n : ℕ) × converts a n × converts b n) × BeginsAs converts found must
