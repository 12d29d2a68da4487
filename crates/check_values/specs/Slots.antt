-- The lists of a line by their places. Definitions. Assumes nothing.
use Rattle.std.specs.Prelude.{ℕ, zero, suc, List, [], ◌∷◌}
use Rattle.text.specs.Template.{Value, list_at_of}

-- the lists of a line from the a-th on, so many
unfoldable pub lists_from : ℕ → ℕ → List Value → List (List ℕ)
lists_from a zero vs = []
lists_from a (suc n) vs = list_at_of a vs ∷ lists_from (suc a) n vs
