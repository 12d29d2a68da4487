-- Definitions: what is chosen, as the code returns it. Assumes nothing.
use Rattle.std.specs.Prelude.{◌≡◌, Bool, cond, List, [], ◌∷◌, ◌++◌, ℕ, ◌+◌, ◌≤◌, take}
use Rattle.made.specs.Choice.{Chosen}
use Rattle.made_fields.specs.declared.choices.Number.{Number}
use Rattle.made_fields.specs.declared.choices.Numbers.{Numbers}

-- a number
pub record NumberIs (c : Chosen ℕ) (r : Number) : Type 0 where
  pub value : r.value ≡ c.value
  pub state : r.state ≡ c.state

-- a list of at most so many numbers, which a lent list begins with
pub record ListIs (most : ℕ) (c : Chosen (List ℕ)) (list : List ℕ) (r : Numbers) : Type 0 where
  pub list_is : take r.count list ≡ c.value
  pub state : r.state ≡ c.state
  pub short : r.count ≤ most

-- a number behind the first ones of a list, or not
pub record Kept (list : List ℕ) (count : ℕ) (on : Bool) (q : ℕ) (after : List ℕ) (r : ℕ) : Type 0 where
  pub first : take r after ≡ cond on (take count list ++ q ∷ []) (take count list)
  pub more : r ≤ count + 1
