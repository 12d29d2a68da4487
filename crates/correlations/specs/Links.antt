-- Correlations that are found by their remainder. Definitions. Assumes nothing.
use Rattle.std.specs.Prelude.{ℕ, ◌+◌, ◌%◌, ◌≤◌, ◌<◌, ◌^◌, ◌≡◌, List, length, get_or, take, Option as Maybe, Some, None}
use Rattle.text.specs.Bytes.{until}

-- a correlation that is none of those that were seen
abbrev pub Unseen : ℕ → List ℕ → Type 0
Unseen c seen = until c seen ≡ length seen

-- the first place of a correlation among those that were seen, if it is one of them
pub record PlaceOf (c : ℕ) (seen : List ℕ) (r : Maybe ℕ) : Type 0 where
  pub found : (i : ℕ) → r ≡ Some i → (i ≡ until c seen) × (i < length seen)
  pub unseen : r ≡ None → Unseen c seen

-- the remainder by which a correlation is found
unfoldable pub remainder_of : ℕ → ℕ
remainder_of c = c % 4093

-- A link to the last of the first `limit` places with a remainder: one more than that place, or 0 where none has it.
pub record Link (seen : List ℕ) (remainder limit link : ℕ) : Type 0 where
  pub within : link ≤ limit
  pub last : (i : ℕ) → i < limit → remainder_of (get_or seen i 0) ≡ remainder → i < link
  pub leads : (i : ℕ) → link ≡ i + 1 → remainder_of (get_or seen i 0) ≡ remainder

-- The links of each remainder, then of each place to those before it. Each correlation is there once.
pub record Linked (seen links : List ℕ) : Type 0 where
  pub room : 4093 + length seen ≤ length links
  pub first : (r : ℕ) → r < 4093 → Link seen r (length seen) (get_or links r 0)
  pub next : (i : ℕ) → i < length seen → Link seen (remainder_of (get_or seen i 0)) i (get_or links (4093 + i) 0)
  pub once : (i j : ℕ) → i < j → j < length seen → get_or seen i 0 ≡ get_or seen j 0 → ⊥

-- a table that holds n correlations, and has room for as many as the lists are long
pub record Table (n : ℕ) (seen sizes links : List ℕ) : Type 0 where
  pub few : n ≤ length seen
  pub beside : length seen ≡ length sizes
  pub room : 4093 + length seen ≤ length links
  pub small : length seen < 2 ^ 16
  pub linked : Linked (take n seen) links
