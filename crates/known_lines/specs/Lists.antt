-- The two lists of a Pauli in a line, by their places. Definitions. Assumes nothing.
use Rattle.std.specs.Prelude.{ℕ, ◌+◌, ◌≡◌, List, drop}
use Rattle.std.proofs.Math.Option.{some}
use Rattle.text.specs.Bytes.{space, until}
use Rattle.text.specs.List.{list_L}
use Rattle.numbers.specs.Known.{field, ListThere}
use Rattle.template.specs.Fields.{ListPut}

-- Where the lists of `x=L z=L` stand, or of `u=L v=L`, which begins at a place: behind `x=`, and behind the first list and ` z=`.
abbrev pub x_place : ℕ → ℕ
x_place from = from + 2

abbrev pub z_place : List ℕ → ℕ → ℕ
z_place line from = x_place from + until space (drop (x_place from) line) + 3

-- the place behind the second
abbrev pub lists_end : List ℕ → ℕ → ℕ
lists_end line from = z_place line from + until space (drop (z_place line from) line)

-- both are there
pub record ListsThere (line : List ℕ) (from : ℕ) : Type 0 where
  pub x : ListThere line (x_place from)
  pub z : ListThere line (z_place line from)

-- they were put into the words as the lists of a slot and the next; r is the place behind them
pub record ListsPut (line : List ℕ) (from slot r : ℕ) (before after : List ℕ) : Type 0 where
  pub between : List ℕ
  pub x : (members : List ℕ) → list_L (field line (x_place from)) ≡ some members → ListPut before between slot members
  pub z : (members : List ℕ) → list_L (field line (z_place line from)) ≡ some members → ListPut between after (slot + 1) members
  pub behind : r ≡ lists_end line from
