-- Numbers and lists that are known to stand at a place of some bytes, and what reading them says. Definitions. Assumes nothing.
use Rattle.std.specs.Prelude.{ℕ, ◌+◌, ◌^◌, ◌≤◌, ◌<◌, ◌≡◌, cond, List, [], ◌∷◌, ltb, length, take, drop, Some}
use Rattle.std.proofs.Math.Option.{some}
use Rattle.text.specs.Bytes.{space, until}
use Rattle.text.specs.Number.{decimal_from}
use Rattle.text.specs.List.{list_L}
use Rattle.numbers.specs.Read.{ListRead}
use Rattle.numbers.specs.declared.known.Digits.{Digits}
use Rattle.numbers.specs.declared.known.KnownList.{KnownList}

-- ---- a number

-- the bytes up to the first that is below `0`: where a number stands in a line, its digits
unfoldable pub digits_of : List ℕ → List ℕ
digits_of [] = []
digits_of (b ∷ l) = let more = b ∷ digits_of l in cond (ltb b 48) [] more

-- from a place on
abbrev pub digits_at : List ℕ → ℕ → List ℕ
digits_at s from = digits_of (drop from s)

-- what they come to, as if each were a digit, fits a word
pub record DigitsThere (s : List ℕ) (from : ℕ) : Type 0 where
  pub within : from ≤ length s
  pub small : decimal_from 0 (digits_at s from) < 2 ^ 64

-- it was read, up to the place behind it
pub record DigitsRead (s : List ℕ) (from : ℕ) (r : Digits) : Type 0 where
  pub value : r.value ≡ decimal_from 0 (digits_at s from)
  pub behind : r.behind ≡ from + length (digits_at s from)
  pub within : r.behind ≤ length s

-- ---- a list

-- the bytes from a place up to a space or the end
abbrev pub field : List ℕ → ℕ → List ℕ
field s from = take (until space (drop from s)) (drop from s)

-- they are an L
pub record ListThere (s : List ℕ) (from : ℕ) : Type 0 where
  pub within : from ≤ length s
  pub members : List ℕ
  pub is : list_L (field s from) ≡ some members

-- it was read, up to the place behind it, and its members are in the lent words
pub record KnownRead (s : List ℕ) (from : ℕ) (r : KnownList) (before after : List ℕ) : Type 0 where
  pub list : ListRead (list_L (field s from)) (Some r.list) before after
  pub behind : r.behind ≡ from + until space (drop from s)
