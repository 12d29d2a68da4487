-- What the readers of numbers and lists say by their results, and how lent words hold the members of a list. Definitions. Assumes nothing.
use Rattle.std.specs.Prelude.{ℕ, ◌+◌, ◌-◌, ◌≤◌, max, ◌≡◌, Bool, List, [], ◌∷◌, ◌++◌, length, take, drop, Option as Answer, Some, None}
use Rattle.std.proofs.Math.Option.{Option, none, some}
use Rattle.text.specs.Bytes.{comma, until}
use Rattle.text.specs.Number.{number_of}
use Rattle.text.specs.List.{is_rising_of, piece_of}
use Rattle.numbers.specs.declared.lists.Listed.{Listed}
use Rattle.numbers.specs.declared.lists.Member.{Member}

-- ---- a number

-- the number that some bytes are, if any, by what a reader answers
unfoldable pub read : Answer ℕ → Option ℕ
read (Some n) = some n
read None = none

-- these bytes begin with a number of so many digits, at most three, up to a comma or the end
pub record ShortIn (digits value : ℕ) (l : List ℕ) : Type 0 where
  pub few : digits ≤ 3
  pub ends : until comma l ≡ digits
  pub reads : number_of (take digits l) ≡ some value

-- the piece of s from `at` on, up to a comma or the end
pub record MemberAt (hex : Bool) (s : List ℕ) (at : ℕ) (m : Member) : Type 0 where
  pub found : m.end ≡ at + until comma (drop at s)
  pub onward : at ≤ m.end
  pub within : m.end ≤ length s
  pub reads : read m.value ≡ piece_of hex (take (m.end - at) (drop at s))

-- ---- a list

-- the largest member, 0 of none
unfoldable pub largest_of : List ℕ → ℕ
largest_of [] = 0
largest_of (n ∷ l) = max n (largest_of l)

-- a list as the struct that tells of it, and what a reader of lists answers
unfoldable pub listed_of : List ℕ → Listed
listed_of l = record { count = length l; largest = largest_of l; rising = is_rising_of l }

unfoldable pub listed_as : Option (List ℕ) → Answer Listed
listed_as none = None
listed_as (some l) = Some (listed_of l)

-- lent words with the members of a list in them, as many as there is room for; the words after them stay
unfoldable pub stored : List ℕ → List ℕ → List ℕ
stored out [] = out
stored [] (n ∷ l) = []
stored (w ∷ out) (n ∷ l) = n ∷ stored out l

-- what a reader of lists says by its result and leaves in the lent words, where its bytes are the list `o`
pub record ListRead (o : Option (List ℕ)) (r : Answer Listed) (before after : List ℕ) : Type 0 where
  pub result : r ≡ listed_as o
  pub members : (l : List ℕ) → o ≡ some l → after ≡ stored before l

-- ---- read in parts

-- what was read before, in front of what is read after it
unfoldable pub in_front : {A : Type 0} → List A → Option (List A) → Option (List A)
in_front d none = none
in_front d (some l) = some (d ++ l)
