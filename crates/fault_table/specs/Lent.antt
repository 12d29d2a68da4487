-- The groups of a lent list, and the words in which what is carried back of each lies. Definitions. Assumes nothing.
use Rattle.std.specs.Prelude.{ℕ, zero, suc, ◌+◌, ◌*◌, ◌≤◌, ◌≡◌, true, cond, List, [], ◌∷◌, length, take, drop, replicate, Option, Some, None}
use Rattle.pauli.specs.Bits.{members}
use Rattle.pauli.specs.Pauli.{identity}
use Rattle.pauli.specs.Fixed.{in_set}
use Rattle.backward.specs.Walk.{Carried}
use Rattle.single_faults.specs.Groups.{Groups, groups_of, all_recorded}

-- ---- the list

-- how many groups there are, n of them before these; none where 17 refuses them
unfoldable pub grouping_of : ℕ → ℕ → Groups → Option ℕ
grouping_of recorded n Groups.cut_short = None
grouping_of recorded n (Groups.whole gs) = cond (all_recorded recorded gs) (Some (n + length gs)) None

-- ---- the words

-- what 24 words hold of a group
unfoldable pub carried_in : List ℕ → Carried
carried_in words = record { observable = record { x = in_set (take 4 words); z = in_set (take 4 (drop 4 words)) }; set = in_set (drop 8 words) }

-- of so many groups
unfoldable pub all_carried : ℕ → List ℕ → List Carried
all_carried zero words = []
all_carried (suc n) words = carried_in (take 24 words) ∷ all_carried n (drop 24 words)

-- what is carried back before any line
unfoldable pub start_of : List ℕ → Carried
start_of ids = record { observable = identity; set = members ids }

-- a list that passed 17, and words for it, all zero
pub record Startable (list state : List ℕ) : Type 0 where
  pub recorded : ℕ
  pub few : recorded ≤ 1024
  pub groups : List (List ℕ)
  pub are : groups_of list ≡ Groups.whole groups
  pub known : all_recorded recorded groups ≡ true
  pub zeros : state ≡ replicate (length groups * 24) 0
