-- Definitions. The groups of outcomes that a caller lends in one list: each group's length, then its ids (document 02, note 13). Assumes nothing.
use Rattle.std.specs.Prelude.{Bool, true, ◌&&◌, List, [], ◌∷◌, ℕ, zero, suc, leb, length}
use Rattle.text.specs.List.{is_rising_of}
use Rattle.job.specs.Checks.{all_below}

-- the groups of a list, or its last one is cut short
pub data Groups : Type 0 where
  cut_short : Groups
  whole : List (List ℕ) → Groups

-- an id put in front of the first group
unfoldable pub with_id : ℕ → List (List ℕ) → List (List ℕ)
with_id id [] = (id ∷ []) ∷ []
with_id id (g ∷ gs) = (id ∷ g) ∷ gs

unfoldable pub id_before : ℕ → Groups → Groups
id_before id Groups.cut_short = Groups.cut_short
id_before id (Groups.whole gs) = Groups.whole (with_id id gs)

-- an empty group in front
unfoldable pub empty_before : Groups → Groups
empty_before Groups.cut_short = Groups.cut_short
empty_before (Groups.whole gs) = Groups.whole ([] ∷ gs)

-- a group of which so many ids are to come, and the groups behind it
unfoldable pub group_of : ℕ → List ℕ → Groups
group_of zero [] = Groups.whole ([] ∷ [])
group_of zero (k ∷ ws) = empty_before (group_of k ws)
group_of (suc left) [] = Groups.cut_short
group_of (suc left) (id ∷ ws) = id_before id (group_of left ws)

unfoldable pub groups_of : List ℕ → Groups
groups_of [] = Groups.whole []
groups_of (k ∷ ws) = group_of k ws

-- 17: a group that isn't strictly rising or has an unrecorded outcome, r being the outcomes recorded
unfoldable pub all_recorded : ℕ → List (List ℕ) → Bool
all_recorded r [] = true
all_recorded r (g ∷ gs) = is_rising_of g && all_below r g && all_recorded r gs

-- 24: no groups, or more than 16
abbrev pub most_groups : ℕ
most_groups = 16

abbrev pub groups_fit : List (List ℕ) → Bool
groups_fit gs = leb 1 (length gs) && leb (length gs) most_groups
