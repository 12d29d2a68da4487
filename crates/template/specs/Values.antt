-- Where the values of a line lie in lent words: its numbers, at most 4; of each of its lists, at most 4, how many members it has, the largest of them (0 of
-- none), and the members, of which the first 31 are kept. Definitions. Assumes nothing.
use Rattle.std.specs.Prelude.{ℕ, ◌+◌, ◌*◌, ◌≤◌, List, length, get_or, take, drop}

-- there are as many words as that takes
abbrev pub Whole : List ℕ → Type 0
Whole words = 136 ≤ length words

-- the i-th number
abbrev pub held_number : List ℕ → ℕ → ℕ
held_number words i = get_or words i 0

-- how many members the i-th list has
abbrev pub held_count : List ℕ → ℕ → ℕ
held_count words i = get_or words (4 + i) 0

-- its largest member
abbrev pub held_largest : List ℕ → ℕ → ℕ
held_largest words i = get_or words (8 + i) 0

-- its member j, of those that are kept
abbrev pub held_member : List ℕ → ℕ → ℕ → ℕ
held_member words i j = get_or words (12 + i * 31 + j) 0

-- the words from its first member on, and the 31 of them that are its own
abbrev pub members_on : List ℕ → ℕ → List ℕ
members_on words i = drop (12 + i * 31) words

abbrev pub kept_members : List ℕ → ℕ → List ℕ
kept_members words i = take 31 (members_on words i)

-- the i-th list, where all its members are kept
abbrev pub AllKept : List ℕ → ℕ → Type 0
AllKept words i = held_count words i ≤ 31

abbrev pub held_list : List ℕ → ℕ → List ℕ
held_list words i = take (held_count words i) (members_on words i)
