-- How lent words hold the values of a line, and what reading a line by its template says. Definitions. Assumes nothing.
use Rattle.std.specs.Prelude.{ℕ, ◌+◌, ◌*◌, ◌≤◌, ◌<◌, ◌≢◌, ◌≡◌, Bool, true, false, cond, not, ◌&&◌, ◌||◌, List, [], ◌∷◌, ◌++◌, eqb, length, get_or, drop, Option as Answer, Some, None}
use Rattle.std.proofs.Math.Option.{Option, none, some}
use Rattle.text.specs.Bytes.{space, until}
use Rattle.text.specs.List.{list_L, list_Q, list_T, list_C}
use Rattle.text.specs.Template.{Value, is_letter_of, values_of, numbers_in, lists_in, number_at, list_at_of}
use Rattle.numbers.specs.Read.{largest_of, in_front}
use Rattle.numbers.specs.Known.{field}
use Rattle.template.specs.Values.{held_number, held_count, held_largest, held_member}
use Rattle.template.specs.declared.Progress.{Progress}

-- a list by its letter: L, Q, T, else C
unfoldable pub list_by_of : ℕ → List ℕ → Option (List ℕ)
list_by_of t v = cond (eqb t 76) (list_L v) (cond (eqb t 81) (list_Q v) (cond (eqb t 84) (list_T v) (list_C v)))

-- ---- the values of a line

-- whether a letter stands for a number (N, H, B), and whether it stands for a list (L, Q, T, C), as 1 or 0
abbrev pub number_letter : ℕ → ℕ
number_letter t = cond (eqb t 78 || (eqb t 72 || eqb t 66)) 1 0

abbrev pub list_letter : ℕ → ℕ
list_letter t = cond (eqb t 76 || (eqb t 81 || (eqb t 84 || eqb t 67))) 1 0

-- how many numbers and how many lists a line of a template has
abbrev pub number_letters : List ℕ → ℕ
number_letters [] = 0
number_letters (t ∷ ts) = number_letter t + number_letters ts

abbrev pub list_letters : List ℕ → ℕ
list_letters [] = 0
list_letters (t ∷ ts) = list_letter t + list_letters ts

-- Lent words hold the values of a line, so many numbers and so many lists, at most 4 of each.
pub record Held (words : List ℕ) (numbers lists : ℕ) (vs : List Value) : Type 0 where
  pub few_numbers : numbers ≤ 4
  pub few_lists : lists ≤ 4
  pub numbers_in_lem : length (numbers_in vs) ≡ numbers
  pub lists_in_lem : length (lists_in vs) ≡ lists
  pub number : (i : ℕ) → i < numbers → held_number words i ≡ number_at i vs
  pub count : (i : ℕ) → i < lists → held_count words i ≡ length (list_at_of i vs)
  pub largest : (i : ℕ) → i < lists → held_largest words i ≡ largest_of (list_at_of i vs)
  pub member : (i j : ℕ) → i < lists → j < 31 → j < length (list_at_of i vs) → held_member words i j ≡ get_or (list_at_of i vs) j 0

-- the l-th list was put into the words: its count, its largest member and its members; nothing else before its members is changed
pub record ListPut (before after : List ℕ) (l : ℕ) (members : List ℕ) : Type 0 where
  pub count : held_count after l ≡ length members
  pub largest : held_largest after l ≡ largest_of members
  pub member : (j : ℕ) → j < 31 → j < length members → held_member after l j ≡ get_or members j 0
  pub others : (k : ℕ) → k ≢ 4 + l → k ≢ 8 + l → k < 12 + l * 31 → get_or after k 0 ≡ get_or before k 0

-- a list of at most two members, by how many they are and what they are, 0 in place of one that it hasn't
pub record FewAre (members : List ℕ) (count first second : ℕ) : Type 0 where
  pub few : length members ≤ 2
  pub size : count ≡ length members
  pub is_first : first ≡ get_or members 0 0
  pub is_second : second ≡ get_or members 1 0

-- the l-th list was put into the words, an L that is known to stand on the line from a place on; r is the place behind it
pub record KnownPut (line : List ℕ) (from l r : ℕ) (before after : List ℕ) : Type 0 where
  pub put : (members : List ℕ) → list_L (field line from) ≡ some members → ListPut before after l members
  pub behind : r ≡ from + until space (drop from line)

-- there is room for the values of a template after so many numbers and lists
pub record Room (numbers lists : ℕ) (template : List ℕ) : Type 0 where
  pub for_numbers : numbers + number_letters template ≤ 4
  pub for_lists : lists + list_letters template ≤ 4

-- ---- a line read in parts

-- From a place on a line begins as a template says: with some values, up to the place `p.at`. Whatever the template goes on with, the line's values are
-- these and those that it has from there on. Lent words that held the values before now hold these after them.
pub record Begins (line template : List ℕ) (from numbers lists : ℕ) (p : Progress) (before after : List ℕ) : Type 0 where
  pub values : List Value
  pub reads : (rest : List ℕ) → values_of (template ++ rest) (drop from line) ≡ in_front values (values_of rest (drop p.at line))
  pub within : p.at ≤ length line
  pub numbers_read : p.numbers ≡ numbers + number_letters template
  pub lists_read : p.lists ≡ lists + list_letters template
  pub holds : (vs : List Value) → Held before numbers lists vs → Held after p.numbers p.lists (vs ++ values)

-- what reading on by a template says: `None`, that no template which begins so is the line's from that place on
pub record ReadOn (line template : List ℕ) (from numbers lists : ℕ) (r : Answer Progress) (before after : List ℕ) : Type 0 where
  pub refused : r ≡ None → Room numbers lists template → (rest : List ℕ) → values_of (template ++ rest) (drop from line) ≡ none
  pub read : (p : Progress) → r ≡ Some p → Begins line template from numbers lists p before after

-- the same, from where a line was read to
abbrev pub ReadNext : List ℕ → List ℕ → Progress → Answer Progress → List ℕ → List ℕ → Type 0
ReadNext line part p r before after = ReadOn line part p.at p.numbers p.lists r before after

-- nothing of a line was read
abbrev pub started : Progress
started = record { at = 0; numbers = 0; lists = 0 }

-- whether a line of so many bytes was read to its end
abbrev pub ends_at : ℕ → Answer Progress → Bool
ends_at size None = false
ends_at size (Some p) = eqb p.at size

-- a part of a template whose bytes stand for themselves
abbrev pub is_plain : List ℕ → Bool
is_plain [] = true
is_plain (t ∷ ts) = not (is_letter_of t) && is_plain ts

-- ---- a whole line

-- the values of a line by a template, and lent words that hold them
pub record HasForm (line template fields : List ℕ) : Type 0 where
  pub values : List Value
  pub reads : values_of template line ≡ some values
  pub held : Held fields (number_letters template) (list_letters template) values

-- what reading a line by a template says
pub record ReadAs (line template : List ℕ) (r : Bool) (fields : List ℕ) : Type 0 where
  pub refused : r ≡ false → Room 0 0 template → values_of template line ≡ none
  pub read : r ≡ true → HasForm line template fields

-- ---- one value more, between the functions of the code

-- the value `o` was put after those that were read up to p; it is a numbers and b lists, where one of a and b is 1, the other 0
pub record StoresOne (a b : ℕ) (o : Option Value) (p q : Progress) (before after : List ℕ) : Type 0 where
  pub value : Value
  pub reads : o ≡ some value
  pub stays : q.at ≡ p.at
  pub numbers_read : q.numbers ≡ p.numbers + a
  pub lists_read : q.lists ≡ p.lists + b
  pub holds : (vs : List Value) → Held before p.numbers p.lists vs → Held after (p.numbers + a) (p.lists + b) (vs ++ value ∷ [])

pub record StoresAs (a b : ℕ) (o : Option Value) (p : Progress) (r : Answer Progress) (before after : List ℕ) : Type 0 where
  pub refused : r ≡ None → p.numbers + a ≤ 4 → p.lists + b ≤ 4 → o ≡ none
  pub put : (q : Progress) → r ≡ Some q → StoresOne a b o p q before after
