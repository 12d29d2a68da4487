-- The values that lent words hold for a line that is put by its template, as `template` puts there what it reads: the numbers one after the other; of the
-- i-th list the count at i, and the members from 31 i on. Definitions. Assumes nothing.
use Rattle.std.specs.Prelude.{◌≡◌, Bool, cond, ◌||◌, List, [], ◌∷◌, ℕ, ◌+◌, ◌*◌, ◌≤◌, ◌<◌, eqb, length, get_or, take, drop}
use Rattle.text.specs.Bytes.{bytes}
use Rattle.text.specs.Template.{Value, is_letter_of, line_text}
use Rattle.job.specs.Line.{Distribution, size_of}
use Rattle.job.specs.Grammar.{depolarizing_template}

-- whether a letter stands for a list of numbers: L, Q, C. No line with a T is written.
unfoldable pub is_list_of : ℕ → Bool
is_list_of t = eqb t 76 || (eqb t 81 || eqb t 67)

-- the values for the letters of a template, in order
unfoldable pub values_in : List ℕ → List ℕ → List ℕ → List ℕ → List Value
values_in [] numbers counts members = []
values_in (t ∷ ts) numbers counts members =
    let a_list = Value.list (take (get_or counts 0 0) members) ∷ values_in ts numbers (drop 1 counts) (drop 31 members) in
    let a_number = Value.number (get_or numbers 0 0) ∷ values_in ts (drop 1 numbers) counts members in
    let literal = values_in ts numbers counts members in
    cond (is_letter_of t) (cond (is_list_of t) a_list a_number) literal

-- how many numbers and how many lists a line of a template has
abbrev pub numbers_for : List ℕ → ℕ
numbers_for [] = 0
numbers_for (t ∷ ts) = cond (is_letter_of t) (cond (is_list_of t) 0 1) 0 + numbers_for ts

abbrev pub lists_for : List ℕ → ℕ
lists_for [] = 0
lists_for (t ∷ ts) = cond (is_letter_of t) (cond (is_list_of t) 1 0) 0 + lists_for ts

-- the words are there
pub record Lent (template numbers counts members : List ℕ) : Type 0 where
  pub for_numbers : numbers_for template ≤ length numbers
  pub for_lists : lists_for template ≤ length counts
  pub for_members : (i : ℕ) → i < lists_for template → i * 31 + get_or counts i 0 ≤ length members
  pub few : (i : ℕ) → i < lists_for template → get_or counts i 0 ≤ 31

-- those of a Pauli: two lists
pub record PauliLent (counts members : List ℕ) : Type 0 where
  pub two : 2 ≤ length counts
  pub x_few : get_or counts 0 0 ≤ 31
  pub z_few : get_or counts 1 0 ≤ 31
  pub for_members : 62 ≤ length members

-- how each line of annotation's noise begins
unfoldable pub depolarizing_start : ℕ → List ℕ
depolarizing_start p = line_text (bytes "op=n p=H corr=- cond=- parity=0 d=2") (Value.number p ∷ [])

-- such a line: depolarizing noise without correlation and condition
abbrev pub depolarizing_text : ℕ → List ℕ → List ℕ
depolarizing_text p qs =
    line_text depolarizing_template (Value.number p ∷ Value.list [] ∷ Value.list [] ∷ Value.number 0 ∷ Value.list qs ∷ Value.number (size_of (Distribution.depolarizing qs)) ∷ [])

-- bytes that are such a start
pub record StartOf (start : List ℕ) : Type 0 where
  pub probability : ℕ
  pub text : start ≡ depolarizing_start probability
