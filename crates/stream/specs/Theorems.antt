-- Theorems: the words are those of the stated rule. Assumes nothing.
use Rattle.std.specs.Prelude.{◌≡◌, refl, List, ℕ, suc, ◌<◌, length, get_or}
use Rattle.stream.specs.Stream.{left, right, step, stepped, fill_reply}
use Rattle.stream.specs.Laws.Words.{words_stepped, fill_refused, fill_done}

-- From state 1 the first word is 1,082,269,761.
pub first_word : step 1 ≡ 1082269761
unfolding step left right
first_word = refl

-- The call, with a seed that is not zero: entry i of the list is the seed stepped i + 1 times. With the seed zero the list is as it was.
module _ (seed : ℕ) (words : List ℕ) where
  pub words_are : (seed ≡ 0 → ⊥) → (i : ℕ) → i < length words → get_or (fill_reply seed words).words i 0 ≡ stepped (suc i) seed
  words_are n i h = rw (fill_done seed words _ n refl) (words_stepped (length words) seed i h)

  pub words_kept : seed ≡ 0 → (fill_reply seed words).words ≡ words
  words_kept e = rw (fill_refused seed words e)
