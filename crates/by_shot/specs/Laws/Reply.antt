-- The replies by what is found of counts and words. Assumes nothing.
use Rattle.std.specs.Prelude.{◌≡◌, true, false, List, ◌++◌, ℕ, ◌*◌, ◌^◌, ◌<◌, ◌≤◌, leb, length, drop}
use Rattle.std.proofs.Math.Path.{refl}
use Rattle.std.proofs.Common.{arith, mul-le-mul_right}
use borrow.Author.Tests.{le-leb}
use Rattle.std.proofs.lemmas.Bool.{and_parts, leb-true}
use Rattle.job.specs.Job.{answer}
use Rattle.job.specs.Grammar.{header_with}
use Rattle.job.proofs.Laws.Lines.{header_sound}
use Rattle.rows.specs.Words.{words_per_row}
use Rattle.rows.proofs.Laws.Pack.{length_pack}
use Rattle.by_shot.specs.Reply.{transposed, may_hold_of, enough_words, untouched, written, rearranged, by_shot_reply, by_outcome_reply}

-- ---- 3

module _ (outcomes shots : ℕ) where
  pub of_shots : outcomes ≤ 1024 → 1 ≤ shots → leb shots 4096 ≡ may_hold_of outcomes shots
  unfolding may_hold_of
  of_shots h some = rw (le-leb outcomes 1024 h, le-leb 1 shots some)

  pub held_counts : may_hold_of outcomes shots ≡ true → (outcomes ≤ 4096) × (shots ≤ 4096)
  unfolding may_hold_of
  held_counts e = let h = header_sound (header_with 1 1 outcomes shots) e refl in (omega (arith, h.few_outcomes), h.few_shots)

  module _ (words out : List ℕ) where
    pub shot_refused : may_hold_of outcomes shots ≡ false → by_shot_reply outcomes shots words out ≡ untouched (answer 3 0) out
    unfolding by_shot_reply
    shot_refused e = rw e

    pub shot_held : may_hold_of outcomes shots ≡ true → by_shot_reply outcomes shots words out ≡ rearranged outcomes shots words out
    unfolding by_shot_reply
    shot_held e = rw e

    pub outcome_refused : may_hold_of outcomes shots ≡ false → by_outcome_reply outcomes shots words out ≡ untouched (answer 3 0) out
    unfolding by_outcome_reply
    outcome_refused e = rw e

    pub outcome_held : may_hold_of outcomes shots ≡ true → by_outcome_reply outcomes shots words out ≡ rearranged shots outcomes words out
    unfolding by_outcome_reply
    outcome_held e = rw e

-- ---- 13

module _ (rows columns : ℕ) (source target : List ℕ) where
  pub too_few : enough_words rows columns source target ≡ false → rearranged rows columns source target ≡ untouched (answer 13 0) target
  unfolding rearranged
  too_few e = rw e

  pub both_enough : enough_words rows columns source target ≡ true → (rows * words_per_row columns ≤ length source) × (columns * words_per_row rows ≤ length target)
  unfolding enough_words
  both_enough e = let both = and_parts _ _ e in (leb-true _ _ both.0, leb-true _ _ both.1)

  pub both_long : rows * words_per_row columns ≤ length source → columns * words_per_row rows ≤ length target
      → rearranged rows columns source target ≡ written (transposed rows columns source) target
  unfolding rearranged enough_words
  both_long h k = rw (le-leb (rows * words_per_row columns) (length source) h, le-leb (columns * words_per_row rows) (length target) k)

  pub length_transposed : length (transposed rows columns source) ≡ columns * words_per_row rows
  unfolding transposed
  length_transposed = length_pack columns rows _

  -- the needed words were written, and the others stay
  pub long_reply : (front : List ℕ) → enough_words rows columns source target ≡ true → front ≡ transposed rows columns source
      → rearranged rows columns source target ≡ record { answered = answer 0 0; words = front ++ drop (columns * words_per_row rows) target }
  long_reply front enough e = let h = both_enough enough in rw (both_long h.0 h.1, e, length_transposed)

pub words_few : (n m : ℕ) → n ≤ 4096 → m ≤ 4096 → n * words_per_row m < 2 ^ 64
words_few n m h k = omega (arith, mul-le-mul_right (words_per_row m) h)
