-- Theorems. What by shot means bit by bit, and that going there and back restores the words of each row whose bits past the last shot, or outcome,
-- are 0. Assumes nothing.
use Rattle.std.specs.Prelude.{◌≡◌, true, false, List, ℕ, ◌*◌, ◌/◌, ◌^◌, ◌<◌, ◌≤◌, length, get_or, take, drop}
use Rattle.std.proofs.Common.{sym, ◌∙◌, le-leb}
use Rattle.job.specs.Checks.{max_outcomes, max_shots}
use Rattle.rows.specs.Words.{words_per_row, bit_in}
use Rattle.by_shot.specs.Reply.{transposed, may_hold_of, written, by_shot_reply, by_outcome_reply}
use Rattle.by_shot.specs.Laws.Reply.{of_shots, shot_held, outcome_held, both_long}
use Rattle.by_shot.specs.Laws.Twice.{over_in, over_past, over_long, row_twice}

-- counts that a header may hold, and words enough for the deltas and for the rows by shot
pub record Lent (outcomes shots : ℕ) (deltas rows : List ℕ) : Type 0 where
  pub few_outcomes : outcomes ≤ max_outcomes
  pub some_shots : 1 ≤ shots
  pub few_shots : shots ≤ max_shots
  pub enough_deltas : outcomes * words_per_row shots ≤ length deltas
  pub enough_rows : shots * words_per_row outcomes ≤ length rows

module _ {outcomes shots : ℕ} {deltas rows : List ℕ} (lent : Lent outcomes shots deltas rows) where
  held : may_hold_of outcomes shots ≡ true
  held = sym (of_shots outcomes shots lent.few_outcomes lent.some_shots) ∙ le-leb shots 4096 lent.few_shots

  -- such a call is accepted, and writes all of the other side
  pub by_shot_written : by_shot_reply outcomes shots deltas rows ≡ written (transposed outcomes shots deltas) rows
  by_shot_written = shot_held outcomes shots deltas rows held ∙ both_long outcomes shots deltas rows lent.enough_deltas lent.enough_rows

  pub by_outcome_written : by_outcome_reply outcomes shots rows deltas ≡ written (transposed shots outcomes rows) deltas
  by_outcome_written = outcome_held outcomes shots rows deltas held ∙ both_long shots outcomes rows deltas lent.enough_rows lent.enough_deltas

  module _ (o s : ℕ) (hs : s < shots) where
    -- outcome o of shot s is bit o of row s
    pub by_shot_bit : o < outcomes → bit_in (words_per_row outcomes) (by_shot_reply outcomes shots deltas rows).words s o ≡ bit_in (words_per_row shots) deltas o s
    by_shot_bit ho = rw by_shot_written (over_in outcomes shots deltas rows s o hs ho)

    -- padding is 0
    pub by_shot_padding : outcomes ≤ o → o / 64 < words_per_row outcomes → bit_in (words_per_row outcomes) (by_shot_reply outcomes shots deltas rows).words s o ≡ false
    by_shot_padding k ho = rw by_shot_written (over_past outcomes shots deltas rows s o hs k ho)

-- ---- there and back

-- the words of row r, of w words a row
abbrev pub row_of : ℕ → List ℕ → ℕ → List ℕ
row_of w words r = take w (drop (r * w) words)

-- Lent words are below 2 ^ 64, which is asked of the source.
module _ {outcomes shots : ℕ} {deltas rows : List ℕ} (lent : Lent outcomes shots deltas rows) where
  -- Going there and back restores every row whose bits past the last shot are zero, for each number of outcomes and shots, word for word.
  pub there_and_back : ((i : ℕ) → get_or deltas i 0 < 2 ^ 64) → (back : List ℕ) → outcomes * words_per_row shots ≤ length back → (o : ℕ) → o < outcomes
      → ((s : ℕ) → shots ≤ s → s / 64 < words_per_row shots → bit_in (words_per_row shots) deltas o s ≡ false)
      → row_of (words_per_row shots) (by_outcome_reply outcomes shots (by_shot_reply outcomes shots deltas rows).words back).words o
      ≡ row_of (words_per_row shots) deltas o
  there_and_back fits back enough o ho past =
      let again : Lent outcomes shots back (written (transposed outcomes shots deltas) rows).words =
      record {
        few_outcomes = lent.few_outcomes;
        some_shots = lent.some_shots;
        few_shots = lent.few_shots;
        enough_deltas = enough;
        enough_rows = over_long outcomes shots deltas rows;
      } in
      rw (by_shot_written lent, by_outcome_written again) (row_twice outcomes shots deltas rows back lent.enough_deltas fits o ho past)

  -- The other way round: every row of a shot whose bits past the last outcome are zero.
  pub back_and_there : ((i : ℕ) → get_or rows i 0 < 2 ^ 64) → (again : List ℕ) → shots * words_per_row outcomes ≤ length again → (s : ℕ) → s < shots
      → ((o : ℕ) → outcomes ≤ o → o / 64 < words_per_row outcomes → bit_in (words_per_row outcomes) rows s o ≡ false)
      → row_of (words_per_row outcomes) (by_shot_reply outcomes shots (by_outcome_reply outcomes shots rows deltas).words again).words s
      ≡ row_of (words_per_row outcomes) rows s
  back_and_there fits again enough s hs past =
      let there : Lent outcomes shots (written (transposed shots outcomes rows) deltas).words again =
      record {
        few_outcomes = lent.few_outcomes;
        some_shots = lent.some_shots;
        few_shots = lent.few_shots;
        enough_deltas = over_long shots outcomes rows deltas;
        enough_rows = enough;
      } in
      rw (by_outcome_written lent, by_shot_written there) (row_twice shots outcomes rows deltas again lent.enough_rows fits s hs past)
