-- Definitions. Outcomes by shot, and the way back: the whole reply, its answer and every lent word that may be written. Assumes nothing.
use Rattle.std.specs.Prelude.{Bool, cond, ◌&&◌, List, ℕ, ◌*◌, leb, length}
use Rattle.job.specs.declared.Answer.{Answer}
use Rattle.job.specs.Job.{answer, accepted}
use Rattle.job.specs.Grammar.{header_with}
use Rattle.job.specs.Checks.{in_range}
use Rattle.job.specs.Reply.{over}
use Rattle.rows.specs.Words.{words_per_row, bit_in, pack}

-- rows and columns exchanged: bit r of row c is bit c of row r. Bits past the last column go nowhere, and those past the last row are 0.
unfoldable pub transposed : ℕ → ℕ → List ℕ → List ℕ
transposed rows columns words = pack columns rows (λ c r. bit_in (words_per_row columns) words r c)

-- 3: counts that a header may not hold
unfoldable pub may_hold_of : ℕ → ℕ → Bool
may_hold_of outcomes shots = in_range (header_with 1 1 outcomes shots)

-- 13: lent words too few, on either side
unfoldable pub enough_words : ℕ → ℕ → List ℕ → List ℕ → Bool
enough_words rows columns source target = leb (rows * words_per_row columns) (length source) && leb (columns * words_per_row rows) (length target)

-- the answer, and the words lent for writing after the call
pub record WordsReply : Type 0 where
  pub answered : Answer
  pub words : List ℕ

-- a refusal writes nothing
abbrev pub untouched : Answer → List ℕ → WordsReply
untouched a target = record { answered = a; words = target }

-- words beyond those that are needed stay
abbrev pub written : List ℕ → List ℕ → WordsReply
written words target = record { answered = accepted; words = over words target }

unfoldable pub rearranged : ℕ → ℕ → List ℕ → List ℕ → WordsReply
rearranged rows columns source target =
    cond (enough_words rows columns source target) (written (transposed rows columns source) target) (untouched (answer 13 0) target)

-- deltas, a row per outcome, become rows by shot: each shot a row of ceil(outcomes/64) words
unfoldable pub by_shot_reply : ℕ → ℕ → List ℕ → List ℕ → WordsReply
by_shot_reply outcomes shots deltas out = cond (may_hold_of outcomes shots) (rearranged outcomes shots deltas out) (untouched (answer 3 0) out)

-- rows by shot become deltas
unfoldable pub by_outcome_reply : ℕ → ℕ → List ℕ → List ℕ → WordsReply
by_outcome_reply outcomes shots rows out = cond (may_hold_of outcomes shots) (rearranged shots outcomes rows out) (untouched (answer 3 0) out)
