-- Definitions. The stream of words that a seed gives (document 02, note 7): Marsaglia's 64-bit xorshift; and the whole reply of the call that fills a lent
-- list with it. Assumes nothing.
use Rattle.std.specs.Prelude.{cond, List, [], ◌∷◌, ℕ, zero, suc, ◌*◌, ◌/◌, ◌%◌, ◌^◌, eqb, length}
use Rattle.std.specs.Int.Bits.{bit_xor}
use Rattle.job.specs.declared.Answer.{Answer}
use Rattle.job.specs.Job.{answer, accepted}

-- the exclusive or of a state with itself shifted left, in 64 bits, and shifted right
unfoldable pub left : ℕ → ℕ → ℕ
left k state = bit_xor state (state * 2 ^ k % 2 ^ 64)

unfoldable pub right : ℕ → ℕ → ℕ
right k state = bit_xor state (state / 2 ^ k)

-- the next state, which is also the word
unfoldable pub step : ℕ → ℕ
step state = left 17 (right 7 (left 13 state))

-- a state after so many steps
unfoldable pub stepped : ℕ → ℕ → ℕ
stepped zero state = state
stepped (suc n) state = step (stepped n state)

-- so many words from a state on; the state itself is none of them
unfoldable pub words_from : ℕ → ℕ → List ℕ
words_from zero state = []
words_from (suc n) state = step state ∷ words_from n (step state)

-- the answer, and the lent words after the call
pub record FillReply : Type 0 where
  pub answered : Answer
  pub words : List ℕ

-- 22: the seed is zero; no word is written. Else every lent word is.
unfoldable pub fill_reply : ℕ → List ℕ → FillReply
fill_reply seed words =
    cond (eqb seed 0) (record { answered = answer 22 0; words = words }) (record { answered = accepted; words = words_from (length words) seed })
