-- Definitions: a made job that was put as far as its text may go. Assumes nothing.
use Rattle.std.specs.Prelude.{List, ◌∷◌, ℕ, ◌≤◌, ◌<◌, length}
use Rattle.text.specs.Bytes.{unlines}
use Rattle.job.specs.declared.Header.{Header}
use Rattle.writer.specs.Placed.{Puts}
use Rattle.made.specs.Made.{header_text, made_texts}

-- the text of a job with this header and so many lines, from a state of the stream
abbrev pub job_text : Header → ℕ → ℕ → List ℕ
job_text h lines state = unlines (header_text h ∷ made_texts h lines 0 state)

-- the place behind what was put is past the bytes that a job may have, and the text is so too; or the whole text was put
pub record JobPut (h : Header) (lines state : ℕ) (out after : List ℕ) (r : ℕ) : Type 0 where
  pub large : 1048576 < r → 1048576 < length (job_text h lines state)
  pub whole : r ≤ 1048576 → Puts 0 (job_text h lines state) out after r
