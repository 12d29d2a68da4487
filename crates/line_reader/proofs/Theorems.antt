-- Theorems: what is handed out from place to place are the job's lines. Their proofs stand in Laws. Assumes nothing.
use Rattle.std.specs.Prelude.{ℕ, ◌≤◌, ◌<◌, ◌≡◌, refl, List, [], ◌∷◌, length, take, drop}
use Rattle.text.specs.Bytes.{bytes, until, extend, pieces, lines}
use Rattle.line_reader.specs.Reading.{line_from_of, behind, behind_lines, line_numbered, part_numbered}
use Rattle.line_reader.proofs.Laws.Lines as laws

module _ (job : List ℕ) (at : ℕ) where
  -- From a place before the end on, the lines are the one that is handed out there and those from the place behind it on.
  pub hands_out : at < length job → lines (drop at job) ≡ line_from_of job at ∷ lines (drop (behind job at) job)
  hands_out h = laws.hands_out job at h

  -- From the end on there are none, and an empty line is handed out.
  pub hands_out_none : length job ≤ at → (lines (drop at job) ≡ []) × (line_from_of job at ≡ [])
  hands_out_none h = (laws.no_lines job at h, laws.no_line job at h)

  -- Behind n lines the others are left.
  pub skipped : (n : ℕ) → lines (drop (behind_lines n job at) job) ≡ drop n (lines (drop at job))
  skipped n = laws.lines_left n job at

module _ (job : List ℕ) (k : ℕ) where
  -- The bytes of the part that line k has are line k.
  pub part_bytes : take (part_numbered job k).len (drop (part_numbered job k).start job) ≡ line_numbered (lines job) k
  part_bytes = laws.part_bytes job k

  -- The part starts before the job's end just where there is such a line, also an empty one.
  pub part_within : (part_numbered job k).start < length job → (0 < k) × (k ≤ length (lines job))
  part_within h = laws.part_within job k h

  pub part_beyond : 0 < k → length job ≤ (part_numbered job k).start → length (lines job) < k
  part_beyond p h = laws.part_beyond job k p h

-- lines 0 to 4 of a job of three lines, of which the second is empty and the last has no LF
pub numbered_case : line_numbered (lines (bytes "n=1\n\ni=0")) 0 ∷ line_numbered (lines (bytes "n=1\n\ni=0")) 1 ∷ line_numbered (lines (bytes "n=1\n\ni=0")) 2
    ∷ line_numbered (lines (bytes "n=1\n\ni=0")) 3 ∷ line_numbered (lines (bytes "n=1\n\ni=0")) 4 ∷ []
    ≡ [] ∷ bytes "n=1" ∷ [] ∷ bytes "i=0" ∷ [] ∷ []
unfolding bytes until extend pieces line_numbered
numbered_case = refl
