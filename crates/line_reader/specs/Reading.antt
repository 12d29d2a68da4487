-- The lines of a job, handed out one after another. Definitions. Assumes nothing.
use Rattle.std.specs.Prelude.{ℕ, zero, suc, ◌+◌, cond, List, [], ltb, length, get_or, take, drop}
use Rattle.text.specs.Bytes.{LF, until}
use Rattle.line_reader.specs.declared.LinePart.{LinePart}

-- the line that begins at a place: the bytes up to the next LF, or to the end where there is none
unfoldable pub line_from_of : List ℕ → ℕ → List ℕ
line_from_of job at = take (until LF (drop at job)) (drop at job)

-- the place of the LF that ends it, or the end
abbrev pub end_from : List ℕ → ℕ → ℕ
end_from job at = at + until LF (drop at job)

-- the place behind the line and its LF, where the next line begins: the job's end behind the last
unfoldable pub behind : List ℕ → ℕ → ℕ
behind job at = cond (ltb (end_from job at) (length job)) (end_from job at + 1) (length job)

-- the place behind so many lines
unfoldable pub behind_lines : ℕ → List ℕ → ℕ → ℕ
behind_lines zero job at = at
behind_lines (suc n) job at = behind_lines n job (behind job at)

-- the line that has a number, of which the first is 1: empty where there is none
unfoldable pub line_numbered : List (List ℕ) → ℕ → List ℕ
line_numbered ls zero = []
line_numbered ls (suc n) = get_or ls n []

-- where that line lies in the job: at the job's end where there is none
unfoldable pub part_numbered : List ℕ → ℕ → LinePart
part_numbered job zero = record { start = length job; len = 0 }
part_numbered job (suc n) = record { start = behind_lines n job 0; len = length (line_from_of job (behind_lines n job 0)) }
