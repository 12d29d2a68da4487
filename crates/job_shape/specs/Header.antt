-- Where the line behind the header begins. Definitions. Assumes nothing.
use Rattle.std.specs.Prelude.{List, ℕ, ◌+◌}
use Rattle.text.specs.Bytes.{LF, until}

-- behind the first LF
abbrev pub behind_header_of : List ℕ → ℕ
behind_header_of job = until LF job + 1
