-- Whether so many words are lent as a run needs. Definitions. Assumes nothing.
use Rattle.std.specs.Prelude.{◌*◌, Bool, ◌&&◌, leb}
use Rattle.job.specs.declared.Header.{Header}
use Rattle.rows.specs.declared.Shape.{Shape}
use Rattle.job_shape.specs.Tested.{shape_for}
use Rattle.job_shape.specs.declared.lent_words.Lengths.{Lengths}

-- for each qubit a row of the X and of the Z part, for each outcome a row of the deltas and of the noiseless bits, and a total
unfoldable pub suffice : Shape → Lengths → Bool
suffice shape lent =
    leb (shape.qubits * shape.width) lent.x
    && leb (shape.qubits * shape.width) lent.z
    && leb (shape.outcomes * shape.width) lent.deltas
    && leb shape.outcomes lent.totals
    && leb (shape.outcomes * shape.width) lent.noiseless

-- for a header
abbrev pub enough_lent : Header → Lengths → Bool
enough_lent h lent = suffice (shape_for h) lent
