-- What the code's tests take the lines before a line to say. Definitions. Assumes nothing.
use Rattle.std.specs.Prelude.{Bool, true, false, Float}
use Rattle.std.proofs.Math.Option.{Option, none, some}
use Rattle.job.specs.Checks.{Context}
use Rattle.check_values.specs.declared.context.Context.{Context as Known}

-- the sum of the weights so far, where the elements have weights
unfoldable pub total_if : Bool → Float → Option Float
total_if true t = some t
total_if false t = none

-- what the code's struct says of the lines before
unfoldable pub context_of : Known → Context
context_of c =
    record { begun = c.begun; header = c.header; recorded = c.recorded; due = c.due; total = total_if c.weighted c.total }
