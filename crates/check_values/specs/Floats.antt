-- A float that passed its test. Definitions. Assumes nothing.
use Rattle.std.specs.Prelude.{Bool, true, false, Float, Option, Some, None}

-- x where the test passes
unfoldable pub only_if : Bool → Float → Option Float
only_if true x = Some x
only_if false x = None
