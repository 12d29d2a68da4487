-- `choice::choose_uniform` meets its contract. The invariant: the choice from here on is the choice from the start.
use mathlib.Core.Path.{◌≡◌}
use mathlib.Core.List.{◌++◌}
use Prim.Native.Nat.{◌-◌}
use lib.ListN.{length, drop}
use Rattle.draws.specs.Draws.{bounded}
use Rattle.choice.proofs.choose_uniform.Given as goal

abbrev pub invariant-loop-word : goal.invariant-loop-word
invariant-loop-word l = bounded l.bound (drop l.i (l.words ++ l.more)) ≡ bounded l.bound (drop l.at (l.words ++ l.more))

abbrev pub decreases-loop-word : goal.decreases-loop-word
decreases-loop-word l = length (l.words ++ l.more) - l.i
