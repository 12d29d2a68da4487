-- `numbers::rising::is_rising` meets its contract. Assumes nothing.
use Prim.Native.Nat.{◌-◌, ◌<◌}
use mathlib.Core.Path.{◌≡◌}
use lib.ListN.{drop}
use Rattle.text.specs.List.{is_rising_of}
use Rattle.numbers.proofs.rising.is_rising.Given as goal

abbrev pub invariant-loop-i : goal.invariant-loop-i
invariant-loop-i l = (0 < l.i) × (is_rising_of l.numbers ≡ is_rising_of (drop (l.i - 1) l.numbers))
