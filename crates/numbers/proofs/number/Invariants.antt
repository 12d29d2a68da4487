-- `numbers::number` meets its contract. Assumes nothing.
use Prim.Native.Nat.{◌^◌, ◌≤◌, ◌<◌}
use mathlib.Core.Path.{◌≡◌}
use lib.ListN.{length, drop}
use Rattle.text.specs.Number.{all_decimal, decimal_from}
use Rattle.numbers.proofs.number.Given as goal

abbrev pub invariant-loop-i : goal.invariant-loop-i
invariant-loop-i l =
    (l.i ≤ length l.s)
    × (l.v < 2 ^ 64)
    × (all_decimal l.s ≡ all_decimal (drop l.i l.s))
    × (decimal_from 0 l.s ≡ decimal_from l.v (drop l.i l.s))
