-- `numbers::known::known_hex` meets its contract. Assumes nothing.
use Prim.Native.Nat.{◌^◌, ◌≤◌, ◌<◌}
use mathlib.Core.Path.{◌≡◌}
use mathlib.Core.Bool.{true}
use lib.ListN.{drop}
use Rattle.text.specs.Number.{all_hex_of, hex_from}
use Rattle.numbers.proofs.known.known_hex.Given as goal

abbrev pub invariant-loop-i : goal.invariant-loop-i
invariant-loop-i l = (l.i ≤ 16) × (l.v < 16 ^ l.i) × (all_hex_of (drop l.i l.s) ≡ true) × (hex_from 0 l.s ≡ hex_from l.v (drop l.i l.s))
