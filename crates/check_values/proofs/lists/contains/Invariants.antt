-- `check_values::lists::contains` meets its contract. Assumes nothing.
use mathlib.Core.Path.{◌≡◌}
use Prim.Native.Nat.{◌≤◌}
use lib.ListN.{length, drop}
use Rattle.pauli.specs.Bits.{members as among}
use Rattle.check_values.proofs.lists.contains.Given as goal

abbrev pub invariant-loop-m : goal.invariant-loop-m
invariant-loop-m l = (l.m-index ≤ length l.members) × (among l.members l.n ≡ among (drop l.m-index l.members) l.n)
