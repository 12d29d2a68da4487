-- `pauli::sets::set_of` meets its contract. The loop's invariant: the numbers so far have been put in.
use Prim.Native.Nat.{◌≤◌}
use mathlib.Core.Path.{◌≡◌}
use lib.ListN.{length, take}
use Rattle.pauli.specs.Bits.{members}
use Rattle.pauli.specs.Fixed.{in_set}
use Rattle.pauli.proofs.sets.set_of.Given as goal

abbrev pub invariant-loop-n : goal.invariant-loop-n
invariant-loop-n g l = (l.n-index ≤ length l.numbers) × (in_set l.set ≡ members (take l.n-index l.numbers))
