-- `lines_back::carry::fetch` meets its contract. Assumes nothing.
use Prim.Native.Nat.{◌≤◌}
use lib.ListN.{length, get_or}
use Rattle.pauli.specs.Bits.{bit}
use Rattle.lines_back.specs.Packed.{Packed}
use Rattle.lines_back.proofs.carry.fetch.Given as goal

abbrev pub invariant-loop-i : goal.invariant-loop-i
invariant-loop-i l = (l.i ≤ length l.places) × Packed l.i (λ j. bit l.w (get_or l.places j 0)) l.r
