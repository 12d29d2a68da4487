-- `share_marks::each_within` meets its contract. Assumes nothing.
use mathlib.Core.Path.{◌≡◌}
use Prim.Native.Nat.{◌-◌}
use lib.ListN.{length, drop}
use Rattle.shares.specs.Shares.{each_within_of}
use Rattle.share_marks.proofs.each_within.Given as goal

abbrev pub invariant-loop-caller : goal.invariant-loop-caller
invariant-loop-caller l = each_within_of l.shares l.marks ≡ each_within_of (drop l.caller l.shares) (drop l.caller l.marks)
