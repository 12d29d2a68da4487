-- `blocks::cross` meets its contract: after i turns the first i pairs have changed places.
use mathlib.Core.Path.{◌≡◌}
use Prim.Native.Nat.{◌≤◌}
use lib.ListN.{length}
use Rattle.blocks.specs.Exchange.{crossed}
use Rattle.blocks.proofs.cross.Given as goal

abbrev pub invariant-loop-i : goal.invariant-loop-i
invariant-loop-i l = (l.block ≡ crossed l.h l.mask l.at l.i l.initial.block) × (length l.block ≡ length l.initial.block) × (l.i ≤ l.h)
