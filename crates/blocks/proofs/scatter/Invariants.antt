-- `blocks::scatter` meets its contract: after j turns the first j words are in the list.
use mathlib.Core.Path.{◌≡◌}
use Prim.Native.Nat.{◌≤◌}
use lib.ListN.{length, get_or}
use Rattle.blocks.specs.Strided.{scattered}
use Rattle.blocks.proofs.scatter.Given as goal

abbrev pub invariant-loop-j : goal.invariant-loop-j
invariant-loop-j l = (l.dst ≡ scattered l.at l.step l.j (λ k. get_or l.block k 0) l.initial.dst) × (length l.dst ≡ length l.initial.dst) × (l.j ≤ l.n)
