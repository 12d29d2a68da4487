-- `row_loops::xor_four` meets its contract: after j turns the first j words of each run have been added.
use mathlib.Core.Path.{◌≡◌}
use Prim.Native.Nat.{◌≤◌}
use lib.ListN.{length}
use Rattle.rows.specs.Overwrite.{xored}
use Rattle.row_loops.proofs.xor_four.Given as goal

abbrev pub invariant-loop-j : goal.invariant-loop-j
invariant-loop-j l = (l.dst ≡ xored l.at l.fourth l.j l.src (xored l.at l.third l.j l.src (xored l.at l.second l.j l.src (xored l.at l.first l.j l.src l.initial.dst)))) × (length l.dst ≡ length l.initial.dst) × (l.j ≤ l.n)
