-- `row_loops::xor_twice` meets its contract: after j turns the first j words of each run have been added.
use mathlib.Core.Path.{◌≡◌}
use Prim.Native.Nat.{◌≤◌}
use lib.ListN.{length}
use Rattle.rows.specs.Overwrite.{xored}
use Rattle.row_loops.proofs.xor_twice.Given as goal

abbrev pub invariant-loop-j : goal.invariant-loop-j
invariant-loop-j l = (l.dst ≡ xored l.second l.from l.j l.src (xored l.first l.from l.j l.src l.initial.dst)) × (length l.dst ≡ length l.initial.dst) × (l.j ≤ l.n)
