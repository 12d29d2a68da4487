-- `row_loops::xor_words` meets its contract: after j turns the first j words of the run have been written, and the word that a turn reads is as it was at entry.
use mathlib.Core.Path.{◌≡◌}
use Prim.Native.Nat.{◌≤◌}
use lib.ListN.{length}
use Rattle.rows.specs.Overwrite.{xored}
use Rattle.row_loops.proofs.xor_words.Given as goal

abbrev pub invariant-loop-j : goal.invariant-loop-j
invariant-loop-j l = (l.dst ≡ xored l.at l.from l.j l.src l.initial.dst) × (length l.dst ≡ length l.initial.dst) × (l.j ≤ l.n)
