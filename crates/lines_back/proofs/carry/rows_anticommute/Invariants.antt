-- `lines_back::carry::rows_anticommute` meets its contract. Assumes nothing.
use Prim.Native.Nat.{◌+◌, ◌≤◌}
use Rattle.pauli.specs.Pauli.{anticommutes}
use Rattle.job.specs.Clifford.{table_of, row_over}
use Rattle.lines_back.specs.Packed.{Packed, in_words}
use Rattle.lines_back.proofs.carry.rows_anticommute.Given as goal

abbrev pub invariant-loop-i : goal.invariant-loop-i
invariant-loop-i l = (l.i ≤ l.k) × Packed l.i (λ j. anticommutes l.k (in_words l.x l.z) (row_over l.k (table_of l.table) (l.from + j))) l.w
