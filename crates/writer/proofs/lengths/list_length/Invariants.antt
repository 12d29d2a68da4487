-- `writer::lengths::list_length` meets its contract. Assumes nothing.
use mathlib.Core.Path.{◌≡◌}
use Prim.Native.Nat.{◌+◌, ◌-◌, ◌≤◌}
use lib.ListN.{length, drop}
use Rattle.text.specs.List.{commas}
use Rattle.writer.proofs.lengths.list_length.Given as goal

abbrev pub invariant-loop-n : goal.invariant-loop-n
invariant-loop-n l = (l.n-index ≤ length l.l) × (l.count + length (commas (drop l.n-index l.l)) ≡ length (commas l.l))
