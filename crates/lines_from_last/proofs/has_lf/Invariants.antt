-- `lines_from_last::has_lf` meets its contract. Assumes nothing.
use Prim.Native.Nat.{◌+◌, ◌-◌, ◌≤◌}
use mathlib.Core.Path.{◌≡◌}
use mathlib.Core.Bool.{false}
use Rattle.lines_from_last.specs.Line.{NoLf}
use Rattle.lines_from_last.proofs.has_lf.Given as goal

abbrev pub invariant-loop-k : goal.invariant-loop-k
invariant-loop-k l = (l.k ≤ 8) × (l.found ≡ false → NoLf l.job l.from (l.from + l.k))
