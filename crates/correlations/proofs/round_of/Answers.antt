-- `correlations::round_of` meets its contract. Assumes nothing.
use Prim.Native.Nat.{ℕ}
use lib.ListN.{length-replicate}
use native.Mathlib.Omega.{arith}
use Rattle.correlations.specs.Laws.Links.{table_empty}
use Rattle.correlations.proofs.round_of.Goals as goal

pub whole_as_slice-round_with-3 : goal.whole_as_slice-round_with-3
whole_as_slice-round_with-3 g c = omega (arith, c.requires.3, c.requires.4)

pub round_with-requires : goal.round_with-requires
round_with-requires g c = (c.requires.0, c.requires.1, rw (length-replicate {A = ℕ} g.row.N 0) c.requires.2, table_empty g.row.N g.row.L (omega (arith, c.requires.3)) c.requires.4)
