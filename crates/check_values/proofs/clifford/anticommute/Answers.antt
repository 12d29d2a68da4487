-- `check_values::clifford::anticommute` meets its contract. Assumes nothing.
use native.Mathlib.Omega.{arith}
use lib.Pow.{pow_pos}
use Rattle.pauli.proofs.Laws.Word.{one_shl}
use Rattle.check_values.specs.Laws.Pairs.{overlap_odd}
use Rattle.check_values.proofs.clifford.anticommute.Goals as goal

pub overflow_sub-low : goal.overflow_sub-low
overflow_sub-low c = rw (one_shl c.args.k (omega arith)) (pow_pos _)

pub returns : goal.returns
returns c = overlap_odd c.args.a c.args.b c.args.k (omega arith)
