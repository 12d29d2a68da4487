-- `row_loops::flip_bit` meets its contract.
use Prim.Native.Nat.{◌%◌}
use native.Mathlib.Omega.{arith}
use Rattle.rows.specs.Overwrite.{flipped}
use Rattle.pauli.proofs.Laws.Word.{one_shl}
use Rattle.row_loops.proofs.flip_bit.Goals as goal

pub returns : goal.returns
unfolding flipped
returns c = rw (one_shl (c.args.shot.0 % 64) (omega arith))
