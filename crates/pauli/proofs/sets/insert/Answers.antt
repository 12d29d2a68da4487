-- `pauli::sets::insert` meets its contract.
use Prim.Native.Nat.{◌%◌}
use native.Mathlib.Omega.{arith}
use Rattle.pauli.proofs.Laws.Word.{one_shl}
use Rattle.pauli.proofs.Laws.Set.{in_inserted}
use borrow.Author.Rules.{rules}
use Rattle.pauli.proofs.sets.insert.Goals as goal

pub returns : goal.returns
returns c = (search rules, rw (one_shl (c.args.n % 64) (omega arith)) (in_inserted c.args.set.now c.args.n c.requires))
