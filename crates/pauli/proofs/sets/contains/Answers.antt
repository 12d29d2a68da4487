-- `pauli::sets::contains` meets its contract.
use Prim.Native.Nat.{◌/◌, ◌≤◌}
use lib.ListN.{length, get_or-eq_default}
use Rattle.pauli.specs.Bits.{bit}
use Rattle.pauli.specs.Fixed.{in_set}
use native.Mathlib.Omega.{arith}
use mathlib.Core.Path.{sym}
use Rattle.std.proofs.lemmas.Bool.{le-ltb}
use Rattle.pauli.proofs.Laws.Word.{bit_zero}
use borrow.Author.Rules.{rules}
use Rattle.pauli.proofs.sets.contains.Goals as goal

pub returns-then-k-set : goal.returns-then-k-set
unfolding in_set bit
returns-then-k-set c = search rules

pub returns-else-k-set : goal.returns-else-k-set
unfolding in_set
returns-else-k-set c =
    let past : length c.args.set.now ≤ c.args.n / 64 = omega (arith, c.if-k-set.false) in
    rw (le-ltb _ _ past, get_or-eq_default c.args.set.now 0 past) (sym (bit_zero _))
