-- `pauli::Pauli::add_at` meets its contract.
use mathlib.Core.Path.{◌≡◌}
use native.Mathlib.Omega.{arith}
use lib.ListN.{length}
use Rattle.pauli.specs.Pauli.{added_at}
use Rattle.pauli.specs.Fixed.{as_pauli}
use Rattle.pauli.proofs.Laws.Gates.{pauli_path}
use Rattle.pauli.proofs.Laws.Set.{bit_added}
use borrow.Author.Rules.{rules}
use Rattle.pauli.proofs.Pauli.add_at.Goals as goal

pub returns : goal.returns
unfolding added_at as_pauli
returns c =
    let long-x : length c.args.self.x ≡ 4 = search rules in
    let long-z : length c.args.self.z ≡ 4 = search rules in
    pauli_path
    (bit_added c.args.self.x c.args.q.0 _ (omega (arith, long-x, c.requires)))
    (bit_added c.args.self.z c.args.q.0 _ (omega (arith, long-z, c.requires)))
