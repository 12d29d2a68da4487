-- `fault_table::groups_back::keep` meets its contract. Assumes nothing.
use mathlib.Core.Path.{◌≡◌}
use lib.ListN.{length}
use Rattle.pauli.specs.Fixed.{as_pauli}
use Rattle.fault_table.specs.Laws.Back.{kept_in}
use borrow.Author.Rules.{rules}
use Rattle.fault_table.proofs.groups_back.keep.Goals as goal

pub returns : goal.returns
unfolding as_pauli
returns c =
    let long-x : length c.args.b.x ≡ 4 = search rules in
    let long-z : length c.args.b.z ≡ 4 = search rules in
    rw (c.copy_from_slice.ensures.after, c.copy_from_slice-2.ensures.after) (kept_in c.args.group.now c.args.b.x c.args.b.z long-x long-z)
