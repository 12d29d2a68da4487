-- `faults::elements::keep_element` meets its contract.
use Rattle.faults.specs.Laws.Elements.{kept_size, kept_by, copy_length}
use lib.ListN.{length-set}
use Prim.Native.Nat.{◌+◌}
use native.Mathlib.Omega.{arith}
use Rattle.faults.proofs.elements.keep_element.Goals as goal

pub bounds-elements-start-2 : goal.bounds-elements-start-2
bounds-elements-start-2 c = simp length-set (omega arith)

pub copy-requires : goal.copy-requires
copy-requires c = (simp length-set (omega (arith, c.kept_count.ensures)), omega (arith, c.kept_count.ensures, kept_size c.args.values.words.now c.args.first c.kept.ensures c.args.values.whole (omega arith)))

pub copy-requires-2 : goal.copy-requires-2
copy-requires-2 c =
    let long = simp length-set at (copy_length _ _ _ _ _ _ c.copy.ensures) in
    (omega (arith, long, c.kept_count-2.ensures), omega (arith, c.kept_count-2.ensures, kept_size c.args.values.words.now (c.args.first + 1) c.kept-2.ensures c.args.values.whole (omega arith)))

pub returns : goal.returns
returns c =
    kept_by _ _ _ _ c.requires.0 c.count.ensures c.count-2.ensures c.kept.ensures c.kept-2.ensures c.kept_count.ensures c.kept_count-2.ensures c.copy.ensures c.copy-2.ensures

pub shape_of-elements : goal.shape_of-elements
shape_of-elements c = (returns c).long
