-- `line_writer::new_lines::inject_length` meets its contract. Assumes nothing.
use mathlib.Core.Path.{sym}
use native.Mathlib.Nat.{add-sub_cancel_left}
use lib.Seq.{length-take-le}
use Rattle.line_writer.specs.Laws.Lines.{inject_bytes, few_commas, inject_small}
use native.Mathlib.Omega.{arith}
use Rattle.line_writer.proofs.new_lines.inject_length.Goals as goal

pub slice_bounds-list_length-end : goal.slice_bounds-list_length-end
slice_bounds-list_length-end c = sym (length-take-le _ _ (omega (arith, c.requires.x_few, c.requires.for_members)))

pub list_length-x-requires : goal.list_length-x-requires
list_length-x-requires c = few_commas _ _ c.requires.x_few

pub list_length-z-requires : goal.list_length-z-requires
list_length-z-requires c = rw add-sub_cancel_left (few_commas _ _ c.requires.z_few)

pub digits-requires : goal.digits-requires
digits-requires c = tt

pub overflow_add-result : goal.overflow_add-result
overflow_add-result c = omega (arith, c.digits.ensures, inject_small c.args.shot.0 c.requires)

pub overflow_add-result-2 : goal.overflow_add-result-2
overflow_add-result-2 c = omega (arith, c.digits.ensures, c.list_length-x.ensures, inject_small c.args.shot.0 c.requires)

pub overflow_add-result-3 : goal.overflow_add-result-3
overflow_add-result-3 c = omega (arith, c.digits.ensures, c.list_length-x.ensures, rw add-sub_cancel_left at c.list_length-z.ensures, inject_small c.args.shot.0 c.requires)

pub returns : goal.returns
returns c = rw (inject_bytes, c.digits.ensures, c.list_length-x.ensures, c.list_length-z.ensures, add-sub_cancel_left)
