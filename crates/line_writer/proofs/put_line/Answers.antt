use native.Mathlib.Omega.{arith}
use mathlib.Core.Path.{sym, ◌∙◌}
use borrow.Author.Tests.{not-true, not-false}
use Rattle.writer.specs.Laws.Placing.{rest_length}
use Rattle.line_writer.specs.Laws.Line.{nothing_put, all_put, literal_fits, literal_put, list_fits, list_among, list_put, number_fits, number_among, number_put}
use Rattle.line_writer.proofs.put_line.Goals as goal

pub loop-t-init : goal.loop-t-init
loop-t-init c = nothing_put

pub put_byte-next-requires : goal.put_byte-next-requires
put_byte-next-requires c = omega (arith, c.requires.1, literal_fits c.loop-t.invariant c.loop-t-test.true (sym c.is_letter.ensures ∙ c.if-not-is_letter.true))

pub loop-t-preserved-then-not-is_letter : goal.loop-t-preserved-then-not-is_letter
loop-t-preserved-then-not-is_letter c = literal_put c.loop-t.invariant c.loop-t-test.true (sym c.is_letter.ensures ∙ c.if-not-is_letter.true) c.put_byte-next.ensures

pub overflow_mul-start : goal.overflow_mul-start
overflow_mul-start c = omega (arith, c.requires.0.for_members _ (list_among c.loop-t.invariant c.loop-t-test.true (sym c.is_letter.ensures ∙ c.if-not-is_letter.false) (sym c.is_list.ensures ∙ c.if-is_list.true)))

pub offset_bounds-counts-l : goal.offset_bounds-counts-l
offset_bounds-counts-l c = omega (arith, c.requires.0.for_lists, list_among c.loop-t.invariant c.loop-t-test.true (sym c.is_letter.ensures ∙ c.if-not-is_letter.false) (sym c.is_list.ensures ∙ c.if-is_list.true))

pub bounds-counts-l : goal.bounds-counts-l
bounds-counts-l c = omega (arith, c.requires.0.for_lists, list_among c.loop-t.invariant c.loop-t-test.true (sym c.is_letter.ensures ∙ c.if-not-is_letter.false) (sym c.is_list.ensures ∙ c.if-is_list.true))

pub overflow_add-end : goal.overflow_add-end
overflow_add-end c = omega (arith, c.requires.0.for_members _ (list_among c.loop-t.invariant c.loop-t-test.true (sym c.is_letter.ensures ∙ c.if-not-is_letter.false) (sym c.is_list.ensures ∙ c.if-is_list.true)))

pub offset_bounds-members-start : goal.offset_bounds-members-start
offset_bounds-members-start c = omega (arith, c.requires.0.for_members _ (list_among c.loop-t.invariant c.loop-t-test.true (sym c.is_letter.ensures ∙ c.if-not-is_letter.false) (sym c.is_list.ensures ∙ c.if-is_list.true)))

pub slice_bounds-put_list-count : goal.slice_bounds-put_list-count
slice_bounds-put_list-count c = omega arith

pub slice_bounds-put_list-start : goal.slice_bounds-put_list-start
slice_bounds-put_list-start c = omega arith

pub slice_bounds-put_list-end : goal.slice_bounds-put_list-end
slice_bounds-put_list-end c = omega (arith, c.requires.0.for_members _ (list_among c.loop-t.invariant c.loop-t-test.true (sym c.is_letter.ensures ∙ c.if-not-is_letter.false) (sym c.is_list.ensures ∙ c.if-is_list.true)))

pub put_list-next-requires : goal.put_list-next-requires
put_list-next-requires c = omega (arith, c.requires.1, list_fits c.loop-t.invariant c.loop-t-test.true (sym c.is_letter.ensures ∙ c.if-not-is_letter.false) (sym c.is_list.ensures ∙ c.if-is_list.true))

pub overflow_add-l : goal.overflow_add-l
overflow_add-l c = omega (arith, c.requires.0.for_lists, list_among c.loop-t.invariant c.loop-t-test.true (sym c.is_letter.ensures ∙ c.if-not-is_letter.false) (sym c.is_list.ensures ∙ c.if-is_list.true))

pub loop-t-preserved-then-is_list : goal.loop-t-preserved-then-is_list
loop-t-preserved-then-is_list c = list_put c.loop-t.invariant c.loop-t-test.true (sym c.is_letter.ensures ∙ c.if-not-is_letter.false) (sym c.is_list.ensures ∙ c.if-is_list.true) c.put_list-next.ensures

pub offset_bounds-numbers-n : goal.offset_bounds-numbers-n
offset_bounds-numbers-n c = omega (arith, c.requires.0.for_numbers, number_among c.loop-t.invariant c.loop-t-test.true (sym c.is_letter.ensures ∙ c.if-not-is_letter.false) (sym c.is_list.ensures ∙ c.if-is_list.false))

pub bounds-numbers-n : goal.bounds-numbers-n
bounds-numbers-n c = omega (arith, c.requires.0.for_numbers, number_among c.loop-t.invariant c.loop-t-test.true (sym c.is_letter.ensures ∙ c.if-not-is_letter.false) (sym c.is_list.ensures ∙ c.if-is_list.false))

pub put_number_by-next-requires : goal.put_number_by-next-requires
put_number_by-next-requires c = omega (arith, c.requires.1, number_fits c.loop-t.invariant c.loop-t-test.true (sym c.is_letter.ensures ∙ c.if-not-is_letter.false) (sym c.is_list.ensures ∙ c.if-is_list.false))

pub overflow_add-n : goal.overflow_add-n
overflow_add-n c = omega (arith, c.requires.0.for_numbers, number_among c.loop-t.invariant c.loop-t-test.true (sym c.is_letter.ensures ∙ c.if-not-is_letter.false) (sym c.is_list.ensures ∙ c.if-is_list.false))

pub loop-t-preserved : goal.loop-t-preserved
loop-t-preserved c = number_put c.loop-t.invariant c.loop-t-test.true (sym c.is_letter.ensures ∙ c.if-not-is_letter.false) (sym c.is_list.ensures ∙ c.if-is_list.false) c.put_number_by-next.ensures

pub shape_of-out : goal.shape_of-out
shape_of-out c = rest_length c.loop-t.invariant.rest

pub returns : goal.returns
returns c = all_put c.loop-t.invariant c.loop-t-test.false
