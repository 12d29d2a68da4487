-- `fault_table::noise_rows::keep_marks` meets its contract. Assumes nothing.
use native.Mathlib.Omega.{arith}
use Prim.Native.Nat.{◌-◌, ◌*◌}
use mathlib.Core.Path.{◌≡◌, sym, ◌∙◌}
use lib.ListN.{length}
use Rattle.fault_table.specs.Laws.Words.{part_size, part_long}
use Rattle.fault_table.specs.Lent.{all_carried}
use Rattle.fault_table.specs.Said.{marks_by}
use Rattle.pauli.specs.Fixed.{as_pauli}
use Rattle.fault_table.specs.Laws.Keeping.{kept_still, kept_full, element_held, kept_element}
use Rattle.fault_table.proofs.noise_rows.keep_marks.Goals as goal

pub is_element-requires : goal.is_element-requires
is_element-requires c = tt

pub returns-then-not-is_element : goal.returns-then-not-is_element
returns-then-not-is_element c = λ q es size k. kept_still k q.written (sym (c.is_element.ensures q.values q.written q.said.says) ∙ c.if-not-is_element.true)

pub returns-then-n-ge-KEPT_ELEMENTS : goal.returns-then-n-ge-KEPT_ELEMENTS
returns-then-n-ge-KEPT_ELEMENTS c = λ q es size k. kept_full k q.written _ (sym (c.if-not-is_element.false) ∙ c.is_element.ensures q.values q.written q.said.says) size c.if-n-ge-KEPT_ELEMENTS.true

pub pauli_at-p-requires : goal.pauli_at-p-requires
pauli_at-p-requires c = element_held c.requires.0 (sym (c.if-not-is_element.false) ∙ c.is_element.ensures _ _ c.requires.0.said.says)

pub overflow_sub-a : goal.overflow_sub-a
overflow_sub-a c = omega arith

pub overflow_sub-a-2 : goal.overflow_sub-a-2
overflow_sub-a-2 c = omega (arith, c.if-n-ge-KEPT_ELEMENTS.false)

pub overflow_mul-a : goal.overflow_mul-a
overflow_mul-a c = omega (arith, c.if-n-ge-KEPT_ELEMENTS.false)

pub overflow_add-end : goal.overflow_add-end
overflow_add-end c = omega (arith, c.if-n-ge-KEPT_ELEMENTS.false, c.requires.1)

pub slice_bounds-put_marks-count : goal.slice_bounds-put_marks-count
slice_bounds-put_marks-count c = omega arith

pub slice_bounds-put_marks-start : goal.slice_bounds-put_marks-start
slice_bounds-put_marks-start c = omega arith

pub slice_bounds-put_marks-end : goal.slice_bounds-put_marks-end
slice_bounds-put_marks-end c = omega (arith, c.if-n-ge-KEPT_ELEMENTS.false, c.requires.1, c.requires.3)

pub put_marks-requires : goal.put_marks-requires
put_marks-requires c = let a = (64 - 1 - c.args.n) * 16 in let long = part_long c.args.kept.now a c.args.groups (omega (arith, c.if-n-ge-KEPT_ELEMENTS.false, c.requires.1, c.requires.3)) in omega (arith, long, c.requires.2)

pub returns : goal.returns
returns c =
    let x = c.args in
    let p = c.requires in
    let t = c.if-n-ge-KEPT_ELEMENTS.false in
    let a = (64 - 1 - x.n) * 16 in
    let here : a ≡ (63 - x.n) * 16 = omega arith in
    let long = part_long x.kept.now a x.groups (omega (arith, t, p.1, p.3)) in
    let part = c.put_marks.new.marks in
    let size : length part ≡ x.groups = c.put_marks.auto.marks ∙ long in
    let is : part ≡ marks_by (all_carried x.groups x.state.now) (as_pauli c.pauli_at-p.result) = rw long at c.put_marks.ensures in
    rw (part_size a x.groups, here)
    (λ q es many k. kept_element q (sym (c.if-not-is_element.false) ∙ c.is_element.ensures q.values q.written q.said.says) k x.n part many t p.1 p.3 size c.pauli_at-p.ensures is)
