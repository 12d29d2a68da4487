-- `fault_table::noise_rows::put_element_row` meets its contract. Assumes nothing.
use native.Mathlib.Omega.{arith}
use Prim.Native.Nat.{ℕ}
use mathlib.Core.Path.{◌≡◌, sym, ap, ◌∙◌}
use lib.ListN.{length, drop, replicate, length-append, length-drop}
use lib.Seq.{take_at, length-take-le}
use Rattle.fault_table.specs.Lent.{all_carried}
use Rattle.fault_table.specs.Said.{marks_by}
use Rattle.pauli.specs.Fixed.{as_pauli}
use Rattle.fault_table.proofs.noise_rows.put_element_row.Goals as goal

pub slice_bounds-marks-end : goal.slice_bounds-marks-end
slice_bounds-marks-end c = omega (arith, c.requires.0)

pub slice_bounds-put_marks-end : goal.slice_bounds-put_marks-end
slice_bounds-put_marks-end c = sym (length-take-le c.args.groups (replicate 16 0) (omega (arith, c.requires.0)))

pub put_marks-requires : goal.put_marks-requires
put_marks-requires c = let long = length-take-le c.args.groups (replicate {A = ℕ} 16 0) (omega (arith, c.requires.0)) in rw long c.requires.1

pub slice_bounds-marks-end-2 : goal.slice_bounds-marks-end-2
slice_bounds-marks-end-2 c =
    let a = c.args in
    let p = c.requires in
    let zeros = replicate {A = ℕ} 16 0 in
    let last = c.put_marks.new.marks in
    let long = length-take-le a.groups zeros (omega (arith, p.0)) in
    let size : length last ≡ a.groups = c.put_marks.auto.marks ∙ long in
    omega (arith, size, length-append last (drop a.groups zeros), length-drop a.groups zeros, p.0)

pub slice_bounds-put_row-end : goal.slice_bounds-put_row-end
slice_bounds-put_row-end c =
    let a = c.args in
    let p = c.requires in
    let zeros = replicate {A = ℕ} 16 0 in
    let last = c.put_marks.new.marks in
    let long = length-take-le a.groups zeros (omega (arith, p.0)) in
    let size : length last ≡ a.groups = c.put_marks.auto.marks ∙ long in
    let front = take_at last (drop a.groups zeros) a.groups size in
    sym (ap length front ∙ size)

pub put_row-requires : goal.put_row-requires
put_row-requires c =
    let a = c.args in
    let p = c.requires in
    let zeros = replicate {A = ℕ} 16 0 in
    let last = c.put_marks.new.marks in
    let long = length-take-le a.groups zeros (omega (arith, p.0)) in
    let size : length last ≡ a.groups = c.put_marks.auto.marks ∙ long in
    let front = take_at last (drop a.groups zeros) a.groups size in
    rw (front, size) (p.0, p.2, p.3)

pub returns : goal.returns
returns c =
    let a = c.args in
    let p = c.requires in
    let zeros = replicate {A = ℕ} 16 0 in
    let last = c.put_marks.new.marks in
    let long = length-take-le a.groups zeros (omega (arith, p.0)) in
    let size : length last ≡ a.groups = c.put_marks.auto.marks ∙ long in
    let front = take_at last (drop a.groups zeros) a.groups size in
    let marks : last ≡ marks_by (all_carried a.groups a.state.now) (as_pauli a.p) = rw long at c.put_marks.ensures in
    rw (← marks) (rw front at c.put_row.ensures)
