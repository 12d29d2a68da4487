use Rattle.settling.specs.Laws.Instruction.{moved_spent, moved_to}
use Rattle.settling.specs.Laws.Pass.{fits_sizes, header_at, header_put, pass_begins, pass_on, pass_spent, pass_done}
use lib.Seq.{length-take-le}
use lib.ListN.{length-take}
use mathlib.Core.Path.{refl, sym, ◌∙◌}
use native.Mathlib.Omega.{arith}
use Rattle.settling.proofs.put_settled.Goals as goal

pub slice_bounds-put_bytes-end : goal.slice_bounds-put_bytes-end
slice_bounds-put_bytes-end c = sym (length-take-le _ _ (omega (arith, c.behind_header-from.ensures, (header_at c.requires).inside)))

pub put_bytes-text-requires : goal.put_bytes-text-requires
put_bytes-text-requires c = rw length-take (omega (arith, fits_sizes c.requires))

pub loop-here-init : goal.loop-here-init
loop-here-init c = (pass_begins c.requires c.behind_header-from.ensures c.put_bytes-text.ensures, refl, refl, refl, refl, refl, omega arith)

pub put_instruction-requires : goal.put_instruction-requires
put_instruction-requires c = (c.loop-here.invariant.0.between, c.loop-here-test.true, c.loop-here.invariant.0.few, omega (arith, c.loop-here.invariant.2), omega (arith, c.loop-here.invariant.3), omega (arith, c.loop-here.invariant.4), omega (arith, c.loop-here.invariant.5), omega (arith, c.loop-here.invariant.6))

pub shape_of-out-in-Err : goal.shape_of-out-in-Err
shape_of-out-in-Err c = c.put_instruction.auto.out ∙ c.loop-here.invariant.1 ∙ c.put_bytes-text.auto.out

pub returns-in-Err : goal.returns-in-Err
returns-in-Err c = pass_spent c.loop-here.invariant.0 (moved_spent c.put_instruction.ensures c.in-Err.is)

pub loop-here-smaller : goal.loop-here-smaller
loop-here-smaller c =
    let o = moved_to c.put_instruction.ensures c.in-Ok.is in
    omega (arith, o.onward, c.loop-here.invariant.0.between.ahead.number, c.loop-here.invariant.0.between.ahead.within)

pub loop-here-preserved : goal.loop-here-preserved
loop-here-preserved c = (pass_on c.loop-here.invariant.0 (moved_to c.put_instruction.ensures c.in-Ok.is), c.put_instruction.auto.out ∙ c.loop-here.invariant.1, c.put_instruction.auto.elements ∙ c.loop-here.invariant.2, c.put_instruction.auto.sums ∙ c.loop-here.invariant.3, c.put_instruction.auto.weights ∙ c.loop-here.invariant.4, c.put_instruction.auto.mask ∙ c.loop-here.invariant.5, omega (arith, c.put_instruction.auto.values, c.loop-here.invariant.6))

pub shape_of-out : goal.shape_of-out
shape_of-out c = c.loop-here.invariant.1 ∙ c.put_bytes-text.auto.out

pub returns : goal.returns
returns c = pass_done c.loop-here.invariant.0 (header_put c.requires c.behind_header-from.ensures c.put_bytes-text.ensures) c.loop-here-test.false
