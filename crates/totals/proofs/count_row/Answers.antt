use Rattle.std.proofs.Common.{arith, ◌+◌, ◌-◌, ◌*◌}
use Rattle.rows.specs.Words.{bit_in}
use Rattle.totals.specs.Laws.Ones.{ones_few, ones_cut, ones_row}
use Rattle.totals.proofs.count_row.Goals as goal

pub loop-block-init : goal.loop-block-init
loop-block-init c =
    let a = c.args in
    let at = a.r * a.w in
    (omega (arith, ones_row a.w a.rows.now a.r (at + a.w - at) c.requires.0 (omega arith)), omega arith)

pub overflow_add-ones : goal.overflow_add-ones
overflow_add-ones c =
    let a = c.args in
    let cut = c.in-Some.ensures.cases in
    let parts = ones_cut 8 c.loop-block.left.now c.in-Some.block.now c.in-Some.rest.now cut.1 cut.2 in
    record { fits = omega (arith, parts, ones_few (64 * a.w) (bit_in a.w a.rows.now a.r)) }

pub loop-block-preserved : goal.loop-block-preserved
loop-block-preserved c =
    let cut = c.in-Some.ensures.cases in
    let parts = ones_cut 8 c.loop-block.left.now c.in-Some.block.now c.in-Some.rest.now cut.1 cut.2 in
    (omega (arith, parts), omega arith)

pub overflow_add-result : goal.overflow_add-result
overflow_add-result c = record { fits = omega (arith, ones_few (64 * c.args.w) (bit_in c.args.w c.args.rows.now c.args.r)) }
