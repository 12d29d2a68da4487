use Rattle.std.proofs.Common.{refl, ◌∙◌, arith}
use Rattle.rows.proofs.Laws.Listed.{over_turn, over_end}
use Rattle.rows.proofs.Laws.Rest.{over_first_four, rows_rest}
use Rattle.row_loops.proofs.add_listed.Goals as goal

pub xor_four-requires : goal.xor_four-requires
xor_four-requires c =
    let rows = c.loop-left.invariant.2 in
    omega (arith, rows.fits 0 (omega arith), rows.fits 1 (omega arith), rows.fits 2 (omega arith), rows.fits 3 (omega arith))

pub loop-left-preserved : goal.loop-left-preserved
loop-left-preserved c =
    let inv = c.loop-left.invariant in
    (over_first_four _ _ _ _ _ _ inv.0 refl c.in-len4-up.len_at_least c.xor_four.ensures, c.xor_four.auto.dst ∙ inv.1, rows_rest 4 _ _ refl _ _ _ refl inv.2)

pub loop-row-preserved : goal.loop-row-preserved
loop-row-preserved c = (over_turn _ _ _ _ _ _ c.loop-row-test.true c.xor_words.ensures c.loop-row.invariant.0, c.xor_words.auto.dst ∙ c.loop-row.invariant.1)

pub returns : goal.returns
returns c = over_end _ _ _ _ _ c.loop-row-test.false (c.loop-row.invariant.0 ∙ c.loop-left.invariant.0)
