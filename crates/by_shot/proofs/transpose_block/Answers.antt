-- `by_shot::transpose_block` meets its contract: the block is loaded, exchanged and stored.
use native.Mathlib.Omega.{arith}
use Prim.Native.Nat.{◌+◌, ◌/◌}
use Rattle.by_shot.specs.Laws.Block.{rows_few, strided_start, source_within, target_within, block_done}
use Rattle.by_shot.proofs.transpose_block.Goals as goal

pub overflow_mul-a-2 : goal.overflow_mul-a-2
overflow_mul-a-2 c = rw c.words_per_row-w.ensures (omega (arith, strided_start c.args.rows ((c.args.columns + 63) / 64) c.args.a c.args.b c.args.source.now (omega arith) c.requires.2 c.requires.0.of_source))

pub overflow_add-a : goal.overflow_add-a
overflow_add-a c = rw c.words_per_row-w.ensures (omega (arith, strided_start c.args.rows ((c.args.columns + 63) / 64) c.args.a c.args.b c.args.source.now (omega arith) c.requires.2 c.requires.0.of_source))

pub gather-requires : goal.gather-requires
gather-requires c =
    (rw c.rows_of.ensures (rows_few _ _), rw (c.words_per_row-w.ensures, c.rows_of.ensures) (source_within _ _ _ _ _ _ c.requires.0 c.requires.1 c.requires.2))

pub overflow_mul-b-2 : goal.overflow_mul-b-2
overflow_mul-b-2 c = rw c.words_per_row-v.ensures (omega (arith, strided_start c.args.columns ((c.args.rows + 63) / 64) c.args.b c.args.a c.args.target.now (omega arith) c.requires.1 c.requires.0.of_target))

pub overflow_add-b : goal.overflow_add-b
overflow_add-b c = rw c.words_per_row-v.ensures (omega (arith, strided_start c.args.columns ((c.args.rows + 63) / 64) c.args.b c.args.a c.args.target.now (omega arith) c.requires.1 c.requires.0.of_target))

pub scatter-requires : goal.scatter-requires
scatter-requires c =
    (rw (c.rows_of-2.ensures, c.exchange.ensures.long) (rows_few _ _), rw (c.words_per_row-v.ensures, c.rows_of-2.ensures) (target_within _ _ _ _ _ _ c.requires.0 c.requires.1 c.requires.2))

pub returns : goal.returns
returns c =
    let load = rw (c.words_per_row-w.ensures, c.rows_of.ensures) at c.gather.ensures in
    let store = rw (c.words_per_row-v.ensures, c.rows_of-2.ensures) at c.scatter.ensures in
    block_done _ _ _ _ _ _ c.requires.0 c.requires.1 c.requires.2 _ _ _ load c.exchange.ensures store c.requires.3
