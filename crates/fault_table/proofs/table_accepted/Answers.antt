-- `fault_table::table_accepted` meets its contract. Assumes nothing.
use native.Mathlib.Omega.{arith}
use Prim.Native.Nat.{ℕ, ◌*◌}
use mathlib.Core.Path.{sym, ◌∙◌}
use lib.ListN.{take, drop, replicate, length-append}
use lib.Seq.{length-take-le}
use Rattle.writer.specs.Laws.Fits.{room_for}
use Rattle.fault_table.specs.Laws.Replies.{wide_reply, long_reply, zeros_taken, startable, started_length, started_ready, done_reply}
use Rattle.fault_table.proofs.table_accepted.Goals as goal

pub returns-in-Err : goal.returns-in-Err
returns-in-Err c = λ q. rw c.refusal.ensures (wide_reply q c.in-Err.ensures _)

pub text_fits-requires : goal.text_fits-requires
text_fits-requires c = tt

pub returns-then-not-text_fits : goal.returns-then-not-text_fits
returns-then-not-text_fits c = λ q. rw c.refusal-then-not-text_fits.ensures (long_reply q c.in-Ok.ensures _ (sym c.text_fits.ensures ∙ c.if-not-text_fits.true))

pub overflow_mul-end : goal.overflow_mul-end
overflow_mul-end c = omega (arith, c.requires.few)

pub slice_bounds-words-end : goal.slice_bounds-words-end
slice_bounds-words-end c = omega (arith, c.requires.few)

pub slice_bounds-start-end : goal.slice_bounds-start-end
slice_bounds-start-end c = sym (length-take-le (c.args.groups * 24) (replicate 384 0) (omega (arith, c.requires.few)))

pub start-requires : goal.start-requires
start-requires c = startable c.requires _ (zeros_taken c.requires (c.args.groups * 24) (omega (arith, c.requires.few)))

pub slice_bounds-put_table-end : goal.slice_bounds-put_table-end
slice_bounds-put_table-end c = room_for _ _ (sym c.text_fits.ensures ∙ c.if-not-text_fits.false)

pub slice_bounds-put_table-end-2 : goal.slice_bounds-put_table-end-2
slice_bounds-put_table-end-2 c = sym (length-take-le _ _ (room_for _ _ (sym c.text_fits.ensures ∙ c.if-not-text_fits.false)))

pub slice_bounds-words-end-2 : goal.slice_bounds-words-end-2
slice_bounds-words-end-2 c =
    let zeros = replicate {A = ℕ} 384 0 in
    let n = c.args.groups * 24 in
    let long = c.start.auto.state ∙ length-take-le n zeros (omega (arith, c.requires.few)) in
    omega (arith, long, length-append c.start.new.state (drop n zeros))

pub slice_bounds-put_table-end-3 : goal.slice_bounds-put_table-end-3
slice_bounds-put_table-end-3 c = sym (started_length c.requires c.in-Ok.ensures c.args.out.now (take (c.args.groups * 24) (replicate 384 0)) c.start.new.state (drop (c.args.groups * 24) (replicate 384 0)) (zeros_taken c.requires (c.args.groups * 24) (omega (arith, c.requires.few))) c.start.ensures c.start.auto.state (sym c.text_fits.ensures ∙ c.if-not-text_fits.false))

pub put_table-requires : goal.put_table-requires
put_table-requires c = started_ready c.requires c.in-Ok.ensures c.args.out.now (take (c.args.groups * 24) (replicate 384 0)) c.start.new.state (drop (c.args.groups * 24) (replicate 384 0)) (zeros_taken c.requires (c.args.groups * 24) (omega (arith, c.requires.few))) c.start.ensures c.start.auto.state (sym c.text_fits.ensures ∙ c.if-not-text_fits.false)

pub returns : goal.returns
returns c = λ q. done_reply q c.in-Ok.ensures c.args.out.now (take (c.args.groups * 24) (replicate 384 0)) c.start.new.state (drop (c.args.groups * 24) (replicate 384 0)) (zeros_taken q (c.args.groups * 24) (omega (arith, c.requires.few))) c.start.ensures c.start.auto.state (sym c.text_fits.ensures ∙ c.if-not-text_fits.false) c.put_table.new.out c.put_table.ensures
