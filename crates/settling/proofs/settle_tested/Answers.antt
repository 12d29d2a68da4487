-- `settling::settle_tested` meets its contract. Assumes nothing.
use Rattle.settling.specs.Laws.Reply.{spent_reply, long_reply, done_reply}
use Rattle.writer.specs.Laws.Fits.{room_for}
use lib.Seq.{length-take-le}
use mathlib.Core.Path.{sym, ◌∙◌}
use Rattle.settling.proofs.settle_tested.Goals as goal

pub put_settled-requires : goal.put_settled-requires
put_settled-requires c = c.requires

pub returns-then-not-text_fits : goal.returns-then-not-text_fits
returns-then-not-text_fits c = long_reply c.requires c.put_settled.ensures _ c.in-Ok.is c.measured.ensures (sym c.text_fits.ensures ∙ c.if-not-text_fits.true)

pub slice_bounds-put_settled-end-2 : goal.slice_bounds-put_settled-end-2
slice_bounds-put_settled-end-2 c = room_for _ _ (sym c.text_fits.ensures ∙ c.if-not-text_fits.false)

pub slice_bounds-put_settled-end-3 : goal.slice_bounds-put_settled-end-3
slice_bounds-put_settled-end-3 c = sym (length-take-le _ _ (room_for _ _ (sym c.text_fits.ensures ∙ c.if-not-text_fits.false)))

pub put_settled-requires-2 : goal.put_settled-requires-2
put_settled-requires-2 c = c.requires

pub returns-in-Err : goal.returns-in-Err
returns-in-Err c = spent_reply c.requires c.put_settled.ensures _ c.in-Err.is c.refused.ensures

pub returns : goal.returns
returns c = done_reply c.requires c.put_settled.ensures _ c.in-Ok.is c.put_settled-2.ensures c.measured-2.ensures (sym c.text_fits.ensures ∙ c.if-not-text_fits.false)
