-- `reader::noise_begin` meets its contract. Assumes nothing.
use Rattle.text.specs.Bytes.{bytes}
use Rattle.template.specs.Laws.Reading.{from_start, stops, then_next}
use Rattle.reader.specs.Tried.{noise_begin_of}
use Rattle.reader.proofs.noise_begin.Goals as goal

pub returns-in_err-p : goal.returns-in_err-p
unfolding noise_begin_of bytes
returns-in_err-p c = rw c.from_residual.ensures (stops _ (from_start c.start.ensures c.in_err-p.ensures.read))

pub returns-in_err-corr : goal.returns-in_err-corr
unfolding noise_begin_of bytes
returns-in_err-corr c = rw c.from_residual-in_err-corr.ensures (stops _ (then_next (from_start c.start.ensures c.in_ok-p.ensures.read) c.in_err-corr.ensures.read))

pub returns-in_err-cond : goal.returns-in_err-cond
unfolding noise_begin_of bytes
returns-in_err-cond c = rw c.from_residual-in_err-cond.ensures (stops _ (then_next (then_next (from_start c.start.ensures c.in_ok-p.ensures.read) c.in_ok-corr.ensures.read) c.in_err-cond.ensures.read))

pub returns-in_err-parity : goal.returns-in_err-parity
unfolding noise_begin_of bytes
returns-in_err-parity c = rw c.from_residual-in_err-parity.ensures (stops _ (then_next (then_next (then_next (from_start c.start.ensures c.in_ok-p.ensures.read) c.in_ok-corr.ensures.read) c.in_ok-cond.ensures.read) c.in_err-parity.ensures.read))

pub returns : goal.returns
unfolding noise_begin_of bytes
returns c = then_next (then_next (then_next (then_next (from_start c.start.ensures c.in_ok-p.ensures.read) c.in_ok-corr.ensures.read) c.in_ok-cond.ensures.read) c.in_ok-parity.ensures.read) (c.literal.ensures.by_index _)
