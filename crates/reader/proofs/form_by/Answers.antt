-- `reader::form_by` meets its contract. Assumes nothing.
use Rattle.reader.proofs.form_by.Goals as goal

pub returns-then-read_all : goal.returns-then-read_all
returns-then-read_all c = record { ok = c.read_all.result; result = rw c.if-read_all.true; reads = c.read_all.ensures }

pub returns : goal.returns
returns c = record { ok = c.read_all.result; result = rw c.if-read_all.false; reads = c.read_all.ensures }
