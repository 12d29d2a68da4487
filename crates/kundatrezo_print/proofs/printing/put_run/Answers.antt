-- `kundatrezo_print::printing::put_run` meets its contract. Assumes nothing.
use Rattle.kundatrezo_print.specs.Laws.Printed.{run_refused, run_ended, rows_ready}
use Rattle.kundatrezo_print.proofs.printing.put_run.Goals as goal

pub returns-then-a-ne0 : goal.returns-then-a-ne0
returns-then-a-ne0 c = run_refused c.requires.0 c.requires.1 c.run-a.ensures c.if-a-ne0.true c.put_refusal.ensures

pub put_session-requires : goal.put_session-requires
put_session-requires c = rows_ready c.requires.0 c.requires.1 c.run-a.auto.deltas

pub returns : goal.returns
returns c = run_ended c.requires.0 c.requires.1 c.run-a.ensures c.if-a-ne0.false c.put_session.ensures
