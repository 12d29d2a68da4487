-- `session_text::put_session` meets its contract. Assumes nothing.
use native.Mathlib.Omega.{arith}
use Rattle.writer.specs.Laws.Placing.{puts_more}
use Rattle.session_text.specs.Laws.Lines.{header_next, session_lines}
use Rattle.session_text.proofs.put_session.Goals as goal

pub put_deltas-requires : goal.put_deltas-requires
put_deltas-requires c = (c.requires.0, omega (arith, c.requires.1, header_next _ c.put_header-next.ensures), c.requires.2)

pub returns : goal.returns
returns c = rw (← session_lines _ _ _) (puts_more c.put_header-next.ensures c.put_deltas.ensures)
