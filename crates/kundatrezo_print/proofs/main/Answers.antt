-- `kundatrezo_print::main` meets its contract. Assumes nothing.
use mathlib.Core.Path.{sym}
use native.Mathlib.Omega.{arith}
use lib.Seq.{length-take-le}
use Rattle.kundatrezo_print.specs.Laws.Length.{printed_next}
use Rattle.kundatrezo_print.proofs.main.Goals as goal

pub slice_bounds-session-end : goal.slice_bounds-session-end
slice_bounds-session-end c = omega (arith, printed_next _ c.print_session-m.ensures, c.print_session-m.auto.out, c.session_buffer-session.ensures)

pub slice_bounds-write_session-end : goal.slice_bounds-write_session-end
slice_bounds-write_session-end c = sym (length-take-le _ _ (omega (arith, printed_next _ c.print_session-m.ensures, c.print_session-m.auto.out, c.session_buffer-session.ensures)))
