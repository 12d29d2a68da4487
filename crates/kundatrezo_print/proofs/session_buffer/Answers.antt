-- `kundatrezo_print::session_buffer` meets its contract. Assumes nothing.
use Rattle.kundatrezo_print.proofs.Long.{long}
use Rattle.kundatrezo_print.proofs.session_buffer.Goals as goal

pub returns : goal.returns
returns c = long 24410
