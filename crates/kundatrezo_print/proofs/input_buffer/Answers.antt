-- `kundatrezo_print::input_buffer` meets its contract. Assumes nothing.
use Rattle.kundatrezo_print.proofs.Long.{long}
use Rattle.kundatrezo_print.proofs.input_buffer.Goals as goal

pub returns : goal.returns
returns c = long 65537
