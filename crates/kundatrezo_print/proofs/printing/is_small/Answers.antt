-- `kundatrezo_print::printing::is_small` meets its contract. Assumes nothing.
use native.Mathlib.Omega.{arith}
use borrow.Author.Tests.{lt-leb, le-leb}
use Rattle.kundatrezo_print.proofs.printing.is_small.Goals as goal

pub returns-then-h-gt-MAX_QUBITS : goal.returns-then-h-gt-MAX_QUBITS
returns-then-h-gt-MAX_QUBITS c = rw (lt-leb c.args.h.qubits 64 (omega arith))

pub returns-then-h-gt-MAX_OUTCOMES : goal.returns-then-h-gt-MAX_OUTCOMES
returns-then-h-gt-MAX_OUTCOMES c = rw (le-leb c.args.h.qubits 64 (omega arith), lt-leb c.args.h.outcomes 256 (omega arith))

pub returns : goal.returns
returns c = rw (le-leb c.args.h.qubits 64 (omega arith), le-leb c.args.h.outcomes 256 (omega arith))
