-- `known_lines::is_controlled` meets its contract. Assumes nothing.
use mathlib.Core.Path.{sym}
use mathlib.Core.Bool.{true≢false}
use Rattle.known_lines.proofs.is_controlled.Goals as goal

pub returns-then-not-has_byte : goal.returns-then-not-has_byte
returns-then-not-has_byte c = λ e. absurd (true≢false (sym e))

pub returns : goal.returns
returns c = λ e. (c.has_byte.ensures (c.if-not-has_byte.false), c.has_byte-2.ensures e)
