-- `numbers::lists::piece` meets its contract. Assumes nothing.
use mathlib.Core.Path.{sym, ap, ◌∙◌}
use mathlib.Core.Bool.{Bool}
use Rattle.text.specs.List.{piece_of}
use Rattle.numbers.proofs.lists.piece.Goals as goal

pub returns-then-hex : goal.returns-then-hex
returns-then-hex c = c.hex16.ensures ∙ sym (ap (λ (b : Bool). piece_of b c.args.s.now) c.if-hex.true)

pub returns : goal.returns
returns c = c.number.ensures ∙ sym (ap (λ (b : Bool). piece_of b c.args.s.now) c.if-hex.false)
