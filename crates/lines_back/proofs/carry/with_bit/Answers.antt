-- `lines_back::carry::with_bit` meets its contract. Assumes nothing.
use mathlib.Core.Path.{sym, ◌∙◌}
use Rattle.pauli.proofs.Laws.Word.{one_shl}
use Rattle.lines_back.specs.Laws.Packed.{packed_off, packed_on}
use Rattle.lines_back.proofs.carry.with_bit.Goals as goal

pub returns-then-not-on : goal.returns-then-not-on
returns-then-not-on c = λ f p e. packed_off p (sym e ∙ c.if-not-on.true)

pub returns : goal.returns
returns c = λ f p e. rw (one_shl c.args.i c.requires) (packed_on p (sym e ∙ c.if-not-on.false))
