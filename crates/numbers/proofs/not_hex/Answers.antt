-- `numbers::not_hex` meets its contract. Assumes nothing.
use Rattle.numbers.specs.Laws.Hex.{hex_told}
use Rattle.numbers.proofs.not_hex.Goals as goal

pub returns : goal.returns
returns c = rw c.hex_value-d.ensures (hex_told c.args.b)
