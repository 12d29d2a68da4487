-- `noise::words::unit` meets its contract. The cast asks for a number of at most 2 ^ 53.
use Rattle.std.proofs.Common.{◌/◌, ◌^◌, refl, arith, le→leb}
use lib.Ieee.{in_float, of_bits, of_int}
use Rattle.draws.specs.Draws.{unit_of}
use Rattle.noise.proofs.words.unit.Goals as goal

pub int_to_float-result : goal.int_to_float-result
unfolding in_float
int_to_float-result c = le→leb (c.args.word / 2048) (2 ^ 53) (omega arith)

pub returns : goal.returns
unfolding unit_of of_bits of_int
returns c = refl
