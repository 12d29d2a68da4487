-- `made_fields::put_value` meets its contract. Assumes nothing.
use native.Mathlib.Omega.{arith}
use Rattle.writer.specs.Laws.Lists.{decimal_length}
use Rattle.made_fields.specs.Laws.Fields.{field_put}
use Rattle.made_fields.proofs.put_value.Goals as goal

pub put_number-requires : goal.put_number-requires
put_number-requires c = omega (arith, decimal_length c.args.n, c.put_bytes-next.ensures.place)

pub returns : goal.returns
returns c = field_put 40 c.put_bytes-next.ensures c.put_number.ensures (omega (arith, decimal_length c.args.n, c.requires.0))
