-- `made_fields::put_members` meets its contract. Assumes nothing.
use native.Mathlib.Omega.{arith}
use Rattle.made_fields.specs.Laws.Fields.{short_list, field_put}
use Rattle.made_fields.proofs.put_members.Goals as goal

pub put_list-requires : goal.put_list-requires
put_list-requires c = omega (arith, short_list c.args.list.now c.requires.1, c.put_bytes-next.ensures.place)

pub returns : goal.returns
returns c = field_put 200 c.put_bytes-next.ensures c.put_list.ensures (omega (arith, short_list c.args.list.now c.requires.1, c.requires.0))
