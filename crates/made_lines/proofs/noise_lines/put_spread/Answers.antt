-- `made_lines::noise_lines::put_spread` meets its contract. Assumes nothing.
use lib.ListN.{length-take}
use Rattle.text.specs.Bytes.{bytes}
use Rattle.made_lines.specs.Laws.Noise.{spread_made}
use native.Mathlib.Omega.{arith}
use Rattle.made_lines.proofs.noise_lines.put_spread.Goals as goal

pub put_members-at-requires : goal.put_members-at-requires
put_members-at-requires c = (omega arith, omega (arith, length-take c.stretch-q.result.count c.stretch-q.new.list, c.stretch-q.ensures.short), omega (arith, (c.put_start-start.ensures c.args.h).near, c.requires.room))

pub put_value-end-requires : goal.put_value-end-requires
put_value-end-requires c = (omega arith, omega (arith, (c.put_start-start.ensures c.args.h).near, c.put_members-at.ensures.near, c.requires.room))

pub end_line-requires : goal.end_line-requires
end_line-requires c = rw c.moved.ensures (omega (arith, (c.put_start-start.ensures c.args.h).near, c.put_members-at.ensures.near, c.put_value-end.ensures.near, c.requires.room))

pub returns : goal.returns
returns c = unfold bytes in spread_made c.args.h (c.put_start-start.ensures c.args.h) c.stretch-q.auto.list c.stretch-q.ensures c.put_members-at.ensures c.depolarizing_size.ensures c.put_value-end.ensures c.moved.ensures c.end_line.ensures
