-- `made_lines::gates::put_table` meets its contract. Assumes nothing.
use native.Mathlib.Omega.{arith}
use Rattle.writer.specs.Laws.Lists.{hex_length}
use Rattle.made_lines.specs.Laws.Cliffords.{table_one, table_two}
use Rattle.made_lines.proofs.gates.put_table.Goals as goal

pub put_hex-next-requires : goal.put_hex-next-requires
put_hex-next-requires c = omega (arith, hex_length c.table_word.result, c.requires.1)

pub returns-then-i-lt7 : goal.returns-then-i-lt7
returns-then-i-lt7 c = table_one c.args.i c.if-i-lt7.true c.table_word.ensures c.put_hex-next.ensures

pub put_byte-second-requires : goal.put_byte-second-requires
put_byte-second-requires c = omega (arith, hex_length c.table_word.result, c.put_hex-next.ensures.place, c.requires.1)

pub put_hex-requires : goal.put_hex-requires
put_hex-requires c = omega (arith, hex_length c.table_word.result, hex_length 0x8_ab05_648c, c.put_hex-next.ensures.place, c.put_byte-second.ensures.place, c.requires.1)

pub returns : goal.returns
returns c = table_two c.args.i (omega (arith, c.if-i-lt7.false, c.requires.0)) c.table_word.ensures c.put_hex-next.ensures c.put_byte-second.ensures c.put_hex.ensures
