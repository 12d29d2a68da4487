-- `job_maker::put_header` meets its contract. Assumes nothing.
use native.Mathlib.Omega.{arith}
use Rattle.text.specs.Bytes.{bytes}
use Rattle.writer.specs.Laws.Placing.{puts_more}
use Rattle.job_maker.specs.Laws.Jobs.{second_lent, second_length, second_is, first_lent, first_length, first_is}
use Rattle.job_maker.proofs.put_header.Goals as goal

pub put_numbers-at-requires : goal.put_numbers-at-requires
unfolding bytes
put_numbers-at-requires c = (second_lent c.args.h.edition _ _ _, omega (arith, second_length c.args.h.edition c.args.h.qubits c.args.h.outcomes c.args.h.shots))

pub put_byte-requires : goal.put_byte-requires
unfolding bytes
put_byte-requires c = omega (arith, c.put_numbers-at.ensures.place, second_length c.args.h.edition c.args.h.qubits c.args.h.outcomes c.args.h.shots)

pub returns-then-h-eq-SECOND_EDITION : goal.returns-then-h-eq-SECOND_EDITION
unfolding bytes
returns-then-h-eq-SECOND_EDITION c = rw (← second_is c.args.h c.if-h-eq-SECOND_EDITION.true) (puts_more c.put_numbers-at.ensures c.put_byte.ensures)

pub put_numbers-at-requires-2 : goal.put_numbers-at-requires-2
unfolding bytes
put_numbers-at-requires-2 c = (first_lent c.args.h.edition _ _ _, omega (arith, first_length c.args.h.edition c.args.h.qubits c.args.h.outcomes c.args.h.shots))

pub put_byte-requires-2 : goal.put_byte-requires-2
unfolding bytes
put_byte-requires-2 c = omega (arith, c.put_numbers-at-2.ensures.place, first_length c.args.h.edition c.args.h.qubits c.args.h.outcomes c.args.h.shots)

pub returns : goal.returns
unfolding bytes
returns c = rw (← first_is c.args.h c.if-h-eq-SECOND_EDITION.false) (puts_more c.put_numbers-at-2.ensures c.put_byte-2.ensures)
