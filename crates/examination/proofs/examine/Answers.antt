-- `examination::examine` meets its contract. Assumes nothing.
use Rattle.examination.specs.Laws.Reply.{refused_numbers_lem, found_numbers}
use Rattle.examination.proofs.examine.Goals as goal

pub returns-then-answered-ne0 : goal.returns-then-answered-ne0
returns-then-answered-ne0 c = refused_numbers_lem c.examine-found.ensures c.if-answered-ne0.true

pub returns : goal.returns
returns c = found_numbers c.examine-found.ensures c.if-answered-ne0.false
