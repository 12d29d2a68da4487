-- `line_reader::line_part` meets its contract.
use Rattle.line_reader.proofs.Laws.Lines.{part_none, part_found}
use Rattle.line_reader.proofs.line_part.Goals as goal

pub returns-then-number-eq0 : goal.returns-then-number-eq0
returns-then-number-eq0 c = part_none c.args.job.now c.args.number c.if-number-eq0.true

pub returns : goal.returns
returns c =
    let a = c.args in
    part_found a.job.now a.number _ c.line_from-line.result.now c.if-number-eq0.false c.nth_start-start.ensures c.line_from-line.ensures
