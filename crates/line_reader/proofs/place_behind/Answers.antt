-- `line_reader::place_behind` meets its contract.
use mathlib.Core.Path.{sym}
use native.Mathlib.Omega.{arith}
use Rattle.line_reader.proofs.Laws.Lines.{behind_last, behind_line, behind_last_line}
use Rattle.line_reader.proofs.place_behind.Goals as goal

pub returns-then-job-at : goal.returns-then-job-at
returns-then-job-at c e =
    let a = c.args in
    sym (behind_last a.job.now a.at (omega arith))

pub returns-then-end-job : goal.returns-then-end-job
returns-then-end-job c e =
    let a = c.args in
    behind_line a.job.now a.at a.line.now e c.if-end-job.true

pub returns : goal.returns
returns c e =
    let a = c.args in
    behind_last_line a.job.now a.at a.line.now e (omega arith)
