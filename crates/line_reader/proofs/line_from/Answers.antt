-- `line_reader::line_from` meets its contract.
use mathlib.Core.Path.{sym, ◌∙◌}
use native.Mathlib.Omega.{arith}
use Rattle.line_reader.proofs.Laws.Lines.{line_found, empty_part, no_line, fewest_within, end_behind_fewest}
use Rattle.line_reader.proofs.line_from.Goals as goal

pub returns-then-job-at : goal.returns-then-job-at
returns-then-job-at c =
    let a = c.args in
    empty_part a.job.now ∙ sym (no_line a.job.now a.at (omega arith))

pub returns-then-fewest-eq0 : goal.returns-then-fewest-eq0
returns-then-fewest-eq0 c =
    let a = c.args in
    line_found a.job.now a.at _ c.find_far-far.ensures.value

pub overflow_add-at : goal.overflow_add-at
overflow_add-at c =
    let a = c.args in
    omega (arith, fewest_within a.job.now a.at a.fewest c.requires (omega arith))

pub find-near-requires : goal.find-near-requires
find-near-requires c =
    let a = c.args in
    fewest_within a.job.now a.at a.fewest c.requires (omega arith)

pub returns : goal.returns
returns c =
    let a = c.args in
    line_found a.job.now a.at _ (c.find-near.ensures.value ∙ end_behind_fewest a.job.now a.at a.fewest c.requires)
