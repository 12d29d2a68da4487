use Rattle.std.proofs.Common.{ℕ, List, ◌-◌, ◌<◌, length, refl, sym, ap, subst, ◌∙◌, arith, Bor}
use Rattle.line_reader.specs.Reading.{line_from_of, behind}
use Rattle.job.proofs.Laws.Refusals.{number_above}
use Rattle.checker.specs.Laws.Job.{all_left, all_passed, bad_job}
use Rattle.checker.specs.Laws.Passing.{nearer, line_bad, line_good}
use Rattle.checker.proofs.all_lines.Goals as goal

pub loop-r-init : goal.loop-r-init
loop-r-init c = record { job = refl; left = all_left c.requires.0 c.no_context-context.ensures }

pub returns-in-Err : goal.returns-in-Err
returns-in-Err c =
    let said = c.next_line-line.ensures in
    let same = c.loop-r.invariant.job in
    let line = said.0 ∙ ap (λ (y : List ℕ). line_from_of y c.loop-r.r.at) same in
    let place = said.2 ∙ ap (λ (y : List ℕ). behind y c.loop-r.r.at) same in
    let above = number_above c.in-Err.refusal in
    bad_job c.refused.ensures
    (line_bad c.loop-r.invariant.left c.loop-r-test.true line place c.read_line-form.ensures c.in-Err.ensures.0 c.in-Err.ensures.1 (λ z. omega (arith, above, z)))
    (λ z. omega (arith, above, z))

pub loop-r-preserved : goal.loop-r-preserved
loop-r-preserved c =
    let said = c.next_line-line.ensures in
    let same = c.loop-r.invariant.job in
    let line = said.0 ∙ ap (λ (y : List ℕ). line_from_of y c.loop-r.r.at) same in
    let place = said.2 ∙ ap (λ (y : List ℕ). behind y c.loop-r.r.at) same in
    record {
      job = ap (λ (b : Bor (List ℕ)). b.now) said.1 ∙ same;
      left = line_good c.loop-r.invariant.left c.loop-r-test.true line place c.read_line-form.ensures c.in_default.ensures.0 c.in_default.ensures.1 refl (c.next-context.ensures _);
    }

pub loop-r-smaller : goal.loop-r-smaller
loop-r-smaller c =
    let s = c.args.job.now in
    let place = c.next_line-line.ensures.2 ∙ ap (λ (y : List ℕ). behind y c.loop-r.r.at) c.loop-r.invariant.job in
    subst (λ (k : ℕ). length s - k < length s - c.loop-r.r.at) (sym place) (nearer c.loop-r.invariant.left c.loop-r-test.true)

pub returns : goal.returns
returns c = rw c.accepted.ensures (all_passed c.loop-r.invariant.left c.loop-r-test.false)
