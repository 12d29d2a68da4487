use Rattle.std.proofs.Common.{ℕ, List, ◌≡◌, ◌-◌, cond, ltb, length, sym, ap, ◌∙◌, Bor}
use Rattle.line_reader.specs.Reading.{behind, behind_lines}
use Rattle.line_reader.proofs.Laws.Lines.{one_more_or_none, none_more}
use Rattle.line_reader.proofs.nth_start.Goals as goal

pub loop-left-preserved : goal.loop-left-preserved
loop-left-preserved c =
    let s = c.args.job.now in
    let loop = c.loop-left in
    let z = c.next_line.new.r in
    let said = c.next_line.ensures in
    let at : z.at ≡ behind s loop.r.at = said.2 ∙ ap (λ (l : List ℕ). behind l loop.r.at) loop.invariant.job in
    record {
      job = ap (λ (b : Bor (List ℕ)). b.now) said.1 ∙ loop.invariant.job;
      place =
          loop.invariant.place ∙ one_more_or_none s loop.r.at loop.left c.loop-left-test.true
          ∙ ap (λ (i : ℕ). behind_lines (cond (ltb i (length s)) (loop.left - 1) 0) s i) (sym at)
          ∙ ap (λ (i : ℕ). behind_lines i s z.at) (sym c.lines_left-left.ensures);
    }

pub returns : goal.returns
returns c =
    let loop = c.loop-left in
    sym (loop.invariant.place ∙ none_more c.args.job.now loop.r.at loop.left c.loop-left-test.false)
