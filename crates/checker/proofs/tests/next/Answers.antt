-- `checker::tests::next` meets its contract. Assumes nothing.
use Rattle.check_values.specs.Contexts.{context_of}
use Rattle.checker.specs.Laws.Contexts.{sum_same, context_same, passed_begun}
use Rattle.check_lines.specs.Laws.Elements.{passed_expected}
use Rattle.checker.proofs.tests.next.Goals as goal

pub returns : goal.returns
unfolding context_of
returns c = λ last vs w h p.
    context_same _ _
    (passed_begun (context_of c.args.c) last w p)
    (c.header_after.ensures vs w h)
    (c.recorded_after.ensures vs w h.says)
    (c.due_after.ensures vs w h)
    (sum_same _ _ _ (c.weighted_after.ensures (context_of c.args.c) vs w h.says (passed_expected (context_of c.args.c) last w p)) (c.total_after.ensures last vs w h p))
