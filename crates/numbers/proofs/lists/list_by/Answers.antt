use native.Mathlib.Omega.{arith}
use mathlib.Core.Path.{sym, ◌∙◌}
use Rattle.numbers.specs.Laws.Read.{read_of, read_bad}
use Rattle.numbers.specs.Laws.Lists.{so_count, pieces_start, pieces_bad, pieces_more, pieces_last, none_read}
use Rattle.numbers.proofs.lists.list_by.Goals as goal

pub loop-n-init : goal.loop-n-init
loop-n-init c = (omega arith, pieces_start c.empty-l.ensures)

pub returns-in_err-n : goal.returns-in_err-n
returns-in_err-n c =
    let loop = c.loop-n in
    let m = c.read_member-member in
    let bad = sym m.ensures.reads ∙ read_bad (c.in_err-n.was) in
    rw c.from_residual.ensures (none_read (pieces_bad loop.invariant.1 m.result.end (omega arith) m.ensures.found (omega (arith, m.ensures.within)) bad))

pub push-l-requires : goal.push-l-requires
push-l-requires c = let n = so_count c.loop-n.invariant.1 in omega (arith, c.loop-n.invariant.1.few)

pub returns-then-member-s : goal.returns-then-member-s
returns-then-member-s c =
    let loop = c.loop-n in
    let m = c.read_member-member in
    let good = sym m.ensures.reads ∙ read_of (c.in_ok-n.was) in
    pieces_last loop.invariant.1 m.result.end (omega arith) m.ensures.found (omega (arith, m.ensures.within)) good (c.push-l.ensures.listed _ loop.invariant.1.result) c.push-l.ensures.stored c.if-member-s.true

pub loop-n-preserved : goal.loop-n-preserved
loop-n-preserved c =
    let loop = c.loop-n in
    let m = c.read_member-member in
    let good = sym m.ensures.reads ∙ read_of (c.in_ok-n.was) in
    (omega (arith, m.ensures.within), pieces_more loop.invariant.1 m.result.end (omega arith) m.ensures.found (omega (arith, m.ensures.within)) good (c.push-l.ensures.listed _ loop.invariant.1.result) c.push-l.ensures.stored (omega (arith, m.ensures.within)))
