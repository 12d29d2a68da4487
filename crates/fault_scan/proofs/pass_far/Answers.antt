-- `fault_scan::pass_far` meets its contract.
use Rattle.std.proofs.Common.{arith, length-append}
use Rattle.fault_scan.specs.Laws.Scan.{passed_first, passed_second}
use Rattle.fault_scan.proofs.pass_far.Goals as goal

pub returns-then-at-words : goal.returns-then-at-words
returns-then-at-words c = passed_first _ _ _ _ c.if-at-words.true _ c.min.ensures c.pass_quiet.ensures

pub pass_quiet-requires-2 : goal.pass_quiet-requires-2
pass_quiet-requires-2 c = let a = c.args in omega (arith, length-append a.words.now a.more.now)

pub returns : goal.returns
returns c =
    let a = c.args in
    passed_second a.threshold a.words.now a.more.now a.at c.if-at-words.false c.pass_quiet-2.ensures
