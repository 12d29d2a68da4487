-- `fault_scan::earlier` meets its contract.
use Rattle.std.proofs.Common.{Bool, cond, sym, ap, ◌∙◌, arith, le-ltb, lt-ltb}
use Rattle.fault_scan.specs.Laws.Scan.{below_falls}
use Rattle.fault_scan.proofs.earlier.Goals as goal

pub returns-then-word-threshold : goal.returns-then-word-threshold
returns-then-word-threshold c =
    let a = c.args in (
      omega arith,
      omega arith,
      λ p e. ap (λ (b : Bool). cond b a.i a.later) (sym (lt-ltb _ _ c.if-word-threshold.true) ∙ below_falls a.word a.threshold c.ranges.word.fits p e),
    )

pub returns : goal.returns
returns c =
    let a = c.args in (
      omega arith,
      omega arith,
      λ p e. ap (λ (b : Bool). cond b a.i a.later) (sym (le-ltb _ _ c.if-word-threshold.false) ∙ below_falls a.word a.threshold c.ranges.word.fits p e),
    )
