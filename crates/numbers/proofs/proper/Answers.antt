-- `numbers::proper` meets its contract. Assumes nothing.
use native.Mathlib.Omega.{arith}
use borrow.Author.Tests.{le-ltb, lt-ltb, ne_eqb}
use lib.ListN.{length}
use Rattle.numbers.proofs.proper.Goals as goal

pub returns-then-s-eq0 : goal.returns-then-s-eq0
returns-then-s-eq0 c =
    simp (le-ltb 0 (length c.args.s.now) (omega arith))

pub returns-then-s-eq1 : goal.returns-then-s-eq1
returns-then-s-eq1 c =
    simp c.if-s-eq1.true

pub returns : goal.returns
returns c =
    simp (lt-ltb 0 (length c.args.s.now) (omega arith), ne_eqb _ _ c.if-s-eq1.false)
