-- `numbers::known::is_comma` meets its contract. Assumes nothing.
use native.Mathlib.Omega.{arith}
use mathlib.Core.Path.{◌≡◌}
use borrow.Author.Tests.{ne_eqb, le-ltb}
use lib.ListN.{get_or, get_or-eq_default}
use Rattle.text.specs.Bytes.{comma}
use Rattle.numbers.proofs.known.is_comma.Goals as goal

pub returns-else-at-s : goal.returns-else-at-s
returns-else-at-s c =
    let s = c.args.s.now in
    let at = c.args.at in
    let none_there : get_or s at 0 ≡ 0 = get_or-eq_default s 0 c.if-at-s.false in
    simp (le-ltb _ _ c.if-at-s.false, ne_eqb (get_or s at 0) comma (λ (e : get_or s at 0 ≡ comma). omega arith))
