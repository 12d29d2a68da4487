use native.Mathlib.Omega.{arith}
use lib.ListN.{get_or}
use mir.Syntax.{w64}
use mir.Val.{Fits}
use Rattle.pauli.proofs.Laws.Clash.{clash_none, clash_fits, clash_more, clash_all}
use borrow.Author.Rules.{rules}
use Rattle.pauli.proofs.Pauli.anticommutes.Goals as goal

pub loop-i-init : goal.loop-i-init
loop-i-init c = (omega arith, omega arith, clash_none _ _)

pub loop-i-preserved : goal.loop-i-preserved
loop-i-preserved c =
    let x : Fits w64 (get_or c.args.self.x c.loop-i.i 0) = search rules in
    let z : Fits w64 (get_or c.args.self.z c.loop-i.i 0) = search rules in
    (omega arith, clash_fits _ _ _ _ _ c.loop-i.invariant.1 x.fits z.fits, clash_more _ _ _ _ c.loop-i.invariant.2)

pub returns : goal.returns
returns c = clash_all _ _ _ _ (omega arith) c.loop-i.invariant.1 c.loop-i.invariant.2
