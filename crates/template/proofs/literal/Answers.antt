use Prim.Native.Nat.{◌+◌}
use mathlib.Core.Path.{◌≡◌}
use native.Mathlib.Omega.{arith}
use lib.ListN.{length}
use Rattle.template.specs.Laws.Reading.{reading_starts, refused_on, reading_ends, plain_other, plain_same, plain_at, short_refused}
use Rattle.template.proofs.literal.Goals as goal

pub returns-then-line-at-clause-by_index : goal.returns-then-line-at-clause-by_index
returns-then-line-at-clause-by_index c = λ fields. short_refused c.requires.1 c.if-line-at.true

pub loop-i-init : goal.loop-i-init
loop-i-init c =
    let from : c.args.p.at + 0 ≡ c.args.p.at = omega arith in
    λ fields. rw from (reading_starts c.requires.0)

pub returns-then-line-at-2-clause-by_index : goal.returns-then-line-at-2-clause-by_index
returns-then-line-at-2-clause-by_index c =
    let loop = c.loop-i in
    let plain = plain_at c.args.text.now loop.i c.requires.1 (omega arith) in
    λ fields. refused_on (λ _. plain_other (loop.invariant fields) (omega arith) plain (omega arith) c.if-line-at-2.true)

pub loop-i-preserved : goal.loop-i-preserved
loop-i-preserved c =
    let loop = c.loop-i in
    let plain = plain_at c.args.text.now loop.i c.requires.1 (omega arith) in
    let next : c.args.p.at + (loop.i + 1) ≡ c.args.p.at + loop.i + 1 = omega arith in
    λ fields. rw next (plain_same (loop.invariant fields) (omega arith) plain (omega arith) c.if-line-at-2.false)

pub returns-clause-by_index : goal.returns-clause-by_index
returns-clause-by_index c =
    let loop = c.loop-i in
    let place : c.args.p.at + length c.args.text.now ≡ c.args.p.at + loop.i = omega arith in
    λ fields. rw place (reading_ends (loop.invariant fields) (omega arith))
