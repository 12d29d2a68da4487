use Rattle.faults.specs.Laws.Gather.{gathered_none, gathered_known, weight_sound, gathered_more}
use Rattle.faults.specs.Prepared.{Gathered}
use lib.ListN.{length-set}
use mathlib.Core.Path.{◌≡◌, refl, sym, subst, ◌∙◌}
use native.Mathlib.Omega.{arith}
use Rattle.faults.proofs.elements.gather.Goals as goal

pub returns-then-n-eq0 : goal.returns-then-n-eq0
returns-then-n-eq0 c = (λ z. refl, λ q. subst (Gathered q _ _ _) (sym c.if-n-eq0.true) (gathered_none q _ _))

pub loop-e-init : goal.loop-e-init
loop-e-init c = (omega arith, refl, c.requires.2, λ z. refl, λ q. gathered_none q _ _, omega arith)

pub next_known-line-requires : goal.next_known-line-requires
next_known-line-requires c =
    let q = c.requires.0 in
    let g = c.loop-e.invariant.4 q in
    (gathered_known q g c.loop-e-test.true, omega (arith, c.loop-e.invariant.5))

pub keep_element-requires : goal.keep_element-requires
keep_element-requires c = (omega (arith, c.requires.1), omega arith)

pub number-requires : goal.number-requires
number-requires c = omega arith

pub weight_of-requires : goal.weight_of-requires
weight_of-requires c =
    let q = c.requires.0 in
    weight_sound q (c.loop-e.invariant.4 q) c.loop-e-test.true c.next_known-line.ensures c.number.ensures

pub loop-e-preserved : goal.loop-e-preserved
loop-e-preserved c =
    let inv = c.loop-e.invariant in (
      omega arith,
      c.keep_element.ensures.long ∙ inv.1,
      simp length-set inv.2,
      λ (z : c.args.n ≡ 0). absurd (omega arith),
      λ q.
          gathered_more q (inv.4 q) c.loop-e-test.true c.next_known-line.ensures (omega (arith, c.requires.1)) inv.2 c.keep_element.ensures c.number.ensures _ c.weight_of.ensures,
      omega (arith, c.next_known-line.auto, inv.5),
    )

pub shape_of-weights : goal.shape_of-weights
shape_of-weights c = c.loop-e.invariant.2 ∙ sym c.requires.2

pub returns : goal.returns
returns c =
    let inv = c.loop-e.invariant in
    let done : c.loop-e.e ≡ c.args.n = omega arith in
    (inv.3, λ q. subst (Gathered q _ _ _) done (inv.4 q))
