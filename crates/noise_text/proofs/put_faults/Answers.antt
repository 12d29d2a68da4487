use Rattle.noise_text.specs.Laws.Injections.{element_inside, element_next, put_none, put_more, put_spent, put_done}
use Rattle.shots.specs.Laws.Next.{found_by, at_shot, at_within}
use mathlib.Core.Path.{refl, ◌∙◌}
use native.Mathlib.Omega.{arith}
use Rattle.noise_text.proofs.put_faults.Goals as goal

pub rule_of-rule-requires : goal.rule_of-rule-requires
rule_of-rule-requires c = c.requires.1.small

pub loop-position-init : goal.loop-position-init
loop-position-init c = (omega arith, omega arith, omega arith, refl, λ q. put_none q)

pub next_fault-requires : goal.next_fault-requires
next_fault-requires c = (c.loop-position.invariant.0, c.loop-position.invariant.1, c.requires.1.masked, c.rule_of-rule.ensures.ruled)

pub shape_of-out-in-Spent : goal.shape_of-out-in-Spent
shape_of-out-in-Spent c = c.loop-position.invariant.3

pub returns-in-Spent : goal.returns-in-Spent
returns-in-Spent c = λ q. put_spent q (c.loop-position.invariant.4 q) (found_by c.rule_of-rule.ensures c.next_fault.ensures) c.loop-position.invariant.1 c.in-Spent.is _ c.count.ensures

pub shape_of-out-in-Done : goal.shape_of-out-in-Done
shape_of-out-in-Done c = c.loop-position.invariant.3

pub returns-in-Done : goal.returns-in-Done
returns-in-Done c = λ q. put_done q (c.loop-position.invariant.4 q) (found_by c.rule_of-rule.ensures c.next_fault.ensures) c.loop-position.invariant.1 _ c.in-Done.is (omega (arith, c.loop-position.invariant.2, c.loop-position.invariant.1))

pub put_element-next-requires : goal.put_element-next-requires
put_element-next-requires c =
    let later = at_shot (found_by c.rule_of-rule.ensures c.next_fault.ensures) _ _ _ c.in-At.is in
    (omega (arith, later, c.loop-position.invariant.2, c.requires.0), element_inside c.requires.1 (found_by c.rule_of-rule.ensures c.next_fault.ensures) c.loop-position.invariant.1 _ _ _ c.in-At.is)

pub overflow_add-shot : goal.overflow_add-shot
overflow_add-shot c = omega (arith, at_shot (found_by c.rule_of-rule.ensures c.next_fault.ensures) _ _ _ c.in-At.is)

pub loop-position-smaller : goal.loop-position-smaller
loop-position-smaller c = omega (arith, at_shot (found_by c.rule_of-rule.ensures c.next_fault.ensures) _ _ _ c.in-At.is)

pub loop-position-preserved : goal.loop-position-preserved
loop-position-preserved c =
    let later = at_shot (found_by c.rule_of-rule.ensures c.next_fault.ensures) _ _ _ c.in-At.is in
    let goes = element_next c.requires.1 (found_by c.rule_of-rule.ensures c.next_fault.ensures) c.loop-position.invariant.1 _ _ _ c.in-At.is c.put_element-next.ensures in (
      at_within (found_by c.rule_of-rule.ensures c.next_fault.ensures) _ _ _ c.in-At.is,
      omega (arith, later),
      omega (arith, later, goes, c.loop-position.invariant.2),
      c.put_element-next.auto.out ∙ c.loop-position.invariant.3,
      λ q. put_more q (c.loop-position.invariant.4 q) (found_by c.rule_of-rule.ensures c.next_fault.ensures) c.loop-position.invariant.1 _ _ _ c.in-At.is c.put_element-next.ensures,
    )
