use Rattle.execution.specs.Laws.Faults.{injecting_none, injecting_spent, injecting_done, element_ready, injecting_at}
use Rattle.shots.specs.Laws.Next.{found_by, at_within, at_shot}
use mathlib.Core.Path.{refl, ◌∙◌}
use native.Mathlib.Omega.{arith}
use Rattle.execution.proofs.injection.inject_faults.Goals as goal

pub rule_of-rule-requires : goal.rule_of-rule-requires
rule_of-rule-requires c = c.requires.line.small

pub loop-position-init : goal.loop-position-init
loop-position-init c = (omega arith, omega arith, refl, refl, injecting_none _ _ _ _ _ _ _ _ _ _ _)

pub next_fault-requires : goal.next_fault-requires
next_fault-requires c =
    let i = c.loop-position.invariant in
    let words = c.requires.in_words in
    let mask = c.requires.in_mask in
    (i.0, i.1, omega arith, c.rule_of-rule.ensures.ruled)

pub shape_of-x-in-Spent : goal.shape_of-x-in-Spent
shape_of-x-in-Spent c = c.loop-position.invariant.2

pub shape_of-z-in-Spent : goal.shape_of-z-in-Spent
shape_of-z-in-Spent c = c.loop-position.invariant.3

pub returns-in-Spent : goal.returns-in-Spent
returns-in-Spent c =
    injecting_spent _ _ _ _ _ _ _ _ _ _ _ _ _ _ _ c.loop-position.invariant.1 c.requires.in_words _ (found_by c.rule_of-rule.ensures c.next_fault.ensures) c.loop-position.invariant.4 c.in-Spent.is

pub shape_of-x-in-Done : goal.shape_of-x-in-Done
shape_of-x-in-Done c = c.loop-position.invariant.2

pub shape_of-z-in-Done : goal.shape_of-z-in-Done
shape_of-z-in-Done c = c.loop-position.invariant.3

pub returns-in-Done : goal.returns-in-Done
returns-in-Done c =
    injecting_done _ _ _ _ _ _ _ _ _ _ _ _ _ _ _ c.loop-position.invariant.1 c.requires.in_words _ (found_by c.rule_of-rule.ensures c.next_fault.ensures) c.loop-position.invariant.4 _ c.in-Done.is

pub inject_element-requires : goal.inject_element-requires
inject_element-requires c =
    let i = c.loop-position.invariant in
    let r = c.requires in
    let found = found_by c.rule_of-rule.ensures c.next_fault.ensures in
    let shot = at_shot found _ _ _ c.in-At.is in
    let words = r.in_words in (
      element_ready _ _ _ _ _ _ _ _ _ _ _ _ _ _ _ i.1 words _ found i.4 r _ _ _ c.in-At.is,
      i.2 ∙ r.of_x,
      i.3 ∙ r.of_z,
      omega arith,
    )

pub overflow_add-next_shot : goal.overflow_add-next_shot
overflow_add-next_shot c = let shot = at_shot (found_by c.rule_of-rule.ensures c.next_fault.ensures) _ _ _ c.in-At.is in record { fits = omega (arith, shot, c.well_formed) }

pub loop-position-smaller : goal.loop-position-smaller
loop-position-smaller c = let shot = at_shot (found_by c.rule_of-rule.ensures c.next_fault.ensures) _ _ _ c.in-At.is in omega arith

pub loop-position-preserved : goal.loop-position-preserved
loop-position-preserved c =
    let i = c.loop-position.invariant in
    let found = found_by c.rule_of-rule.ensures c.next_fault.ensures in
    let k = c.in-At.is in
    let shot = at_shot found _ _ _ k in (
      at_within found _ _ _ k,
      omega arith,
      c.inject_element.auto.x ∙ i.2,
      c.inject_element.auto.z ∙ i.3,
      injecting_at _ _ _ _ _ _ _ _ _ _ _ _ _ _ _ i.1 c.requires.in_words _ found i.4 _ _ _ _ _ k c.inject_element.ensures,
    )
