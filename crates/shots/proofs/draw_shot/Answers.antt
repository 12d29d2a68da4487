-- `shots::draw_shot` meets its contract: a law for each way out.
use Rattle.shots.specs.Laws.Shots.{shot_spent, shot_unsatisfied, shot_fault, shot_spent_on}
use native.Mathlib.Omega.{arith}
use Prim.Native.Nat.{◌<◌}
use mathlib.Core.List.{◌++◌}
use lib.ListN.{length}
use Rattle.shots.proofs.draw_shot.Goals as goal

pub returns-then-count-at : goal.returns-then-count-at
returns-then-count-at c = shot_spent _ _ _ _ _ (omega (arith, c.count.ensures))

pub returns-then-not-satisfied : goal.returns-then-not-satisfied
returns-then-not-satisfied c = shot_unsatisfied _ _ _ _ _ (omega (arith, c.count.ensures)) (c.if-not-satisfied.true)

pub choose_element-requires : goal.choose_element-requires
choose_element-requires c = (omega (arith, c.count.ensures), c.requires)

pub returns-in-Some : goal.returns-in-Some
returns-in-Some c =
    let a = c.args in
    let inside : a.at < length (a.words.now ++ a.more.now) = omega (arith, c.count.ensures) in
    shot_fault _ _ _ _ _ inside (c.if-not-satisfied.false) c.choose_element.ensures _ _ c.in-Some.is

pub returns-in-None : goal.returns-in-None
returns-in-None c =
    let a = c.args in
    let inside : a.at < length (a.words.now ++ a.more.now) = omega (arith, c.count.ensures) in
    shot_spent_on _ _ _ _ _ inside (c.if-not-satisfied.false) c.choose_element.ensures c.in-None.is
