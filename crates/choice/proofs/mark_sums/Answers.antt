use mathlib.Core.Path.{◌≡◌, refl, sym, ap, ◌∙◌}
use mathlib.Core.List.{◌++◌}
use Prim.Native.Nat.{ℕ, ◌+◌, ◌-◌, ◌<◌}
use native.Mathlib.Omega.{arith}
use lib.ListN.{length, take, drop, set, length-set}
use Rattle.choice.specs.Choice.{marked_by}
use Rattle.choice.specs.Laws.Marks.{mark_step, positive_step, marked_none}
use Rattle.choice.proofs.mark_sums.Goals as goal

pub loop-i-init : goal.loop-i-init
loop-i-init c =
    let a = c.args in
    let none = marked_none a.weights.now a.sums.now _ refl c.requires in
    (omega arith, c.requires, none.0, none.1)

pub loop-i-preserved : goal.loop-i-preserved
loop-i-preserved c =
    let a = c.args in
    let l = c.loop-i in
    let k : l.i ≡ l.i - 1 + 1 = omega arith in
    let within : l.i - 1 < length a.weights.now = omega arith in (
      omega arith,
      length-set l.sums (l.i - 1) _ ∙ l.invariant.1,
      ap (set l.sums (l.i - 1)) c.mark.ensures
          ∙ mark_step a.weights.now a.sums.now l.sums l.positive_behind l.i (l.i - 1) k within l.invariant.3 c.requires l.invariant.2,
      c.any_positive-positive_behind.ensures ∙ positive_step a.weights.now a.sums.now l.sums l.positive_behind l.i (l.i - 1) k within l.invariant.3,
    )

pub shape_of-sums : goal.shape_of-sums
shape_of-sums c = c.loop-i.invariant.1 ∙ sym c.requires

pub returns : goal.returns
returns c =
    let a = c.args in
    let done : c.loop-i.i ≡ 0 = omega arith in
    c.loop-i.invariant.2 ∙ ap (λ (i : ℕ). take i a.sums.now ++ marked_by (drop i a.weights.now) (drop i a.sums.now)) done
