use native.Mathlib.Omega.{arith}
use mathlib.Core.Path.{refl, sym, ◌∙◌}
use borrow.Author.Tests.{eqb-true, eqb-false}
use Rattle.numbers.specs.Laws.Known.{list_inside, dash_read, known_start, known_next, known_few, known_size, known_onward, known_within, known_more, known_last}
use Rattle.numbers.proofs.known.known_list.Goals as goal

pub bounds-s-from : goal.bounds-s-from
bounds-s-from c = omega (arith, list_inside c.requires)

pub overflow_add-result : goal.overflow_add-result
overflow_add-result c = omega (arith, list_inside c.requires)

pub returns-then-s-from-eq45 : goal.returns-then-s-from-eq45
returns-then-s-from-eq45 c = dash_read c.requires c.if-s-from-eq45.true _ c.empty-list.ensures refl

pub loop-list-init : goal.loop-list-init
loop-list-init c = known_start c.requires c.if-s-from-eq45.false c.empty-list.ensures

pub read_digits-n-requires : goal.read_digits-n-requires
read_digits-n-requires c = known_next c.loop-list.invariant

pub push-list-requires : goal.push-list-requires
push-list-requires c = omega (arith, known_few c.loop-list.invariant)

pub shape_of-out-then-not-is_comma : goal.shape_of-out-then-not-is_comma
shape_of-out-then-not-is_comma c = omega (arith, known_size c.loop-list.invariant)

pub returns-then-not-is_comma : goal.returns-then-not-is_comma
returns-then-not-is_comma c =
    let other = eqb-false _ _ (sym c.is_comma.ensures ∙ c.if-not-is_comma.true) in
    known_last c.loop-list.invariant c.read_digits-n.ensures other c.push-list.ensures.listed c.push-list.ensures.stored _ refl refl

pub overflow_add-at : goal.overflow_add-at
overflow_add-at c = omega (arith, c.read_digits-n.ensures.within)

pub loop-list-smaller : goal.loop-list-smaller
loop-list-smaller c =
    let more = eqb-true _ _ (sym c.is_comma.ensures ∙ c.if-not-is_comma.false) in
    omega (arith, known_onward c.loop-list.invariant c.read_digits-n.ensures, known_within c.loop-list.invariant c.read_digits-n.ensures more)

pub loop-list-preserved : goal.loop-list-preserved
loop-list-preserved c =
    let more = eqb-true _ _ (sym c.is_comma.ensures ∙ c.if-not-is_comma.false) in
    known_more c.loop-list.invariant c.read_digits-n.ensures more c.push-list.ensures.listed c.push-list.ensures.stored
