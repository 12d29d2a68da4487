use Rattle.needed_words.specs.Laws.Going.{going_begun, going_some, going_on, going_fewer, going_stopped, stopped_left, going_end, end_left}
use mathlib.Core.Path.{refl, sym, ◌∙◌}
use native.Mathlib.Omega.{arith}
use Rattle.needed_words.proofs.execute.Goals as goal

pub loop-place-init : goal.loop-place-init
loop-place-init c = (refl, refl, refl, refl, refl, refl, refl, going_begun _ _ _ _ _ _ c.requires.0.1 _ _ _, c.requires.2, omega arith)

pub step-moved-requires : goal.step-moved-requires
step-moved-requires c =
    let i = c.loop-place.invariant in
    let g = going_some _ _ _ _ i.7 in
    let rows = c.requires.1 in (
      record {
        recorded = g.recorded;
        ahead = g.ahead;
        inside = c.loop-place-test.true;
        of_values = omega (arith, i.9);
        of_elements = omega (arith, i.0);
        of_sums = omega (arith, i.1);
        of_weights = omega (arith, i.2);
        within = g.within;
      },
      record {
        narrow = rows.narrow;
        in_words = rows.in_words;
        of_x = i.4 ∙ rows.of_x;
        of_z = i.5 ∙ rows.of_z;
        of_deltas = i.6 ∙ rows.of_deltas;
        of_noiseless = rows.of_noiseless;
      },
      omega (arith, i.3, rows.narrow),
      i.8,
    )

pub shape_of-x-in-Err : goal.shape_of-x-in-Err
shape_of-x-in-Err c = c.step-moved.auto.x ∙ c.loop-place.invariant.4

pub shape_of-z-in-Err : goal.shape_of-z-in-Err
shape_of-z-in-Err c = c.step-moved.auto.z ∙ c.loop-place.invariant.5

pub shape_of-deltas-in-Err : goal.shape_of-deltas-in-Err
shape_of-deltas-in-Err c = c.step-moved.auto.deltas ∙ c.loop-place.invariant.6

pub shape_of-totals-in-Err : goal.shape_of-totals-in-Err
shape_of-totals-in-Err c = c.step-moved.ensures.1.long ∙ sym c.requires.2.long

pub returns-in-Err : goal.returns-in-Err
returns-in-Err c =
    let g = c.loop-place.invariant.7 in
    let left = stopped_left _ _ _ _ g _ _ _ _ (λ recorded ahead states holds. rw c.in-Err.is at (c.step-moved.ensures.0.by recorded ahead states holds)) in (
      record {
        by = going_stopped _ _ _ _ g _ _ _ _
            (λ recorded ahead states holds. rw c.in-Err.is at (c.step-moved.ensures.0.by recorded ahead states holds));
        within = left.0;
        leaves = left.1;
      },
      c.step-moved.ensures.1,
    )

pub loop-place-smaller : goal.loop-place-smaller
loop-place-smaller c =
    going_fewer _ _ _ _ c.loop-place.invariant.7 _ _ _ _
    (λ recorded ahead states holds. rw c.in-Ok.is at (c.step-moved.ensures.0.by recorded ahead states holds))

pub loop-place-preserved : goal.loop-place-preserved
loop-place-preserved c =
    let i = c.loop-place.invariant in (
      c.step-moved.auto.elements ∙ i.0,
      c.step-moved.auto.sums ∙ i.1,
      c.step-moved.auto.weights ∙ i.2,
      c.step-moved.auto.scratch ∙ i.3,
      c.step-moved.auto.x ∙ i.4,
      c.step-moved.auto.z ∙ i.5,
      c.step-moved.auto.deltas ∙ i.6,
      going_on _ _ _ _ i.7 _ _ _ _
          (λ recorded ahead states holds. rw c.in-Ok.is at (c.step-moved.ensures.0.by recorded ahead states holds)),
      c.step-moved.ensures.1,
      omega (arith, c.step-moved.auto.values, i.9),
    )

pub shape_of-x : goal.shape_of-x
shape_of-x c = c.loop-place.invariant.4

pub shape_of-z : goal.shape_of-z
shape_of-z c = c.loop-place.invariant.5

pub shape_of-deltas : goal.shape_of-deltas
shape_of-deltas c = c.loop-place.invariant.6

pub shape_of-totals : goal.shape_of-totals
shape_of-totals c = c.loop-place.invariant.8.long ∙ sym c.requires.2.long

pub returns : goal.returns
returns c =
    let g = c.loop-place.invariant.7 in
    let left = end_left _ _ _ _ g c.loop-place-test.false in (
      record { by = going_end _ _ _ _ g c.loop-place-test.false; within = left.0; leaves = left.1 },
      c.loop-place.invariant.8,
    )
