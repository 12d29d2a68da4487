-- `execution::step` meets its contract. Assumes nothing.
use Rattle.execution.specs.Laws.Steps.{plain_ready, plain_small, plain_went, noise_ready, noise_done}
use Rattle.instructions.specs.Laws.Steps.{ahead_known, plain_read, noise_read}
use mathlib.Core.Path.{sym, ◌∙◌}
use native.Mathlib.Omega.{arith}
use Rattle.execution.proofs.step.Goals as goal

pub next_known-line-requires : goal.next_known-line-requires
next_known-line-requires c = let ready = c.requires.0 in (ahead_known ready.ahead ready.inside, ready.of_values)

pub apply_noise-requires : goal.apply_noise-requires
apply_noise-requires c =
    let ready = c.requires.0 in
    let rows = c.requires.1 in (
      noise_ready _ _ (noise_read ready.ahead c.next_known-line.ensures (sym c.is_noise.ensures ∙ c.if-is_noise.true)) rows.of_noiseless,
      record {
        of_values = omega (arith, ready.of_values, c.next_known-line.auto);
        of_elements = ready.of_elements;
        of_sums = ready.of_sums;
        of_weights = ready.of_weights;
        of_mask = omega (arith, c.requires.2);
        in_words = rows.in_words;
        of_x = rows.of_x;
        of_z = rows.of_z;
      },
      ready.within,
    )

pub returns-then-is_noise : goal.returns-then-is_noise
returns-then-is_noise c = (
  record {
    by = λ recorded ahead states holds.
        noise_done _ _ (noise_read ahead c.next_known-line.ensures (sym c.is_noise.ensures ∙ c.if-is_noise.true)) c.requires.1.of_noiseless
        c.apply_noise.ensures _ states holds;
  },
  c.requires.3,
)

pub apply_line-requires : goal.apply_line-requires
apply_line-requires c =
    let ready = c.requires.0 in
    (plain_ready _ c.args.place (plain_read ready.ahead c.next_known-line.ensures (sym c.is_noise.ensures ∙ c.if-is_noise.false)) ready.ahead c.requires.1 (omega (arith, c.requires.0.of_values, c.next_known-line.auto)), c.requires.2, c.requires.3)

pub overflow_add-result : goal.overflow_add-result
overflow_add-result c =
    let ready = c.requires.0 in
    let place = c.next_known-line.ensures.place in
    let inside = place.inside in
    record { fits = omega (arith, c.well_formed, plain_small _ c.args.place (plain_read ready.ahead c.next_known-line.ensures (sym c.is_noise.ensures ∙ c.if-is_noise.false)) ready.ahead c.requires.1 (omega (arith, c.requires.0.of_values, c.next_known-line.auto))) }

pub overflow_add-result-2 : goal.overflow_add-result-2
overflow_add-result-2 c =
    let ready = c.requires.0 in
    let place = c.next_known-line.ensures.place in
    let inside = place.inside in
    record { fits = omega (arith, c.well_formed, plain_small _ c.args.place (plain_read ready.ahead c.next_known-line.ensures (sym c.is_noise.ensures ∙ c.if-is_noise.false)) ready.ahead c.requires.1 (omega (arith, c.requires.0.of_values, c.next_known-line.auto))) }

pub returns : goal.returns
returns c =
    let ready = c.requires.0 in (
      record {
        by = λ recorded ahead states holds.
            plain_went _ _ (plain_read ahead c.next_known-line.ensures (sym c.is_noise.ensures ∙ c.if-is_noise.false)) ahead c.requires.1
            (omega (arith, c.requires.0.of_values, c.next_known-line.auto)) _ _ ready.within _ _ _ c.apply_line.ensures.0 states holds;
      },
      c.apply_line.ensures.1,
    )
