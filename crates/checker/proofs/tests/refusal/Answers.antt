-- `checker::tests::refusal` meets its contract. Assumes nothing.
use mathlib.Core.Path.{refl, sym, ap, ◌∙◌}
use mathlib.Core.Bool.{not, ◌&&◌, true≢false}
use Rattle.job.specs.Checks.{expected as Checks·expected, refusal_of}
use Rattle.check_values.specs.Contexts.{context_of}
use Rattle.check_values.specs.Laws.Lowest.{fails, passes, left_false, right_false, both_true}
use Rattle.checker.proofs.tests.refusal.Goals as goal

pub returns-then-not-expected : goal.returns-then-not-expected
unfolding refusal_of
returns-then-not-expected c = (
  λ u. refl,
  λ vs w h. fails 2 _ _ (left_false _ _ (left_false _ _ (sym (c.expected.ensures.1 vs w h) ∙ c.if-not-expected.true))),
)

pub returns-then-missing : goal.returns-then-missing
unfolding refusal_of
returns-then-missing c = (
  λ u. refl,
  λ vs w h.
      fails 2 _ _ (left_false _ _ (right_false (Checks·expected (context_of c.args.c) w) _ (ap not (sym (c.missing.ensures vs w h) ∙ c.if-missing.true)))),
)

pub returns-then-not-in_edition : goal.returns-then-not-in_edition
unfolding refusal_of
returns-then-not-in_edition c = (
  λ u. refl,
  λ vs w h. fails 2 _ _ (right_false (Checks·expected _ w && _) _ (sym (c.in_edition.ensures vs w h) ∙ c.if-not-in_edition.true)),
)

pub returns-then-not-header_fits : goal.returns-then-not-header_fits
unfolding refusal_of
returns-then-not-header_fits c = (
  λ u. absurd (true≢false (sym (c.if-not-expected.false) ∙ c.expected.ensures.0 u)),
  λ vs w h.
      fails 3 _ _ (sym (c.header_fits.ensures vs w h) ∙ c.if-not-header_fits.true)
      ∙ passes 2 _ _ (both_true (both_true (sym (c.expected.ensures.1 vs w h) ∙ c.if-not-expected.false) (ap not (sym (c.missing.ensures vs w h) ∙ c.if-missing.false))) (sym (c.in_edition.ensures vs w h) ∙ c.if-not-in_edition.false)),
)

pub returns : goal.returns
unfolding refusal_of
returns c = (
  λ u. absurd (true≢false (sym (c.if-not-expected.false) ∙ c.expected.ensures.0 u)),
  λ vs w h.
      let due = sym (c.expected.ensures.1 vs w h) ∙ c.if-not-expected.false in
      c.own_number.ensures vs w h due
      ∙ passes 3 _ _ (sym (c.header_fits.ensures vs w h) ∙ c.if-not-header_fits.false)
      ∙ passes 2 _ _ (both_true (both_true due (ap not (sym (c.missing.ensures vs w h) ∙ c.if-missing.false))) (sym (c.in_edition.ensures vs w h) ∙ c.if-not-in_edition.false)),
)
