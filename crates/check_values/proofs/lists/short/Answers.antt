use mathlib.Core.Bool.{true≢false}
use Rattle.check_values.specs.Laws.Slots.{up_to, each_short_lem, each_fails, each_next, each_end}
use native.Mathlib.Omega.{arith}
use mathlib.Core.Path.{refl, sym, ◌∙◌}
use borrow.Author.Tests.{lt-leb, le-leb}
use lib.ListN.{length}
use Rattle.text.specs.Template.{list_at_of}
use Rattle.template.specs.Values.{AllKept}
use Rattle.check_values.proofs.lists.short.Goals as goal

pub loop-i-init : goal.loop-i-init
loop-i-init c = (λ numbers lists vs h g. refl, λ j h g. absurd (omega arith))

pub count-requires : goal.count-requires
count-requires c = omega arith

pub returns-then-count-gt-MAX_MEMBERS : goal.returns-then-count-gt-MAX_MEMBERS
returns-then-count-gt-MAX_MEMBERS c = record {
  by_index = λ numbers lists vs h g.
      let e = h.count c.loop-i.i (omega arith) in
      sym (c.loop-i.invariant.0 numbers lists vs h g ∙ each_fails each_short_lem vs _ _ c.loop-i-test.true (lt-leb (length (list_at_of c.loop-i.i vs)) 31 (omega (arith, c.if-count-gt-MAX_MEMBERS.true))));
  all_kept = λ z. absurd (true≢false (sym z));
}

pub loop-i-preserved : goal.loop-i-preserved
loop-i-preserved c = (
  λ numbers lists vs h g.
      let e = h.count c.loop-i.i (omega arith) in
      c.loop-i.invariant.0 numbers lists vs h g ∙ each_next each_short_lem vs _ _ c.loop-i-test.true (le-leb (length (list_at_of c.loop-i.i vs)) 31 (omega (arith, c.if-count-gt-MAX_MEMBERS.false))),
  up_to (AllKept c.args.f.words.now) _ _ c.loop-i.invariant.1 (omega (arith, c.if-count-gt-MAX_MEMBERS.false, c.count.ensures)),
)

pub returns : goal.returns
returns c = record {
  by_index = λ numbers lists vs h g. sym (c.loop-i.invariant.0 numbers lists vs h g ∙ each_end each_short_lem vs _ _ c.loop-i-test.false);
  all_kept = λ z j h g. c.loop-i.invariant.1 j h (omega arith);
}
