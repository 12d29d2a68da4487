use Prim.Native.Nat.{◌+◌, ◌-◌, ◌*◌, ◌^◌, ◌<◌}
use native.Mathlib.Omega.{arith}
use mathlib.Core.Path.{refl, sym, ap, ◌∙◌}
use borrow.Author.Tests.{ltb-true, ltb-false}
use lib.ListN.{length, drop, get_or}
use mathlib.Core.Option.{some}
use Rattle.numbers.specs.Read.{read}
use Rattle.text.proofs.Laws.Numbers.{step_digit, step_low, step_high, step_value, end_digit, end_value, decimal_grows, number_improper, number_undigit, number_large, number_good}
use Rattle.numbers.proofs.number.Goals as goal

pub returns-then-not-proper : goal.returns-then-not-proper
unfolding read
returns-then-not-proper c = sym (number_improper _ (sym c.proper.ensures ∙ c.if-not-proper.true))

pub loop-i-init : goal.loop-i-init
loop-i-init c = (omega arith, omega arith, refl, refl)

pub bounds-s-i : goal.bounds-s-i
bounds-s-i c = omega arith

pub returns-then-b-lt48 : goal.returns-then-b-lt48
unfolding read
returns-then-b-lt48 c =
    let s = c.args.s.now in
    let loop = c.loop-i in
    sym (number_undigit s (loop.invariant.2 ∙ step_low s loop.i (omega arith) c.if-b-lt48.true))

pub returns-then-b-gt57 : goal.returns-then-b-gt57
unfolding read
returns-then-b-gt57 c =
    let s = c.args.s.now in
    let loop = c.loop-i in
    sym (number_undigit s (loop.invariant.2 ∙ step_high s loop.i (omega arith) c.if-b-gt57.true))

pub fits-requires : goal.fits-requires
fits-requires c = omega arith

pub returns-then-not-fits : goal.returns-then-not-fits
unfolding read
returns-then-not-fits c =
    let s = c.args.s.now in
    let loop = c.loop-i in
    let e = loop.invariant.3 ∙ step_value s loop.i (omega arith) loop.v in
    let g = decimal_grows (loop.v * 10 + (get_or s loop.i 0 - 48)) (drop (loop.i + 1) s) in
    let large = ltb-false (loop.v * 10 + (get_or s loop.i 0 - 48)) (2 ^ 64) (sym c.fits.ensures ∙ c.if-not-fits.true) in
    sym (number_large s (omega arith))

pub overflow_mul-v : goal.overflow_mul-v
overflow_mul-v c =
    let s = c.args.s.now in
    let loop = c.loop-i in
    let small = ltb-true (loop.v * 10 + (get_or s loop.i 0 - 48)) (2 ^ 64) (sym c.fits.ensures ∙ c.if-not-fits.false) in
    omega arith

pub overflow_add-v : goal.overflow_add-v
overflow_add-v c =
    let s = c.args.s.now in
    let loop = c.loop-i in
    let small = ltb-true (loop.v * 10 + (get_or s loop.i 0 - 48)) (2 ^ 64) (sym c.fits.ensures ∙ c.if-not-fits.false) in
    omega arith

pub loop-i-preserved : goal.loop-i-preserved
loop-i-preserved c =
    let s = c.args.s.now in
    let loop = c.loop-i in
    let h : loop.i < length s = omega arith in
    let small = ltb-true (loop.v * 10 + (get_or s loop.i 0 - 48)) (2 ^ 64) (sym c.fits.ensures ∙ c.if-not-fits.false) in (
      omega arith,
      omega arith,
      loop.invariant.2 ∙ step_digit s loop.i h (omega arith) (omega arith),
      loop.invariant.3 ∙ step_value s loop.i h loop.v,
    )

pub returns : goal.returns
unfolding read
returns c =
    let s = c.args.s.now in
    let loop = c.loop-i in
    let fine = sym c.proper.ensures ∙ c.if-not-proper.false in
    let value = loop.invariant.3 ∙ end_value s loop.i (omega arith) loop.v in
    ap some (sym value) ∙ sym (number_good s fine (loop.invariant.2 ∙ end_digit s loop.i (omega arith)) (omega arith))
