use Prim.Native.Nat.{◌+◌, ◌*◌, ◌≤◌, ◌<◌}
use native.Mathlib.Omega.{arith}
use mathlib.Core.Path.{◌≡◌, refl, sym, ap, ◌∙◌}
use mathlib.Core.Option.{some}
use lib.ListN.{length, get_or}
use Rattle.text.specs.Number.{hex_digit}
use Rattle.text.proofs.Laws.Numbers.{hex_value, hex_end_value, hex_length, hex_undigit, hex_good, hex_grows, hex_fits}
use Rattle.numbers.specs.Read.{read}
use Rattle.numbers.specs.Laws.Hex.{hex_digit_lem, hex_next}
use Rattle.numbers.proofs.hex16.Goals as goal

pub returns-then-s-ne16 : goal.returns-then-s-ne16
unfolding read
returns-then-s-ne16 c = sym (hex_length _ c.if-s-ne16.true)

pub returns-then-not-all_hex : goal.returns-then-not-all_hex
unfolding read
returns-then-not-all_hex c = sym (hex_undigit _ (sym c.all_hex.ensures ∙ c.if-not-all_hex.true))

pub loop-i-init : goal.loop-i-init
loop-i-init c = (omega arith, omega arith, sym c.all_hex.ensures ∙ c.if-not-all_hex.false, refl)

pub overflow_mul-v : goal.overflow_mul-v
overflow_mul-v c =
    let loop = c.loop-i in
    let g = hex_grows loop.v 0 loop.i loop.invariant.1 (omega arith) in
    omega (arith, hex_fits loop.i (loop.v * 16 + 0) (omega arith) g)

pub overflow_add-v : goal.overflow_add-v
overflow_add-v c =
    let loop = c.loop-i in
    let d = c.hex_value.result in
    let small : d < 16 = omega (arith, c.hex_value.ensures) in
    let g = hex_grows loop.v d loop.i loop.invariant.1 small in
    omega (arith, hex_fits loop.i (loop.v * 16 + d) (omega arith) g)

pub loop-i-preserved : goal.loop-i-preserved
loop-i-preserved c =
    let s = c.args.s.now in
    let loop = c.loop-i in
    let d = c.hex_value.result in
    let h : loop.i < length s = omega arith in
    let next = hex_next s loop.i h loop.invariant.2 in
    let digit : d ≡ hex_digit (get_or s loop.i 0) = c.hex_value.ensures ∙ (hex_digit_lem (get_or s loop.i 0) next.0).0 in (
      omega arith,
      hex_grows loop.v d loop.i loop.invariant.1 (rw digit next.0),
      next.1,
      rw digit (loop.invariant.3 ∙ hex_value s loop.i h loop.v),
    )

pub returns : goal.returns
unfolding read
returns c =
    let s = c.args.s.now in
    let loop = c.loop-i in
    let h : length s ≤ loop.i = omega arith in
    let value = loop.invariant.3 ∙ hex_end_value s loop.i h loop.v in
    ap some (sym value) ∙ sym (hex_good s (omega arith) (sym c.all_hex.ensures ∙ c.if-not-all_hex.false))
