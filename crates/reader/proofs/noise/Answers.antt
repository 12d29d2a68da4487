-- `reader::noise` meets its contract. Assumes nothing.
use native.Mathlib.Omega.{arith}
use mathlib.Core.Path.{refl, ◌∙◌}
use Rattle.text.specs.Bytes.{bytes}
use Rattle.reader.specs.Tried.{noise_begin_of}
use Rattle.reader.specs.Laws.Noise.{not_begun, parity_known, parity_bad, no_digit}
use Rattle.reader.proofs.noise.Goals as goal

pub returns-in_err-begun : goal.returns-in_err-begun
unfolding noise_begin_of bytes
returns-in_err-begun c = rw c.from_residual.ensures (not_begun (c.in_err-begun.ensures.refused refl (record { for_numbers = omega arith; for_lists = omega arith })))

pub returns-then-line-begun : goal.returns-then-line-begun
unfolding noise_begin_of bytes
returns-then-line-begun c = no_digit (c.in_ok-begun.ensures.read _ refl) c.if-line-begun.true

pub count-requires : goal.count-requires
count-requires c = omega arith

pub number-requires : goal.number-requires
number-requires c = omega arith

pub returns-then-parity_alone : goal.returns-then-parity_alone
unfolding noise_begin_of bytes
returns-then-parity_alone c =
    let begun = c.in_ok-begun.ensures.read _ refl in
    parity_bad begun (parity_known begun c.count.ensures c.number.ensures c.parity_alone.ensures ∙ c.if-parity_alone.true)

pub bounds-line-begun : goal.bounds-line-begun
bounds-line-begun c = omega arith

pub noise_kind-requires : goal.noise_kind-requires
unfolding noise_begin_of bytes
noise_kind-requires c =
    let begun = c.in_ok-begun.ensures.read _ refl in
    (record { before = _; begins = begun; parity = parity_known begun c.count.ensures c.number.ensures c.parity_alone.ensures ∙ c.if-parity_alone.false }, refl, omega (arith, c.noise_begin.auto.fields, c.requires))

pub returns : goal.returns
returns c = c.noise_kind.ensures
