-- `lines::unitary` meets its contract. Assumes nothing.
use mathlib.Core.Path.{◌≡◌, ◌∙◌}
use Rattle.std.proofs.Math.Option.{some}
use Rattle.pauli.specs.Gate.{gate_of}
use Rattle.instructions.specs.Laws.Read.{unitary_read}
use Rattle.job.specs.Sound.{LineSound}
use Rattle.lines.specs.Laws.Obey.{named_gate, not_nameless}
use native.Mathlib.Omega.{arith}
use Rattle.lines.proofs.unitary.Goals as goal

pub number-requires : goal.number-requires
number-requires c = omega arith

pub list-requires : goal.list-requires
list-requires c = (omega arith, (unitary_read c.requires.plain).2.few 0 (omega arith))

pub apply_unitary_op-requires : goal.apply_unitary_op-requires
unfolding LineSound
apply_unitary_op-requires c =
    let e = c.list.ensures in
    let (g, k, r) = unitary_read c.requires.plain in
    let s = r.sound in
    let known : gate_of c.number.result ≡ some g = rw c.number.ensures k in
    let named = named_gate (c.from_code.ensures ∙ known) c.in-Some.is in
    (c.requires.of_x, c.requires.of_z, rw (e, named) s.count, rw e s.operands.below, rw e s.operands.apart)

pub returns-in-Some : goal.returns-in-Some
returns-in-Some c =
    let e = c.list.ensures in
    record {
      acts = λ m line p d.
          let (g, k, r) = unitary_read p in
          let known : gate_of c.number.result ≡ some g = rw c.number.ensures k in
          let named = named_gate (c.from_code.ensures ∙ known) c.in-Some.is in
          rw (← r.is, ← e, ← named) (c.apply_unitary_op.ensures m d);
    }

pub returns-in-None : goal.returns-in-None
returns-in-None c =
    let (g, k, r) = unitary_read c.requires.plain in
    let known : gate_of c.number.result ≡ some g = rw c.number.ensures k in
    absurd (not_nameless (c.from_code.ensures ∙ known) c.in-None.is)
