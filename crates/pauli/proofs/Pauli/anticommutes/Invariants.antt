-- `pauli::Pauli::anticommutes` meets its contract. The loop's invariant: the ones of w are odd in number if the clashes below 64 * i are.
use mathlib.Core.Path.{◌≡◌}
use Prim.Native.Nat.{◌*◌, ◌^◌, ◌≤◌, ◌<◌}
use Rattle.pauli.specs.Bits.{parity, bit}
use Rattle.pauli.proofs.Laws.Clash.{clash}
use Rattle.pauli.proofs.Pauli.anticommutes.Given as goal

abbrev pub invariant-loop-i : goal.invariant-loop-i
invariant-loop-i l = (l.i ≤ 4) × (l.w < 2 ^ 64) × (parity (64 * l.i) (clash (record { x = l.x; z = l.z }) (record { x = l.other_x; z = l.other_z })) ≡ parity 64 (bit l.w))
