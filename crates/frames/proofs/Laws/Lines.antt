-- What the test of a unitary line says of its operands. Assumes nothing.
use Rattle.std.specs.Prelude.{◌≡◌, Bool, true, ◌&&◌, List, ℕ, ◌<◌, eqb, length, get_or}
use Rattle.std.proofs.Common.{arith, eqb-true}
use Rattle.text.proofs.Laws.Values.{both}
use Rattle.pauli.specs.Gate.{Gate, operands_of}
use Rattle.job.specs.Checks.{all_below, distinct}
use Rattle.job.proofs.Laws.Lists.{below_at, distinct_at}
use Rattle.frames.proofs.Laws.Gates.{GateOperands}

-- below n, none twice, and what else is tested
pub record Tested (n : ℕ) (qs : List ℕ) (rest : Bool) : Type 0 where
  pub below : all_below n qs ≡ true
  pub once : distinct qs ≡ true
  pub last : rest ≡ true

pub tested : (n : ℕ) (qs : List ℕ) (rest : Bool) → all_below n qs && distinct qs && rest ≡ true → Tested n qs rest
tested n qs rest e =
    let p = both (all_below n qs && distinct qs) rest e in
    let q = both (all_below n qs) (distinct qs) p.0 in
    record { below = q.0; once = q.1; last = p.1 }

takes_some : (g : Gate) → 0 < operands_of g
unfolding operands_of
takes_some Gate.I = omega arith
takes_some Gate.X = omega arith
takes_some Gate.Y = omega arith
takes_some Gate.Z = omega arith
takes_some Gate.Hadamard = omega arith
takes_some Gate.SqrtZ = omega arith
takes_some Gate.SqrtZInv = omega arith
takes_some Gate.SqrtX = omega arith
takes_some Gate.SqrtXInv = omega arith
takes_some Gate.SqrtY = omega arith
takes_some Gate.SqrtYInv = omega arith
takes_some Gate.ControlledX = omega arith
takes_some Gate.ControlledZ = omega arith
takes_some Gate.Swap = omega arith
takes_some Gate.PrepareBell = omega arith
takes_some Gate.ControlledY = omega arith

pub operands : (n : ℕ) (g : Gate) (qs : List ℕ) → Tested n qs (eqb (length qs) (operands_of g)) → GateOperands n g (get_or qs 0 0) (get_or qs 1 0)
operands n g qs l =
    record {
      first = below_at n qs l.below 0 (omega (arith, many, takes_some g));
      second = λ two. below_at n qs l.below 1 (omega (arith, many, two));
      different = λ two e. let z : ◌≡◌ {A = ℕ} 0 1 = distinct_at qs l.once 0 1 (omega (arith, many, two)) (omega (arith, many, two)) e in omega (arith, z);
    }
  where
    many : length qs ≡ operands_of g
    many = eqb-true (length qs) (operands_of g) l.last
