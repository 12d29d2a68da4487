-- A count modulo 2. Laws. Assumes nothing.
use Rattle.std.specs.Prelude.{◌≡◌, refl, Bool, true, false, not, cond, ℕ, zero, suc, ◌%◌}
use Rattle.std.proofs.Common.{arith}
use Rattle.pauli.specs.Bits.{odd}

pub odd_mod : (n : ℕ) → cond (odd n) 1 0 ≡ n % 2
unfolding odd
odd_mod zero = refl
odd_mod (suc n) = next (odd n) (odd_mod n)
  where
    next : (b : Bool) → cond b 1 0 ≡ n % 2 → cond (not b) 1 0 ≡ suc n % 2
    next true e = omega arith
    next false e = omega arith
