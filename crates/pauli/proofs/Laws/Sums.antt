-- The sum of a set's bits over a list of numbers goes by the numbers that are listed an odd number of times.
-- Assumes nothing.
use Rattle.std.specs.Prelude.{◌≡◌, List, [], ◌∷◌, ℕ, suc, ◌<◌}
use Rattle.std.proofs.Common.{sym, arith}
use Rattle.pauli.specs.Bits.{Bits, none, only, ◌∩◌, ◌△◌, parity, sum_over}
use Rattle.pauli.specs.Fixed.{AllBelow}
use Rattle.pauli.proofs.Laws.Parity.{parity_△_right, parity_only_right, parity_none_right}

-- the numbers that are listed an odd number of times
unfoldable pub odd_members : List ℕ → Bits
odd_members [] = none
odd_members (q ∷ l) = only q △ odd_members l

pub below_tail : (n q : ℕ) (l : List ℕ) → AllBelow n (q ∷ l) → AllBelow n l
below_tail n q l all = record { below = λ i h. all.below (suc i) (omega arith) }

pub sum_over_odd : (n : ℕ) (s : Bits) (l : List ℕ) → AllBelow n l → sum_over l s ≡ parity n (s ∩ odd_members l)
unfolding sum_over odd_members
sum_over_odd n s [] all = sym (parity_none_right n s)
sum_over_odd n s (q ∷ l) all =
    let first : q < n = all.below 0 (omega arith) in
    rw (sum_over_odd n s l (below_tail n q l all)) (simp (parity_△_right, parity_only_right))
