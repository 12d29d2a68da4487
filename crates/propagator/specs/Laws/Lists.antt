-- Lists of qubits and outcomes without repeats: as sets, as sums, as rows. Assumes nothing.
use Rattle.std.specs.Prelude.{◌≡◌, true, not, ◌&&◌, List, [], ◌∷◌, ℕ, ◌+◌, ◌*◌, ◌<◌, ◌≤◌, length, get_or}
use Rattle.std.proofs.Math.Path.{refl, fun_ext}
use Rattle.std.proofs.Common.{ap, ◌∙◌, arith}
use Rattle.pauli.specs.Bits.{Bits, only, outside, members, ◌⊕◌, ◌∩◌, ◌△◌, parity, sum_over}
use Rattle.pauli.proofs.Laws.Parity.{at_or_off}
use Rattle.pauli.proofs.Laws.Sums.{odd_members, sum_over_odd}
use Rattle.job.specs.Line.{SparsePauli}
use Rattle.job.specs.Sound.{PauliSound}
use Rattle.job.specs.Checks.{all_below, distinct}
use Rattle.job.proofs.Laws.Lists.{below_at, rising_distinct}
use Rattle.frames.proofs.Laws.Places.{distinct_cons}
use Rattle.rows.specs.Listed.{RowsIn}
use Rattle.rows.proofs.Laws.Overwrite.{before_row}
use Rattle.propagator.specs.Acts.{PauliIn}

members_cons : (q : ℕ) (l : List ℕ) → outside l q ≡ true → members (q ∷ l) ≡ only q △ members l
unfolding members outside only ◌△◌ ◌⊕◌
members_cons q l h = fun_ext (at_or_off (λ i e. not (not e && outside l i) ≡ e ⊕ not (outside l i)) q (rw h) (λ i. refl))

-- what is listed once is listed an odd number of times
pub odd_members_lem : (l : List ℕ) → distinct l ≡ true → odd_members l ≡ members l
unfolding odd_members
odd_members_lem [] d = unfold members outside Rattle.pauli.specs.Bits.none in refl
odd_members_lem (q ∷ l) d = let once = distinct_cons q l d in rw (members_cons q l once.first, odd_members_lem l once.rest)

-- the sum over a list is the parity of the overlap with its members
pub sum_members : (n : ℕ) (s : Bits) (l : List ℕ) → all_below n l ≡ true → distinct l ≡ true → sum_over l s ≡ parity n (s ∩ members l)
sum_members n s l b d = sum_over_odd n s l (record { below = below_at n l b }) ∙ ap (λ (t : Bits). parity n (s ∩ t)) (odd_members_lem l d)

-- ---- rows

-- a row of n rows lies in k words
pub row_in : (w n q k : ℕ) → k ≡ n * w → q < n → q * w + w ≤ k
row_in w n q k e h = omega (arith, before_row w q n h)

pub rows_in : (w n : ℕ) (words l : List ℕ) → length words ≡ n * w → all_below n l ≡ true → RowsIn w l words
rows_in w n words l e b = record { fits = λ i h. row_in w n (get_or l i 0) (length words) e (below_at n l b i h) }

-- ---- a Pauli of an accepted line

pub sound_in : (n : ℕ) (P : SparsePauli) → PauliSound n P → PauliIn n P.x P.z
sound_in n P s =
    record {
      x_below = s.x.below;
      x_once = rising_distinct P.x s.x.rising;
      z_below = s.z.below;
      z_once = rising_distinct P.z s.z.rising;
    }
