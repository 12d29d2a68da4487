-- The sum of a set's deltas: words are added, and the shot's bit is taken. Laws. Assumes nothing.
use Rattle.std.specs.Prelude.{◌≡◌, refl, Bool, true, false, List, ℕ, ◌+◌, ◌*◌, ◌/◌, ◌%◌, ◌^◌, ◌<◌, ◌≤◌, eqb, length, get_or, drop}
use Rattle.std.proofs.Common.{sym, ◌∙◌, add-one, arith, eqb-true, drop_of_length-le}
use Rattle.std.proofs.Math.Path.{ap}
use Rattle.std.proofs.Math.Bool.{cond}
use Rattle.std.proofs.lemmas.Bool.{eqb-false}
use Rattle.std.specs.Int.Bits.{bit_xor}
use Rattle.std.proofs.Math.Seq.{drop-cons}
use Rattle.pauli.specs.Bits.{◌⊕◌, sum_over, bit}
use Rattle.pauli.proofs.Laws.F2.{⊕_assoc, ⊕_false}
use Rattle.pauli.proofs.Laws.Word.{bit_zero, bit_xor_lem}
use Rattle.rows.specs.Words.{bit_in}
use Rattle.rows.specs.Column.{column}
use Rattle.totals.specs.Sum.{delta_sum_of}

-- the shot's bit of the words that were added, and the deltas of the outcomes from place i on
unfoldable pub sum_from : ℕ → List ℕ → ℕ → List ℕ → ℕ → ℕ → Bool
sum_from w deltas shot set word i = bit word (shot % 64) ⊕ sum_over (drop i set) (column w deltas shot)

bit_of : (n : ℕ) → n % 2 ≡ cond (eqb (n % 2) 1) 1 0
bit_of n = go (eqb (n % 2) 1) refl
  where
    go : (b : Bool) → eqb (n % 2) 1 ≡ b → n % 2 ≡ cond b 1 0
    go true e = eqb-true (n % 2) 1 e
    go false e = let ne = eqb-false (n % 2) 1 e in omega arith

module _ (w : ℕ) (deltas : List ℕ) (shot : ℕ) (set : List ℕ) where
  pub sum_starts : sum_from w deltas shot set 0 0 ≡ sum_over set (column w deltas shot)
  unfolding sum_from ◌⊕◌
  sum_starts = rw (bit_zero (shot % 64))

  pub sum_turn : (word i : ℕ) → i < length set → sum_from w deltas shot set word i ≡ sum_over set (column w deltas shot)
      → sum_from w deltas shot set (bit_xor word (get_or deltas (get_or set i 0 * w + shot / 64) 0)) (i + 1) ≡ sum_over set (column w deltas shot)
  sum_turn word i h inv = step ∙ inv
    where
      step : sum_from w deltas shot set (bit_xor word (get_or deltas (get_or set i 0 * w + shot / 64) 0)) (i + 1) ≡ sum_from w deltas shot set word i
      step =
          unfold sum_from sum_over column bit_in in
          rw (add-one, bit_xor_lem word (get_or deltas (get_or set i 0 * w + shot / 64) 0) (shot % 64), drop-cons set i 0 h) (⊕_assoc _ _ _)

  pub sum_ends : (word i : ℕ) → length set ≤ i → sum_from w deltas shot set word i ≡ sum_over set (column w deltas shot)
      → word / 2 ^ (shot % 64) % 2 ≡ delta_sum_of w deltas shot set
  sum_ends word i h inv = bit_of (word / 2 ^ (shot % 64)) ∙ (unfold delta_sum_of bit in ap (λ (b : Bool). cond b 1 0) (last ∙ inv))
    where
      last : bit word (shot % 64) ≡ sum_from w deltas shot set word i
      last = unfold sum_from sum_over in rw (drop_of_length-le set h) (sym (⊕_false _))
