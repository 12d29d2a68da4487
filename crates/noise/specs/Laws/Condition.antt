-- A condition's mask, in every shot. Laws. Assumes nothing.
use Rattle.std.specs.Prelude.{◌≡◌, ℕ, suc, ◌+◌, ◌-◌, ◌*◌, ◌/◌, ◌%◌, ◌^◌, ◌<◌, ◌≤◌, Bool, true, false, not, ◌||◌, List, [], ◌∷◌, ◌++◌, length, get_or, drop, replicate, ◌==◌, nat_eq, refl}
use Rattle.std.proofs.Math.Nat.{zero-mul, zero-add}
use Rattle.std.proofs.Common.{mod-lt, add-one, arith, ap, ◌∙◌, lit<, pow_pos, eq-eqb, ne_eqb}
use Rattle.std.proofs.Math.Pow.{high, ones_lt, ones_split}
use Rattle.pauli.specs.Bits.{Bits, added, ◌⊕◌, sum_over, bit}
use Rattle.job.specs.Grammar.{is_one}
use Rattle.draws.specs.Draws.{is_satisfied}
use Rattle.rows.specs.Words.{bit_in}
use Rattle.rows.specs.Overwrite.{xored}
use Rattle.rows.specs.Listed.{over_list}
use Rattle.rows.specs.Column.{column}
use Rattle.std.proofs.lemmas.List.{length-append, length-replicate, get_or-replicate, get_or_append_left}
use Rattle.rows.proofs.Laws.Column.{column_add_listed}
use Rattle.noise.specs.Condition.{condition_of, Masks}

-- all bits of a word
pub bit_ones : (k : ℕ) → k < 64 → bit (2 ^ 64 - 1) k ≡ true
unfolding bit
bit_ones k h =
    let j = 63 - k in
    let even : 2 ^ (j + 1) ≡ 2 ^ suc j = ap (λ (n : ℕ). 2 ^ n) (add-one j) in
    let whole : 64 ≡ j + 1 + k = omega arith in
    let all : 2 ^ 64 - 1 ≡ 2 ^ (j + 1 + k) - 1 = ap (λ (n : ℕ). 2 ^ n - 1) whole in
    let shifted : (2 ^ 64 - 1) / 2 ^ k ≡ 2 ^ (j + 1) - 1 =
    ap (λ (n : ℕ). n / 2 ^ k) (all ∙ ones_split (j + 1) k) ∙ high (2 ^ (j + 1) - 1) k (ones_lt k) in
    eq-eqb _ 1 (ap (λ (n : ℕ). n % 2) shifted ∙ omega (arith, pow_pos j))

-- a bit before the noiseless bits are added, and after
satisfied : (outcomes : List ℕ) (parity : ℕ) (bits : Bits)
    → (length outcomes == 0 || not (is_one parity)) ⊕ sum_over outcomes bits ≡ is_satisfied (condition_of outcomes parity) bits
unfolding is_satisfied sum_over ◌⊕◌
satisfied [] parity bits = refl
satisfied (q ∷ qs) parity bits =
    let some : nat_eq (suc (length qs)) 0 ≡ false = ne_eqb (suc (length qs)) 0 (λ (e : suc (length qs) ≡ 0). omega arith) in
    rw some (go (bits q ⊕ sum_over qs bits) (is_one parity))
  where
    go : (s p : Bool) → not p ⊕ s ≡ not (s ⊕ p)
    go true true = refl
    go true false = refl
    go false true = refl
    go false false = refl

module _ (w v : ℕ) (outcomes noiseless : List ℕ) (parity : ℕ)
    (first : (k : ℕ) → k < 64 → bit v k ≡ (length outcomes == 0 || not (is_one parity)))
    (mask mask₁ mask' : List ℕ) (fits : w ≤ length mask)
  where
    filled : mask₁ ≡ replicate w v ++ drop w mask → (s : ℕ) → s / 64 < w → bit_in w mask₁ 0 s ≡ (length outcomes == 0 || not (is_one parity))
    unfolding bit_in
    filled e s h =
        let inside : s / 64 < length (replicate w v) = rw (length-replicate w v) h in
        let here : get_or (replicate w v ++ drop w mask) (s / 64) 0 ≡ v =
        get_or_append_left (replicate w v) (drop w mask) 0 (s / 64) inside ∙ get_or-replicate w (s / 64) v 0 h in
        rw (e, zero-mul w, zero-add, here) (first (s % 64) (mod-lt s (lit< tt)))

    pub masks : mask₁ ≡ replicate w v ++ drop w mask → mask' ≡ over_list (λ q. xored (0 * w) (q * w) w noiseless) outcomes mask₁
        → Masks w mask' (condition_of outcomes parity) (bit_in w noiseless)
    unfolding column added
    masks e₁ e₂ =
        let long : 0 * w + w ≤ length mask₁ = rw (e₁, zero-mul, zero-add, length-append, length-replicate) (omega arith) in
        record {
          shots = λ s h.
              rw e₂ (ap (λ (c : Bits). c 0) (column_add_listed w s h 0 noiseless outcomes mask₁ long) ∙ rw (filled e₁ s h) (satisfied outcomes parity (column w noiseless s)));
        }
