-- The parity of a set, taken in parts: stretches of numbers, two sets, the bits of words. Assumes nothing.
use Rattle.std.specs.Prelude.{◌≡◌, refl, Bool, false, not, ℕ, zero, suc, ◌+◌, ◌*◌, ◌/◌, ◌%◌, ◌^◌, ◌≤◌, ◌<◌, eqb}
use Rattle.std.proofs.Common.{sym, ap, ap₂, ◌∙◌, arith, one-add, add-one, eq-eqb, ne_eqb, shr_lt}
use Rattle.std.proofs.Math.Path.{fun_ext}
use Rattle.std.proofs.Math.Decide.{ℕ_discrete}
use Rattle.std.specs.Int.Bits.{bit_xor}
use Rattle.std.specs.Int.Count.{ones, ones_step}
use Rattle.pauli.specs.Bits.{Bits, ◌⊕◌, ◌△◌, none, parity, bit}
use Rattle.pauli.proofs.Laws.F2.{f2, ⊕_comm}
use Rattle.pauli.proofs.Laws.Parity.{bitwise}
use Rattle.pauli.proofs.Laws.Word.{bit_is, bit_shr, bit_xor_lem}

-- the numbers below n, and the m numbers from n on
parity_plus : (m n : ℕ) (s : Bits) → parity (m + n) s ≡ parity m (λ k. s (n + k)) ⊕ parity n s
unfolding parity
parity_plus zero n s = let e : 0 + n ≡ n = omega arith in rw e (simp f2)
parity_plus (suc m) n s =
    let e : suc m + n ≡ suc (m + n) = omega arith in
    let f : n + m ≡ m + n = omega arith in
    rw (e, f) (ap (λ (b : Bool). s (m + n) ⊕ b) (parity_plus m n s) ∙ simp f2)

-- the sum of two sets
pub parity_sum : (n : ℕ) (s t : Bits) → parity n (s △ t) ≡ parity n s ⊕ parity n t
parity_sum zero s t = simp bitwise
parity_sum (suc n) s t = simp (bitwise, parity_sum n s t)

pub parity_empty : (n : ℕ) → parity n none ≡ false
parity_empty zero = simp bitwise
parity_empty (suc n) = simp (bitwise, parity_empty n)

-- sets with the same members below n
pub parity_same : (n : ℕ) (s t : Bits) → ((k : ℕ) → k < n → s k ≡ t k) → parity n s ≡ parity n t
unfolding parity
parity_same zero s t e = refl
parity_same (suc n) s t e = ap₂ ◌⊕◌ (e n (omega arith)) (parity_same n s t (λ k h. e k (omega arith)))

-- no member from n on: the members below n are all
pub parity_within : (n m : ℕ) (s : Bits) → ((i : ℕ) → n ≤ i → s i ≡ false) → parity (m + n) s ≡ parity n s
unfolding none
parity_within n m s h =
    let empty : (λ k. s (n + k)) ≡ none = fun_ext (λ k. h (n + k) (omega arith)) in
    parity_plus m n s ∙ rw (empty, parity_empty m) (simp f2)

-- a further word: its bits are the set at the next 64 numbers
pub word_more : (s : Bits) (j w v : ℕ) → ((k : ℕ) → k < 64 → s (64 * j + k) ≡ bit v k)
    → parity (64 * j) s ≡ parity 64 (bit w) → parity (64 * (j + 1)) s ≡ parity 64 (bit (bit_xor w v))
unfolding ◌△◌
word_more s j w v e ih =
    let bits : bit (bit_xor w v) ≡ bit w △ bit v = fun_ext (λ k. bit_xor_lem w v k) in
    let n : 64 * (j + 1) ≡ 64 + 64 * j = omega arith in
    rw n
    (parity_plus 64 (64 * j) s
    ∙ ap₂ ◌⊕◌ (parity_same 64 (λ k. s (64 * j + k)) (bit v) e) ih
    ∙ ⊕_comm (parity 64 (bit v)) (parity 64 (bit w))
    ∙ sym (ap (parity 64) bits ∙ parity_sum 64 (bit w) (bit v)))

-- ---- the parity of a word's bits is that of its count of ones

-- 0, and the n numbers from 1 on
parity_front : (n : ℕ) (s : Bits) → parity (suc n) s ≡ s 0 ⊕ parity n (λ i. s (suc i))
unfolding parity
parity_front zero s = refl
parity_front (suc n) s = rw (parity_front n s) (simp f2)

-- a digit and a number
odd_plus : (d n : ℕ) → d < 2 → eqb ((d + n) % 2) 1 ≡ eqb d 1 ⊕ eqb (n % 2) 1
unfolding ◌⊕◌
odd_plus zero n h = let e : 0 + n ≡ n = omega arith in rw e
odd_plus (suc zero) n h = go (ℕ_discrete (n % 2) 1)
  where
    go : Dec (n % 2 ≡ 1) → eqb ((1 + n) % 2) 1 ≡ not (eqb (n % 2) 1)
    go (yes e) = rw e (ne_eqb _ _ (λ (f : (1 + n) % 2 ≡ 1). omega arith))
    go (no e) =
        let f : (1 + n) % 2 ≡ 1 = omega (arith, e) in
        rw (ne_eqb _ _ e) (eq-eqb _ _ f)
odd_plus (suc (suc d)) n h = absurd (omega arith)

pub parity_word : (k w : ℕ) → w < 2 ^ k → parity k (bit w) ≡ eqb (ones w % 2) 1
unfolding parity
parity_word zero w h = let z : w ≡ 0 = omega arith in rw z (unfold ones in refl)
parity_word (suc k) w h =
    let first : bit w 0 ≡ eqb (w % 2) 1 = bit_is w 0 ∙ last in
    let rest : (λ i. bit w (suc i)) ≡ bit (w / 2) = fun_ext (λ i. sym (bit_shr w 1 i ∙ ap (bit w) (one-add i))) in
    parity_front k (bit w)
    ∙ rw (first, rest, ones_step w, odd_plus (w % 2) (ones (w / 2)) (omega arith), parity_word k (w / 2) (shr_lt k 1 (rw add-one h)))
  where
    last : eqb (w / 1 % 2) 1 ≡ eqb (w % 2) 1
    last = let e : w / 1 ≡ w = omega arith in rw e
