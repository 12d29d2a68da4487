-- The two words of a pair after a round, bit by bit. Assumes nothing.
use Rattle.std.specs.Prelude.{◌≡◌, refl, Bool, not, cond, ◌&&◌, eqb}
use Rattle.std.proofs.Common.{sym, ◌∙◌, true≢false, ⊎_elim, mul_assoc, eq-or-lt_of_le, le_of_suc-le-suc, not-suc-le-zero}
use Rattle.std.proofs.Math.Path.{ap}
use Rattle.std.proofs.Math.Bool.{true, false}
use Prim.Native.Nat.{ℕ, zero, suc, ◌+◌, ◌*◌, ◌/◌, ◌%◌, ◌^◌, ◌<◌}
use native.Mathlib.Omega.{arith}
use Rattle.std.proofs.Math.Nat.{mul-add-div_right, div-eq_of_lt, suc-mul, zero-mul}
use Rattle.std.specs.Int.Bits.{bit_xor}
use Rattle.pauli.specs.Bits.{◌⊕◌, bit}
use Rattle.pauli.proofs.Laws.F2.{⊕_false, ⊕_comm, ⊕_self_left, &&_true, &&_false}
use Rattle.pauli.proofs.Laws.Word.{bit_shr, bit_shl, bit_below, bit_mod, bit_xor_lem, bit_and_lem}
use Rattle.blocks.specs.Exchange.{place, difference, partner, all_below, is_mask}

-- ---- the mask

all_at : (n : ℕ) (f : ℕ → Bool) → all_below n f ≡ true → (j : ℕ) → j < n → f j ≡ true
unfolding all_below
all_at zero f e j k = absurd (not-suc-le-zero k)
all_at (suc n) f e j k = go (f n) refl e (λ (r : all_below n f ≡ true) (s : j < n). all_at n f r j s)
  where
    go : (b : Bool) → f n ≡ b → (b && all_below n f) ≡ true → (all_below n f ≡ true → j < n → f j ≡ true) → f j ≡ true
    go true q r below = ⊎_elim (λ (s : j ≡ n). ap f s ∙ q) (below r) (eq-or-lt_of_le (le_of_suc-le-suc k))
    go false q r below = absurd (true≢false (sym r))

same : (a b : Bool) → not (a ⊕ b) ≡ true → a ≡ b
unfolding ◌⊕◌
same true true e = refl
same true false e = absurd (true≢false (sym e))
same false true e = absurd (true≢false (sym e))
same false false e = refl

-- which half of its group a place lies in
half_of : (h a : ℕ) (b : Bool) (c : ℕ) → c < h → eqb (place h a b c / h % 2) 0 ≡ not b
half_of h a false c k =
    let e : (a * 2 * h + c) / h ≡ a * 2 + c / h = mul-add-div_right (omega arith) (a * 2) c in
    let z : c / h ≡ 0 = div-eq_of_lt k in
    let p : place h a false c ≡ a * 2 * h + c = rw (mul_assoc a 2 h) (omega arith) in
    let r : (a * 2 * h + c) / h % 2 ≡ 0 = rw (e, z) (omega arith) in
    rw (p, r)
half_of h a true c k =
    let e : (suc (a * 2) * h + c) / h ≡ suc (a * 2) + c / h = mul-add-div_right (omega arith) (suc (a * 2)) c in
    let z : c / h ≡ 0 = div-eq_of_lt k in
    let p : place h a true c ≡ suc (a * 2) * h + c = rw (suc-mul (a * 2) h, mul_assoc a 2 h) in
    let r : (suc (a * 2) * h + c) / h % 2 ≡ 1 = rw (e, z) (omega arith) in
    rw (p, r)

module _ (h mask : ℕ) (some : 0 < h) (m : is_mask h mask ≡ true) where
  mask_at : (d : ℕ) (e : Bool) (f : ℕ) → f < h → place h d e f < 64 → bit mask (place h d e f) ≡ not e
  unfolding is_mask
  mask_at d e f k small = same _ _ (all_at 64 _ m (place h d e f) small) ∙ half_of h d e f k

  -- ---- the words
  module _ (low high : ℕ) where
    differ_low : (d f : ℕ) → f < h → place h d false f < 64 → bit (difference h mask low high) (place h d false f) ≡ bit low (place h d true f) ⊕ bit high (place h d false f)
    unfolding difference
    differ_low d f k small =
        let up : h + place h d false f ≡ place h d true f = omega arith in
        rw (bit_and_lem, bit_xor_lem, mask_at d false f k small, bit_shr, up) (&&_true _)

    differ_high : (d f : ℕ) → f < h → place h d true f < 64 → bit (difference h mask low high) (place h d true f) ≡ false
    unfolding difference
    differ_high d f k small = rw (bit_and_lem, mask_at d true f k small) (&&_false (bit (bit_xor (low / 2 ^ h) high) (place h d true f)))

    -- the difference shifted up
    unfoldable shifted : ℕ
    shifted = difference h mask low high * 2 ^ h % 2 ^ 64

    shifted_low : (d f : ℕ) → f < h → place h d false f < 64 → bit shifted (place h d false f) ≡ false
    unfolding shifted
    shifted_low zero f k small = bit_mod _ 64 _ small ∙ bit_below _ h _ (rw zero-mul (omega arith))
    shifted_low (suc d) f k small =
        let e : place h (suc d) false f ≡ h + place h d true f = rw suc-mul (omega arith) in
        bit_mod _ 64 _ small ∙ ap (bit _) e ∙ bit_shl _ h (place h d true f) ∙ differ_high d f k (omega arith)

    shifted_high : (d f : ℕ) → f < h → place h d true f < 64 → bit shifted (place h d true f) ≡ bit low (place h d true f) ⊕ bit high (place h d false f)
    unfolding shifted
    shifted_high d f k small =
        let e : place h d true f ≡ h + place h d false f = omega arith in
        bit_mod _ 64 _ small ∙ ap (bit _) e ∙ bit_shl _ h (place h d false f) ∙ differ_low d f k (omega arith)

    -- each word has its bits of the same half, and its partner's of the other
    pub bit_partner : (b : Bool) (d : ℕ) (e : Bool) (f : ℕ) → f < h → place h d e f < 64
        → bit (partner h mask b low high) (place h d e f) ≡ bit (cond e high low) (place h d b f)
    unfolding partner shifted
    bit_partner false d false f k small = bit_xor_lem low _ _ ∙ rw (shifted_low d f k small) (⊕_false _)
    bit_partner false d true f k small = bit_xor_lem low _ _ ∙ rw (shifted_high d f k small) (⊕_self_left _ _)
    bit_partner true d false f k small = bit_xor_lem high _ _ ∙ rw (differ_low d f k small, ⊕_comm (bit low _) _) (⊕_self_left _ _)
    bit_partner true d true f k small = bit_xor_lem high _ _ ∙ rw (differ_high d f k small) (⊕_false _)
