-- Laws of the bits of a word. Assumes nothing.
use Rattle.std.specs.Prelude.{◌≡◌, refl, Bool, true, false, ◌&&◌, ◌||◌, ℕ, zero, suc, ◌+◌, ◌-◌, ◌*◌, ◌/◌, ◌%◌, ◌^◌, ◌<◌, ◌≤◌, eqb}
use Rattle.std.proofs.Common.{sym, ap, ◌∙◌, true≢false, arith, one-mul, mul_assoc, mod-eq_of_lt, lt_of_lt_of_le, pow-suc, one-add, add-one, eq-eqb, ne_eqb, pow_pos, pow-add, pow_mono, shr-shr, shr_lt}
use Rattle.std.proofs.Math.Nat.{zero-div, div-eq_of_lt, div_self, mul-mod_left}
use Rattle.std.proofs.Math.Decide.{dec_lt}
use Rattle.std.proofs.Math.Pow.{pow-lt, field, mod-mod-pow}
use Rattle.std.proofs.lemmas.Nat.{shl-shr, xor_shr, xor_mod, and_shr, and_mod, or_shr, or_mod}
use Rattle.std.specs.Int.Bits.{bit_xor, bit_and, bit_or}
use Rattle.pauli.specs.Bits.{◌⊕◌, bit}

-- 1 shifted to place k of a word
pub one_shl : (k : ℕ) → k < 64 → 1 * 2 ^ k % 2 ^ 64 ≡ 2 ^ k
one_shl k h = rw one-mul (mod-eq_of_lt (pow-lt h))

-- the definition, for simp and rw where it stays shut
pub bit_is : (w k : ℕ) → bit w k ≡ eqb (w / 2 ^ k % 2) 1
unfolding bit
bit_is w k = refl

pub bit_zero : (k : ℕ) → bit 0 k ≡ false
unfolding bit
bit_zero k = rw zero-div

-- the bits of a word shifted down
pub bit_shr : (w j k : ℕ) → bit (w / 2 ^ j) k ≡ bit w (j + k)
unfolding bit
bit_shr w j k = rw shr-shr

-- the bits of a word shifted up: below the shift there is none
pub bit_shl : (x h j : ℕ) → bit (x * 2 ^ h) (h + j) ≡ bit x j
bit_shl x h j = sym (bit_shr (x * 2 ^ h) h j) ∙ ap (λ y. bit y j) (shl-shr x h)

pub bit_below : (x h j : ℕ) → j < h → bit (x * 2 ^ h) j ≡ false
bit_below x h j k = ap (λ n. bit (x * 2 ^ n) j) e ∙ shifted (h - suc j)
  where
    e : h ≡ suc (h - suc j) + j
    e = omega arith

    shifted : (i : ℕ) → bit (x * 2 ^ (suc i + j)) j ≡ false
    shifted i = bit_is _ j ∙ rw (pow-add 2 (suc i) j, ← mul_assoc, shl-shr, pow-suc 2 i, ← mul_assoc, mul-mod_left)

-- the lower bits of a word
pub bit_mod : (x n j : ℕ) → j < n → bit (x % 2 ^ n) j ≡ bit x j
bit_mod x n j k = ap (λ m. bit (x % 2 ^ m) j) e ∙ cut (n - suc j)
  where
    e : n ≡ (n - suc j + 1) + j
    e = omega arith

    cut : (i : ℕ) → bit (x % 2 ^ (i + 1 + j)) j ≡ bit x j
    cut i = bit_is _ j ∙ rw (field x (i + 1) j, mod-mod-pow _ i 1) (sym (bit_is x j))

-- ---- an operation on words that works bit by bit

module _
    (op : ℕ → ℕ → ℕ)
    (f : Bool → Bool → Bool)
    (op_shr : (a b k : ℕ) → op a b / 2 ^ k ≡ op (a / 2 ^ k) (b / 2 ^ k))
    (op-mod : (a b k : ℕ) → op a b % 2 ^ k ≡ op (a % 2 ^ k) (b % 2 ^ k))
    (e₀₀ : eqb (op 0 0) 1 ≡ f false false)
    (e₀₁ : eqb (op 0 1) 1 ≡ f false true)
    (e₁₀ : eqb (op 1 0) 1 ≡ f true false)
    (e₁₁ : eqb (op 1 1) 1 ≡ f true true)
  where
    digits : (x y : ℕ) → x < 2 → y < 2 → eqb (op x y) 1 ≡ f (eqb x 1) (eqb y 1)
    digits zero zero hx hy = e₀₀
    digits zero (suc zero) hx hy = e₀₁
    digits (suc zero) zero hx hy = e₁₀
    digits (suc zero) (suc zero) hx hy = e₁₁
    digits zero (suc (suc y)) hx hy = absurd (omega arith)
    digits (suc zero) (suc (suc y)) hx hy = absurd (omega arith)
    digits (suc (suc x)) y hx hy = absurd (omega arith)

    bit_op : (a b k : ℕ) → bit (op a b) k ≡ f (bit a k) (bit b k)
    unfolding bit
    bit_op a b k = rw (op_shr, op-mod (a / 2 ^ k) (b / 2 ^ k) 1) (digits (a / 2 ^ k % 2) (b / 2 ^ k % 2) (omega arith) (omega arith))

pub bit_xor_lem : (a b k : ℕ) → bit (bit_xor a b) k ≡ bit a k ⊕ bit b k
unfolding ◌⊕◌
bit_xor_lem = bit_op bit_xor ◌⊕◌ xor_shr xor_mod refl refl refl refl

pub bit_and_lem : (a b k : ℕ) → bit (bit_and a b) k ≡ (bit a k && bit b k)
bit_and_lem = bit_op bit_and ◌&&◌ and_shr and_mod refl refl refl refl

pub bit_or_lem : (a b k : ℕ) → bit (bit_or a b) k ≡ (bit a k || bit b k)
bit_or_lem = bit_op bit_or ◌||◌ or_shr or_mod refl refl refl refl

-- ---- a word below a power of two

-- a word below 2 ^ j has no bit from j on
pub bit_high : (w j k : ℕ) → w < 2 ^ j → j ≤ k → bit w k ≡ false
unfolding bit
bit_high w j k h le = rw (div-eq_of_lt (lt_of_lt_of_le h (pow_mono le)))

-- the one bit of a power of two
pub bit_pow : (j k : ℕ) → bit (2 ^ j) k ≡ eqb j k
bit_pow j k = by_order (dec_lt j k) (dec_lt k j)
  where
    shifted : (i : ℕ) → bit (2 ^ (suc i + k)) k ≡ false
    shifted i = bit_is (2 ^ (suc i + k)) k ∙ rw (pow-add 2 (suc i) k, shl-shr, pow-suc 2 i, mul-mod_left)

    by_order : Dec (j < k) → Dec (k < j) → bit (2 ^ j) k ≡ eqb j k
    by_order (yes h) _ = bit_high (2 ^ j) k k (pow-lt h) (omega arith) ∙ sym (ne_eqb j k (λ (e : j ≡ k). omega arith))
    by_order (no h₁) (yes h₂) =
        let e : j ≡ suc (j - suc k) + k = omega arith in
        ap (λ m. bit (2 ^ m) k) e ∙ shifted (j - suc k) ∙ sym (ne_eqb j k (λ (e : j ≡ k). omega arith))
    by_order (no h₁) (no h₂) =
        let e : j ≡ k = omega arith in
        rw e (bit_is (2 ^ k) k ∙ rw (div_self (pow_pos k)) (sym (eq-eqb k k refl)))

-- ---- two words with the same bits are equal

next : (w k : ℕ) → bit (w / 2) k ≡ bit w (suc k)
next w k = bit_shr w 1 k ∙ ap (bit w) (one-add k)

last_digit : (x y : ℕ) → x < 2 → y < 2 → eqb x 1 ≡ eqb y 1 → x ≡ y
last_digit zero zero hx hy e = refl
last_digit zero (suc zero) hx hy e = absurd (true≢false (sym e))
last_digit (suc zero) zero hx hy e = absurd (true≢false e)
last_digit (suc zero) (suc zero) hx hy e = refl
last_digit zero (suc (suc y)) hx hy e = absurd (omega arith)
last_digit (suc zero) (suc (suc y)) hx hy e = absurd (omega arith)
last_digit (suc (suc x)) y hx hy e = absurd (omega arith)

last_bit : (a b : ℕ) → bit a 0 ≡ bit b 0 → a % 2 ≡ b % 2
unfolding bit
last_bit a b e = let x : a / 1 % 2 ≡ b / 1 % 2 = last_digit (a / 1 % 2) (b / 1 % 2) (omega arith) (omega arith) e in omega arith

pub same_bits : (j a b : ℕ) → a < 2 ^ j → b < 2 ^ j → ((k : ℕ) → k < j → bit a k ≡ bit b k) → a ≡ b
same_bits zero a b ha hb e = omega arith
same_bits (suc j) a b ha hb e =
    let halves : a / 2 ≡ b / 2 = same_bits j (a / 2) (b / 2) (shr_lt j 1 (rw add-one ha)) (shr_lt j 1 (rw add-one hb)) (λ k h. next a k ∙ e (suc k) (omega arith) ∙ sym (next b k)) in
    let last : a % 2 ≡ b % 2 = last_bit a b (e 0 (omega arith)) in
    omega arith
