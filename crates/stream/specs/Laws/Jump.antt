-- Jumps: the state after many steps is a sum of those after 0 to 63 steps, and of the same ones from whichever state. Assumes nothing.
use Rattle.std.specs.Prelude.{◌≡◌, ℕ, zero, suc, ◌+◌, ◌-◌, ◌*◌, ◌/◌, ◌%◌, ◌^◌, ◌<◌, ◌≤◌, T, eqb}
use Rattle.std.proofs.Common.{sym, ap, ap₂, ◌∙◌, arith, mul-zero, mul-one, div-one, eqb→eq, shr-shr}
use Rattle.std.specs.Int.Bits.{bit_xor, bit_and, xor_zero_r}
use Rattle.std.proofs.lemmas.Nat.{and_mask}
use Rattle.stream.specs.Stream.{left, right, step, stepped}
use Rattle.stream.specs.Laws.Linear.{Linear, bit_cases, linear_zero, linear_none, linear_sum, linear_after, linear_bit, xor_assoc, step_linear, stepped_linear}
use Rattle.stream.specs.Laws.Words.{step_below, stepped_before, stepped_add, stepped_below}
use Rattle.stream.specs.Laws.Span.{states, sum_of, spanned}

sum_linear : (n p : ℕ) → Linear (λ s. sum_of p (states n s))
unfolding states sum_of
sum_linear zero p = linear_none
sum_linear (suc n) p = linear_sum (linear_bit (p % 2) (omega arith)) (linear_after (sum_linear n (p / 2)) step_linear)

step_bit : (s b : ℕ) → b < 2 → step s * b ≡ step (s * b)
step_bit s b h =
    bit_cases (λ b. step s * b ≡ step (s * b)) h (rw (mul-zero (step s), mul-zero s) (sym (linear_zero step_linear)))
    (rw (mul-one (step s), mul-one s))

sum_step : (n p s : ℕ) → sum_of p (states n (step s)) ≡ step (sum_of p (states n s))
unfolding states sum_of
sum_step zero p s = sym (linear_zero step_linear)
sum_step (suc n) p s =
    ap₂ bit_xor (step_bit s (p % 2) (omega arith)) (sum_step n (p / 2) (step s))
    ∙ sym (step_linear.adds (s * (p % 2)) (sum_of (p / 2) (states n (step s))))

-- ---- jumps

-- the state after n steps is the sum of those after 0 to 63 steps whose bit of p is set
abbrev pub Jumped : ℕ → ℕ → ℕ → Type 0
Jumped p n s = sum_of p (states 64 s) ≡ stepped n s

-- from whichever state
pub record Jumps (p n : ℕ) : Type 0 where
  pub is : (s : ℕ) → s < 2 ^ 64 → Jumped p n s

-- it is enough that it is so from 1
from_one : (p n : ℕ) → Jumped p n 1 → Jumps p n
from_one p n e = record { is = spanned (Jumped p n) none add next e }
  where
    none : Jumped p n 0
    none = linear_zero (sum_linear 64 p) ∙ sym (linear_zero (stepped_linear n))

    add : (a b : ℕ) → Jumped p n a → Jumped p n b → Jumped p n (bit_xor a b)
    add a b d f = (sum_linear 64 p).adds a b ∙ ap₂ bit_xor d f ∙ sym ((stepped_linear n).adds a b)

    next : (s : ℕ) → Jumped p n s → Jumped p n (step s)
    next s d = sum_step 64 p s ∙ ap step d ∙ sym (stepped_before n s)

-- by a test that is computed: of the steps themselves, or of two shorter jumps
jumps : (p n : ℕ) → T (eqb (sum_of p (states 64 1)) (stepped n 1)) → Jumps p n
jumps p n t = from_one p n (eqb→eq _ _ t)

jumps_add : (r : ℕ) {p q m n : ℕ} → Jumps p m → Jumps q n
    → T (eqb (sum_of r (states 64 1)) (sum_of p (states 64 (sum_of q (states 64 1))))) → Jumps r (m + n)
jumps_add r {p = p} {q = q} {m = m} {n = n} j k t =
    from_one r (m + n)
    (eqb→eq _ _ t ∙ ap (λ (s : ℕ). sum_of p (states 64 s)) (k.is 1 (omega arith))
    ∙ j.is (stepped n 1) (stepped_below n (omega arith)) ∙ sym (stepped_add m n 1))

-- which states, for 1,024, 2,048 and 3,072 steps
abbrev pub by_1024 : ℕ
by_1024 = 6000973328857673655

abbrev pub by_2048 : ℕ
by_2048 = 17500720140713242615

abbrev pub by_3072 : ℕ
by_3072 = 12070032773084003012

pub jump_1024 : Jumps by_1024 1024
unfolding sum_of states stepped step left right
jump_1024 = jumps by_1024 1024 tt

pub jump_2048 : Jumps by_2048 2048
unfolding sum_of states step left right
jump_2048 = jumps_add by_2048 jump_1024 jump_1024 tt

pub jump_3072 : Jumps by_3072 3072
unfolding sum_of states step left right
jump_3072 = jumps_add by_3072 jump_1024 jump_2048 tt

-- ---- the sum, a state at a time

-- k states are added, and those that are left to add, from this state on, make the whole
pub record Jumping (p state k sum ahead : ℕ) : Type 0 where
  pub whole : bit_xor sum (sum_of (p / 2 ^ k) (states (64 - k) ahead)) ≡ sum_of p (states 64 state)
  pub small : ahead < 2 ^ 64

pub jumping_begun : (p state : ℕ) → state < 2 ^ 64 → Jumping p state 0 0 state
jumping_begun p state h = record { whole = ap (λ (x : ℕ). sum_of x (states 64 state)) (div-one p); small = h }

pub jumping_turn : {p state k sum ahead : ℕ} (next : ℕ) → Jumping p state k sum ahead → k < 64 → next ≡ step ahead
    → Jumping p state (k + 1) (bit_xor sum (ahead * bit_and (p / 2 ^ k) 1)) next
unfolding states sum_of
jumping_turn {p = p} {state = state} {k = k} {sum = sum} {ahead = ahead} next j h e =
    let left : 64 - k ≡ suc (64 - (k + 1)) = omega arith in
    let more : bit_xor sum (bit_xor (ahead * (p / 2 ^ k % 2)) (sum_of (p / 2 ^ k / 2) (states (64 - (k + 1)) (step ahead)))) ≡ sum_of p (states 64 state)
    = rw left at j.whole in
    record { whole = rw (e, and_mask (p / 2 ^ k) 1, ← (shr-shr p k 1), xor_assoc) more; small = rw e (step_below j.small) }

pub jumping_ended : {p n state k sum ahead : ℕ} → Jumping p state k sum ahead → 64 ≤ k → Jumps p n → state < 2 ^ 64 → sum ≡ stepped n state
unfolding states sum_of
jumping_ended {p = p} {state = state} {k = k} {sum = sum} {ahead = ahead} j h is small =
    let none : 64 - k ≡ 0 = omega arith in
    let all : bit_xor sum 0 ≡ sum_of p (states 64 state) = rw none at j.whole in
    sym (xor_zero_r sum) ∙ all ∙ is.is state small

pub jumping_fits : {p state k sum ahead : ℕ} → Jumping p state k sum ahead → ahead * bit_and (p / 2 ^ k) 1 < 2 ^ 64
jumping_fits {p = p} {k = k} {ahead = ahead} j =
    let bit : p / 2 ^ k % 2 < 2 = omega arith in
    rw (and_mask (p / 2 ^ k) 1) (bit_cases (λ b. ahead * b < 2 ^ 64) bit (omega arith) (omega (arith, j.small)))
