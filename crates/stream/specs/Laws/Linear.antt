-- A step is linear over exclusive or, and so is any number of steps. Assumes nothing.
use Rattle.std.specs.Prelude.{◌≡◌, refl, ℕ, zero, suc, ◌+◌, ◌*◌, ◌/◌, ◌%◌, ◌^◌, ◌<◌}
use Rattle.std.proofs.Common.{sym, ap, ap₂, ◌∙◌, arith, add-zero, mul-zero, mul-one, pow_pos}
use Rattle.std.proofs.Math.Arith.{bin_ind}
use Rattle.std.specs.Int.Bits.{bit_xor, differ, xor_step, xor_self}
use Rattle.std.proofs.lemmas.Nat.{xor_comm, xor_block, xor_shr, xor_mod}
use Rattle.stream.specs.Stream.{left, right, step, stepped}

-- ---- exclusive or

-- of a bit it is enough to know 0 and 1
pub bit_cases : (P : ℕ → Type 0) {b : ℕ} → b < 2 → P 0 → P 1 → P b
bit_cases P {b = zero} h x y = x
bit_cases P {b = suc zero} h x y = y
bit_cases P {b = suc (suc b)} h x y = absurd (omega arith)

abbrev Associates : ℕ → ℕ → ℕ → Type 0
Associates x y z = differ (bit_xor x y) z ≡ differ x (bit_xor y z)

digits_assoc : (x y z : ℕ) → x < 2 → y < 2 → z < 2 → Associates x y z
digits_assoc x y z hx hy hz =
    bit_cases (λ x. Associates x y z) hx (two 0 (one 0 0 refl refl) (one 0 1 refl refl)) (two 1 (one 1 0 refl refl) (one 1 1 refl refl))
  where
    one : (x y : ℕ) → Associates x y 0 → Associates x y 1 → Associates x y z
    one x y = bit_cases (Associates x y) hz

    two : (x : ℕ) → Associates x 0 z → Associates x 1 z → Associates x y z
    two x = bit_cases (λ y. Associates x y z) hy

pub xor_assoc : (a b c : ℕ) → bit_xor (bit_xor a b) c ≡ bit_xor a (bit_xor b c)
xor_assoc =
    bin_ind (λ (a : ℕ). (b c : ℕ) → bit_xor (bit_xor a b) c ≡ bit_xor a (bit_xor b c)) (λ b c. refl)
    (λ a ih b c.
    xor_step (bit_xor a b) c
    ∙ ap₂ (λ (q r : ℕ). bit_xor q (c / 2) * 2 + differ r (c % 2)) (xor_shr a b 1) (xor_mod a b 1)
    ∙ ap₂ (λ (q r : ℕ). q * 2 + r) (ih (b / 2) (c / 2)) (digits_assoc (a % 2) (b % 2) (c % 2) (omega arith) (omega arith) (omega arith))
    ∙ sym (ap₂ (λ (q r : ℕ). bit_xor (a / 2) q * 2 + differ (a % 2) r) (xor_shr b c 1) (xor_mod b c 1))
    ∙ sym (xor_step a (bit_xor b c)))

-- a sum of two sums, the other way round
xor_pairs : (a b c d : ℕ) → bit_xor (bit_xor a b) (bit_xor c d) ≡ bit_xor (bit_xor a c) (bit_xor b d)
xor_pairs a b c d =
    xor_assoc a b (bit_xor c d)
    ∙ ap (bit_xor a) (sym (xor_assoc b c d) ∙ ap (λ (x : ℕ). bit_xor x d) (xor_comm b c) ∙ xor_assoc c b d)
    ∙ sym (xor_assoc a c (bit_xor b d))

-- ---- linear functions

pub record Linear (f : ℕ → ℕ) : Type 0 where
  pub adds : (a b : ℕ) → f (bit_xor a b) ≡ bit_xor (f a) (f b)

pub linear_zero : {f : ℕ → ℕ} → Linear f → f 0 ≡ 0
linear_zero {f = f} l = xor_twice (f 0) (l.adds 0 0)
  where
    xor_twice : (a : ℕ) → a ≡ bit_xor a a → a ≡ 0
    xor_twice a e = e ∙ xor_self a

pub linear_sum : {f g : ℕ → ℕ} → Linear f → Linear g → Linear (λ s. bit_xor (f s) (g s))
linear_sum {f = f} {g = g} lf lg =
    record { adds = λ a b. ap₂ bit_xor (lf.adds a b) (lg.adds a b) ∙ xor_pairs (f a) (f b) (g a) (g b) }

pub linear_after : {f g : ℕ → ℕ} → Linear f → Linear g → Linear (λ s. f (g s))
linear_after {f = f} {g = g} lf lg = record { adds = λ a b. ap f (lg.adds a b) ∙ lf.adds (g a) (g b) }

pub linear_none : Linear (λ s. 0)
linear_none = record { adds = λ a b. refl }

linear_self : Linear (λ s. s)
linear_self = record { adds = λ a b. refl }

-- times a bit
pub linear_bit : (b : ℕ) → b < 2 → Linear (λ s. s * b)
linear_bit b h =
    bit_cases (λ b. Linear (λ s. s * b)) h (record { adds = λ a c. rw (mul-zero (bit_xor a c), mul-zero a, mul-zero c) })
    (record { adds = λ a c. rw (mul-one (bit_xor a c), mul-one a, mul-one c) })

shifted_up : (k : ℕ) → Linear (λ s. s * 2 ^ k % 2 ^ 64)
shifted_up k =
    record {
      adds = λ a b.
          ap (λ (x : ℕ). x % 2 ^ 64) (sym (add-zero (bit_xor a b * 2 ^ k)) ∙ sym (xor_block k a b 0 0 (pow_pos k) (pow_pos k))
          ∙ ap₂ bit_xor (add-zero (a * 2 ^ k)) (add-zero (b * 2 ^ k)))
          ∙ xor_mod (a * 2 ^ k) (b * 2 ^ k) 64;
    }

shifted_down : (k : ℕ) → Linear (λ s. s / 2 ^ k)
shifted_down k = record { adds = λ a b. xor_shr a b k }

-- ---- steps

pub step_linear : Linear step
unfolding step left right
step_linear =
    linear_after (linear_sum linear_self (shifted_up 17))
    (linear_after (linear_sum linear_self (shifted_down 7)) (linear_sum linear_self (shifted_up 13)))

pub stepped_linear : (n : ℕ) → Linear (stepped n)
unfolding stepped
stepped_linear zero = linear_self
stepped_linear (suc n) = linear_after step_linear (stepped_linear n)
