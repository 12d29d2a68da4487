-- Every state is a sum of states that steps from 1 lead to. Assumes nothing.
use Rattle.std.specs.Prelude.{◌≡◌, refl, Bool, true, List, [], ◌∷◌, eqb, get_or}
use Rattle.std.proofs.Common.{sym, ap₂, ◌∙◌, arith, mul-zero, mul-one, zero-mul, mul_comm, mul_assoc, add-mul, div-add-mod', pow-suc, eqb-true, pow_pos}
use Rattle.std.proofs.Math.Path.{ap}
use Prim.Native.Nat.{ℕ, zero, suc, ◌+◌, ◌-◌, ◌*◌, ◌/◌, ◌%◌, ◌^◌, ◌<◌}
use Rattle.std.proofs.Math.Decide.{dec_lt}
use Rattle.std.proofs.Math.Pow.{pow-lt, pow-add, split}
use Rattle.std.specs.Int.Bits.{bit_xor, xor_self, xor_shifted}
use Rattle.job.specs.Clifford.{every}
use Rattle.job.proofs.Laws.Lists.{every_holds}
use Rattle.stream.specs.Stream.{left, right, step}
use Rattle.stream.specs.Laws.Linear.{bit_cases, xor_assoc}

-- the states after 0 to n - 1 steps
unfoldable pub states : ℕ → ℕ → List ℕ
states zero state = []
states (suc n) state = state ∷ states n (step state)

-- the sum of the entries whose bit of p is set
unfoldable pub sum_of : ℕ → List ℕ → ℕ
sum_of p [] = 0
sum_of p (w ∷ ws) = bit_xor (w * (p % 2)) (sum_of (p / 2) ws)

-- ---- the powers of two: seven are sums of states after 0 to 63 steps from 1, and each of the others follows from those above it

-- which states sum to 2 ^ 57 .. 2 ^ 63
unfoldable tops : List ℕ
tops =
    14874084804807234566 ∷ 17841762874140669262 ∷ 14266832772923245765 ∷ 8018749349207546757 ∷ 8903263651609521735 ∷ 5104883658314632550
    ∷ 5711349944603537787 ∷ []

unfoldable is_top : ℕ → Bool
is_top k = eqb (sum_of (get_or tops k 0) (states 64 1)) (2 ^ (57 + k))

tops_pass : every 7 is_top ≡ true
unfolding every is_top tops sum_of states step left right
tops_pass = refl

top : (k : ℕ) → k < 7 → sum_of (get_or tops k 0) (states 64 1) ≡ 2 ^ (57 + k)
unfolding is_top
top k h = eqb-true _ _ (every_holds 7 is_top tops_pass k h)

-- 2 ^ m is the lowest bit of a step from 2 ^ (m + 7); this is the rest of it
unfoldable rest : ℕ → ℕ
rest m = bit_xor (step (2 ^ (m + 7))) (2 ^ m)

unfoldable is_above : ℕ → Bool
is_above m = eqb (rest m % 2 ^ suc m + rest m / 2 ^ 64) 0

rests_pass : every 57 is_above ≡ true
unfolding every is_above rest step left right
rests_pass = refl

above : (m : ℕ) → m < 57 → rest m % 2 ^ suc m + rest m / 2 ^ 64 ≡ 0
unfolding is_above
above m h = eqb-true _ _ (every_holds 57 is_above rests_pass m h)

xor_back : (a b : ℕ) → bit_xor a (bit_xor a b) ≡ b
xor_back a b = sym (xor_assoc a a b) ∙ ap (λ (x : ℕ). bit_xor x b) (xor_self a)

halves : (q n : ℕ) → q * n ≡ q / 2 * (n * 2) + n * (q % 2)
halves q n =
    ap (λ (x : ℕ). x * n) (sym (div-add-mod' q 2)) ∙ add-mul (q / 2 * 2) (q % 2) n
    ∙ ap₂ ◌+◌ (mul_assoc (q / 2) 2 n ∙ ap (λ (x : ℕ). q / 2 * x) (mul_comm 2 n)) (mul_comm (q % 2) n)

times_bit_below : (n b : ℕ) → 0 < n → b < 2 → n * b < n * 2
times_bit_below n b h g = bit_cases (λ b. n * b < n * 2) g (omega arith) (omega arith)

-- ---- what holds of 1, and of sums and steps of what it holds of, holds of every state

module _
    (A : ℕ → Type 0)
    (none : A 0)
    (add : (a b : ℕ) → A a → A b → A (bit_xor a b))
    (next : (s : ℕ) → A s → A (step s))
    (one : A 1)
  where
    of_bit : (s b : ℕ) → b < 2 → A s → A (s * b)
    of_bit s b h a = bit_cases (λ b. A (s * b)) h (rw (mul-zero s) none) (rw (mul-one s) a)

    of_sum : (n p s : ℕ) → A s → A (sum_of p (states n s))
    unfolding states sum_of
    of_sum zero p s a = none
    of_sum (suc n) p s a = add _ _ (of_bit s (p % 2) (omega arith) a) (of_sum n (p / 2) (step s) (next s a))

    -- of the states whose lowest m bits are 0
    abbrev From : ℕ → Type 0
    From m = (q : ℕ) → q * 2 ^ m < 2 ^ 64 → A (q * 2 ^ m)

    power : (m : ℕ) → m < 64 → From (suc m) → A (2 ^ m)
    unfolding rest
    power m h from = at (dec_lt m 57)
      where
        at : Dec (m < 57) → A (2 ^ m)
        at (yes low) =
            let wide : 2 ^ (m + 7) ≡ 2 ^ 6 * 2 ^ suc m = ap (λ (k : ℕ). 2 ^ k) (omega arith) ∙ pow-add 2 6 (suc m) in
            let small : 2 ^ (m + 7) < 2 ^ 64 = pow-lt {i = m + 7} {j = 64} (omega arith) in
            let stepped-on : A (step (2 ^ (m + 7))) = next (2 ^ (m + 7)) (rw wide (from (2 ^ 6) (rw (← wide) small))) in
            let whole : rest m / 2 ^ suc m * 2 ^ suc m ≡ rest m = omega (arith, split (rest m) (suc m), above m low) in
            let others : A (rest m) = rw whole at (from (rest m / 2 ^ suc m) (omega (arith, whole, above m low))) in
            rw (xor_back (step (2 ^ (m + 7))) (2 ^ m)) at (add (step (2 ^ (m + 7))) (rest m) stepped-on others)
        at (no high) =
            let place : 57 + (m - 57) ≡ m = omega (arith, high) in
            rw (top (m - 57) (omega (arith, high)), place) at (of_sum 64 (get_or tops (m - 57) 0) 1 one)

    from_next : (m : ℕ) → m < 64 → From (suc m) → From m
    from_next m h from q small =
        let parts : q * 2 ^ m ≡ q / 2 * 2 ^ suc m + 2 ^ m * (q % 2) = halves q (2 ^ m) ∙ rw (pow-suc 2 m) in
        let bit : 2 ^ m * (q % 2) < 2 ^ suc m = rw (pow-suc 2 m) (times_bit_below (2 ^ m) (q % 2) (pow_pos m) (omega arith)) in
        rw (parts, ← (xor_shifted (q / 2) (suc m) (2 ^ m * (q % 2)) bit))
        (add _ _ (from (q / 2) (omega (arith, parts))) (of_bit (2 ^ m) (q % 2) (omega arith) (power m h from)))

    from : (j m : ℕ) → j + m ≡ 64 → From m
    from zero m e q small =
        let all : m ≡ 64 = omega arith in
        let below : q * 2 ^ 64 < 2 ^ 64 = rw all at small in
        let nothing : q ≡ 0 = omega arith in
        rw nothing (rw zero-mul none)
    from (suc j) m e q small = from_next m (omega arith) (from j (suc m) (omega arith)) q small

    pub spanned : (s : ℕ) → s < 2 ^ 64 → A s
    spanned s h = rw mul-one at (from 64 0 refl s (rw mul-one h))
