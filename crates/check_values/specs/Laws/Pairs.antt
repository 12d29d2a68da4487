-- Test 7, pair by pair of rows, and tests of each number below another. Laws. Assumes nothing.
use Rattle.std.specs.Prelude.{ℕ, zero, suc, ◌+◌, ◌-◌, ◌*◌, ◌/◌, ◌%◌, ◌^◌, ◌≤◌, ◌<◌, ◌≡◌, Bool, true, not, eqb, ltb}
use Rattle.std.proofs.Common.{mod-lt, lt_of_le_of_lt, add-one, arith, sym, ◌∙◌, eqb-true, pow_pos}
use Rattle.std.proofs.Math.Path.{refl, ap, ap₂}
use Rattle.std.proofs.Math.Bool.{false, ◌&&◌}
use Rattle.std.proofs.lemmas.Bool.{eqb-false}
use Rattle.std.specs.Bool.{beq}
use Rattle.std.specs.Int.Bits.{bit_xor, bit_and, xor_lt, and_mask}
use Rattle.std.proofs.lemmas.Nat.{and_le_l}
use Rattle.std.specs.Int.Count.{ones}
use Rattle.pauli.specs.Bits.{◌⊕◌, ◌∩◌, ◌△◌, bit}
use Rattle.pauli.specs.Pauli.{anticommutes}
use Rattle.pauli.proofs.Laws.Word.{one_shl, bit_shr, bit_mod, bit_xor_lem, bit_and_lem}
use Rattle.pauli.proofs.Laws.Parts.{parity_sum, parity_same, parity_word}
use Rattle.job.specs.Clifford.{row_over, every, generators_anticommute, is_clifford_of}
use Rattle.tables.specs.Rows.{row_word, in_word}
use Rattle.tables.specs.Laws.Rows.{row_bit}
use Rattle.check_values.specs.Pairs.{pair_fits_of}

-- ---- anticommuting

-- the word of the qubits at which two rows clash
module _ (a b k : ℕ) where
  clashes : ℕ
  clashes = bit_xor (bit_and (a % 2 ^ k) (b / 2 ^ k)) (bit_and (a / 2 ^ k) b % 2 ^ k)

  clashes_small : clashes < 2 ^ k
  unfolding clashes
  clashes_small = xor_lt k _ _ (lt_of_le_of_lt (and_le_l (a % 2 ^ k) (b / 2 ^ k)) (mod-lt _ (pow_pos k))) (mod-lt _ (pow_pos k))

  clashes_at : (j : ℕ) → j < k → bit clashes j ≡ (((in_word k a).x ∩ (in_word k b).z) △ ((in_word k a).z ∩ (in_word k b).x)) j
  unfolding clashes in_word ◌∩◌ ◌△◌
  clashes_at j h =
      bit_xor_lem (bit_and (a % 2 ^ k) (b / 2 ^ k)) (bit_and (a / 2 ^ k) b % 2 ^ k) j
      ∙ ap₂ ◌⊕◌
      (bit_and_lem (a % 2 ^ k) (b / 2 ^ k) j ∙ ap₂ ◌&&◌ (bit_mod a k j h) (bit_shr b k j))
      (bit_mod (bit_and (a / 2 ^ k) b) k j h ∙ bit_and_lem (a / 2 ^ k) b j ∙ ap (λ (t : Bool). t && bit b j) (bit_shr a k j))

  pub overlap_odd : k < 64
      → eqb (ones (bit_xor (bit_and (bit_and a (1 * 2 ^ k % 2 ^ 64 - 1)) (b / 2 ^ k)) (bit_and (bit_and (a / 2 ^ k) b) (1 * 2 ^ k % 2 ^ 64 - 1))) % 2) 1
      ≡ anticommutes k (in_word k a) (in_word k b)
  unfolding clashes anticommutes
  overlap_odd h =
      rw (one_shl k h, and_mask a k, and_mask (bit_and (a / 2 ^ k) b) k)
      (sym (parity_word k clashes clashes_small) ∙ parity_same k (bit clashes) _ clashes_at ∙ parity_sum k _ _)

-- rows as words clash as the rows of the table do
pub rows_clash : (k t r s : ℕ) → anticommutes k (in_word k (row_word k t r)) (in_word k (row_word k t s)) ≡ anticommutes k (row_over k t r) (row_over k t s)
unfolding anticommutes in_word row_over ◌∩◌
rows_clash k t r s =
    ap₂ ◌⊕◌
    (parity_same k _ _ (λ j h. ap₂ ◌&&◌ (row_bit k t r j (omega arith)) (row_bit k t s (k + j) (omega arith))))
    (parity_same k _ _ (λ j h. ap₂ ◌&&◌ (row_bit k t r (k + j) (omega arith)) (row_bit k t s j (omega arith))))

-- two rows that were read, by whether their generators are a pair
module _ (k t r s : ℕ) {a : Bool} {x y : ℕ} (e : a ≡ anticommutes k (in_word k x) (in_word k y)) (p : x ≡ row_word k t r) (q : y ≡ row_word k t s) where
  clash : a ≡ anticommutes k (row_over k t r) (row_over k t s)
  clash = e ∙ rw (p, q) (rows_clash k t r s)

  pub pair_fits : {b : Bool} → b ≡ generators_anticommute k r s → beq a b ≡ pair_fits_of k t r s
  pair_fits {b} h = rw (← h, ← clash) (go a b)
    where
      go : (x y : Bool) → beq x y ≡ not (x ⊕ y)
      go true true = unfold ◌⊕◌ in refl
      go true false = unfold ◌⊕◌ in refl
      go false true = unfold ◌⊕◌ in refl
      go false false = unfold ◌⊕◌ in refl

-- ---- each number below another

pub every_none : (f : ℕ → Bool) → every 0 f ≡ true
unfolding every
every_none f = refl

pub every_more : (f : ℕ → Bool) (n : ℕ) → every n f ≡ true → f n ≡ true → every (n + 1) f ≡ true
unfolding every
every_more f n e h = rw (add-one n, h, e)

pub every_fails : (f : ℕ → Bool) (n i : ℕ) → i < n → f i ≡ false → every n f ≡ false
unfolding every
every_fails f zero i h e = absurd (omega arith)
every_fails f (suc n) i h e = go (eqb i n) refl (λ g. every_fails f n i g e)
  where
    false_right : (b : Bool) → (b && false) ≡ false
    false_right true = refl
    false_right false = refl

    go : (b : Bool) → eqb i n ≡ b → (i < n → every n f ≡ false) → (f n && every n f) ≡ false
    go true q ih = let last : f n ≡ false = rw (← eqb-true i n q) e in rw last
    go false q ih = let before : i < n = omega (arith, eqb-false i n q) in ap (λ (b : Bool). f n && b) (ih before) ∙ false_right (f n)

pub every_all : (f : ℕ → Bool) (n i : ℕ) → i ≤ n → n ≤ i → every i f ≡ true → true ≡ every n f
every_all f n i h g e = let same : i ≡ n = omega arith in sym (rw same at e)

-- ---- the whole table

pub clifford_high : (k t : ℕ) → ltb t (2 ^ (4 * (k * k))) ≡ false → false ≡ is_clifford_of k t
unfolding is_clifford_of
clifford_high k t e = rw e

pub clifford_rows : (k t : ℕ) → ltb t (2 ^ (4 * (k * k))) ≡ true → every (2 * k) (λ r. every (2 * k) (pair_fits_of k t r)) ≡ is_clifford_of k t
unfolding is_clifford_of
clifford_rows k t e = rw e
