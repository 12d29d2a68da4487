-- Words of bits, one place more at a time. Laws. Assumes nothing.
use Rattle.std.specs.Prelude.{ℕ, ◌+◌, ◌/◌, ◌%◌, ◌^◌, ◌≤◌, ◌<◌, ◌≡◌, refl, Bool, true, false, ◌&&◌, eqb}
use Rattle.std.proofs.Common.{lt_of_lt_of_le, lt_of_le_of_lt, arith, ◌∙◌, eq-eqb, ne_eqb, pow_mono}
use Rattle.std.proofs.Math.Decide.{ℕ_discrete}
use Rattle.std.proofs.Math.Path.{sym, ap, ap₂}
use Rattle.std.specs.Int.Bits.{bit_xor, bit_and, xor_lt}
use Rattle.std.proofs.lemmas.Nat.{and_le_l}
use Rattle.std.specs.Int.Count.{ones}
use Rattle.std.proofs.Math.Pow.{pow-lt}
use Rattle.pauli.specs.Bits.{Bits, ◌⊕◌, ◌∩◌, ◌△◌, bit}
use Rattle.pauli.specs.Pauli.{anticommutes}
use Rattle.pauli.proofs.Laws.F2.{f2}
use Rattle.pauli.proofs.Laws.Word.{bit_shr, bit_xor_lem, bit_and_lem, bit_high, bit_pow}
use Rattle.pauli.proofs.Laws.Parts.{parity_sum, parity_same, parity_word}
use Rattle.job.specs.Clifford.{row_over}
use Rattle.tables.specs.Rows.{row_word, in_word}
use Rattle.tables.specs.Laws.Rows.{row_bit}
use Rattle.lines_back.specs.Packed.{Packed, in_words}

-- ---- one place more

pub packed_none : (f : Bits) → Packed 0 f 0
packed_none f = record { small = omega arith; at = λ j h. absurd (omega arith) }

-- what holds of the places below k, and of k
below_next : (P : ℕ → Type 0) (k : ℕ) → ((j : ℕ) → j < k → P j) → P k → (j : ℕ) → j < k + 1 → P j
below_next P k before here j h = go (ℕ_discrete j k)
  where
    go : Dec (j ≡ k) → P j
    go (yes e) = subst_at (sym e) here
      where
        subst_at : {i j : ℕ} → i ≡ j → P i → P j
        subst_at e p = rw e at p
    go (no e) = before j (omega (arith, e))

module _ {k : ℕ} {f : Bits} {w : ℕ} (p : Packed k f w) where
  pub packed_off : f k ≡ false → Packed (k + 1) f w
  packed_off e =
      record {
        small = lt_of_lt_of_le p.small (pow_mono (omega arith));
        at = below_next (λ j. bit w j ≡ f j) k p.at (bit_high w k k p.small (omega arith) ∙ sym e);
      }

  pub packed_on : f k ≡ true → Packed (k + 1) f (bit_xor w (2 ^ k))
  packed_on e =
      record {
        small = xor_lt (k + 1) w (2 ^ k) (lt_of_lt_of_le p.small (pow_mono (omega arith))) (pow-lt (omega arith));
        at =
            below_next (λ j. bit (bit_xor w (2 ^ k)) j ≡ f j) k
            (λ j h. bit_xor_lem w (2 ^ k) j ∙ ap₂ ◌⊕◌ (p.at j h) (bit_pow k j ∙ ne_eqb k j (λ (q : k ≡ j). omega arith)) ∙ simp f2)
            (bit_xor_lem w (2 ^ k) k ∙ ap₂ ◌⊕◌ (bit_high w k k p.small (omega arith)) (bit_pow k k ∙ eq-eqb k k refl) ∙ simp f2 (sym e));
      }

pub packed_all : {k n : ℕ} {f : Bits} {w : ℕ} → Packed k f w → k ≤ n → n ≤ k → Packed n f w
packed_all {k} {n} {f} {w} p a b = let e : k ≡ n = omega arith in rw e at p

-- ---- two Paulis on k places, one in words, the other a row of a table

module _ (x z row k : ℕ) (hx : x < 2 ^ k) (hz : z < 2 ^ k) where
  clashes : ℕ
  clashes = bit_xor (bit_and x (row / 2 ^ k)) (bit_and z row)

  clashes_small : clashes < 2 ^ k
  unfolding clashes
  clashes_small = xor_lt k _ _ (lt_of_le_of_lt (and_le_l x _) hx) (lt_of_le_of_lt (and_le_l z _) hz)

  clashes_at : (j : ℕ) → bit clashes j ≡ (((in_words x z).x ∩ (in_word k row).z) △ ((in_words x z).z ∩ (in_word k row).x)) j
  unfolding clashes in_word ◌∩◌ ◌△◌
  clashes_at j =
      bit_xor_lem (bit_and x (row / 2 ^ k)) (bit_and z row) j
      ∙ ap₂ ◌⊕◌ (bit_and_lem x (row / 2 ^ k) j ∙ ap (λ (b : Bool). bit x j && b) (bit_shr row k j)) (bit_and_lem z row j)

  pub clashes_odd : eqb (ones (bit_xor (bit_and x (row / 2 ^ k)) (bit_and z row)) % 2) 1 ≡ anticommutes k (in_words x z) (in_word k row)
  unfolding clashes anticommutes
  clashes_odd = sym (parity_word k clashes clashes_small) ∙ parity_same k (bit clashes) _ (λ j h. clashes_at j) ∙ parity_sum k _ _

-- Paulis on k places that have the same bits there
pub same_places : (k : ℕ) {f g : Bits} {x z : ℕ} → Packed k f x → Packed k g z → (Q : Rattle.pauli.specs.Pauli.Pauli)
    → anticommutes k (in_words x z) Q ≡ anticommutes k (record { x = f; z = g }) Q
unfolding anticommutes ◌∩◌
same_places k p q Q =
    ap₂ ◌⊕◌
    (parity_same k _ _ (λ j h. ap (λ (b : Bool). b && Q.z j) (p.at j h)))
    (parity_same k _ _ (λ j h. ap (λ (b : Bool). b && Q.x j) (q.at j h)))

-- a row of the table as a word
pub row_as_word : (k t r : ℕ) (P : Rattle.pauli.specs.Pauli.Pauli) → anticommutes k P (in_word k (row_word k t r)) ≡ anticommutes k P (row_over k t r)
unfolding anticommutes in_word row_over ◌∩◌
row_as_word k t r P =
    ap₂ ◌⊕◌
    (parity_same k _ _ (λ j h. ap (λ (b : Bool). P.x j && b) (row_bit k t r (k + j) (omega arith))))
    (parity_same k _ _ (λ j h. ap (λ (b : Bool). P.z j && b) (row_bit k t r j (omega arith))))
