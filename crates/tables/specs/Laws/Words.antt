-- A row, and unused bits, from the words of a table, for every width by one argument: a bit of the table is a bit of its word. Laws. Assumes nothing.
use Prim.Native.Nat.{ℕ, suc, ◌+◌, ◌-◌, ◌*◌, ◌/◌, ◌%◌, ◌^◌, ◌≤◌, ◌<◌}
use Rattle.std.proofs.Common.{mod-lt, arith, sym, ap, ap₂, ◌∙◌, ltb-true, ltb-false, lt-ltb, ne_eqb, pow_pos, shr-shr, drop-cons}
use Rattle.std.proofs.Math.Nat.{div-eq_of_lt, div_self}
use Rattle.std.proofs.Math.Decide.{dec_lt}
use Rattle.std.specs.Prelude.{◌≡◌, refl, Bool, true, false, ◌||◌, eqb, ltb, length, get_or}
use Rattle.std.proofs.Math.Bool.{or-false}
use mathlib.Core.List.{List, []}
use Rattle.std.specs.Int.Bits.{bit_and, bit_or}
use Rattle.std.proofs.lemmas.Nat.{and_mask}
use Rattle.std.proofs.Math.ListN.{drop, drop_of_length-le}
use Rattle.std.proofs.Math.Pow.{shr_mono}
use Rattle.pauli.specs.Bits.{bit}
use Rattle.pauli.proofs.Laws.Word.{one_shl, bit_shr, bit_shl, bit_below, bit_mod, bit_or_lem, bit_high, same_bits}
use Rattle.text.specs.Written.{AllSmall}
use Rattle.job.specs.Clifford.{table_words_of, table_of}
use Rattle.job.proofs.Laws.Table.{table_drop, table_bit, table_small}
use Rattle.tables.specs.Rows.{row_word}
use Rattle.tables.specs.Laws.Rows.{row_bit, row_small}

-- ---- a row

module _ (ws : List ℕ) (small : AllSmall ws) where
  -- a bit from a place on, in the place's word or in the next
  module _ (at j : ℕ) where
    bit_here : at % 64 + j < 64 → bit (table_of ws) (at + j) ≡ bit (get_or ws (at / 64) 0) (at % 64 + j)
    bit_here h =
        let word : (at + j) / 64 ≡ at / 64 = omega arith in
        let place : (at + j) % 64 ≡ at % 64 + j = omega arith in
        table_bit ws small (at + j) ∙ rw (word, place)

    bit_next : 64 ≤ at % 64 + j → j < 64 → bit (table_of ws) (at + j) ≡ bit (get_or ws (at / 64 + 1) 0) (at % 64 + j - 64)
    bit_next h k =
        let word : (at + j) / 64 ≡ at / 64 + 1 = omega arith in
        let place : (at + j) % 64 ≡ at % 64 + j - 64 = omega arith in
        table_bit ws small (at + j) ∙ rw (word, place)

  module _ (k r : ℕ) (few : k ≤ 8) where
    abbrev at : ℕ
    at = 2 * k * r

    -- a word that has the row's bits at its 2k low places
    row_by : (w : ℕ) → ((j : ℕ) → j < 2 * k → bit w j ≡ bit (table_of ws) (at + j)) → bit_and w (1 * 2 ^ (2 * k) % 2 ^ 64 - 1) ≡ row_word k (table_of ws) r
    row_by w e =
        rw (one_shl (2 * k) (omega arith), and_mask w (2 * k))
        (same_bits (2 * k) _ _ (mod-lt w (pow_pos (2 * k))) (row_small k (table_of ws) r)
        (λ j h. bit_mod w (2 * k) j h ∙ e j h ∙ sym (row_bit k (table_of ws) r j h)))

    pub row_in_one : at % 64 + 2 * k ≤ 64 → bit_and (get_or ws (at / 64) 0 / 2 ^ (at % 64)) (1 * 2 ^ (2 * k) % 2 ^ 64 - 1) ≡ row_word k (table_of ws) r
    row_in_one h = row_by _ (λ j l. bit_shr _ (at % 64) j ∙ sym (bit_here at j (omega arith)))

    pub row_in_two : 64 < at % 64 + 2 * k
        → bit_and (bit_or (get_or ws (at / 64) 0 / 2 ^ (at % 64)) (get_or ws (at / 64 + 1) 0 * 2 ^ (64 - at % 64) % 2 ^ 64)) (1 * 2 ^ (2 * k) % 2 ^ 64 - 1)
        ≡ row_word k (table_of ws) r
    row_in_two h = row_by _ (λ j l. bit_or_lem _ _ j ∙ ap₂ ◌||◌ (bit_shr _ (at % 64) j) (bit_mod _ 64 j (omega arith)) ∙ by_word j l (dec_lt (at % 64 + j) 64))
      where
        by_word : (j : ℕ) → j < 2 * k → Dec (at % 64 + j < 64)
            → (bit (get_or ws (at / 64) 0) (at % 64 + j) || bit (get_or ws (at / 64 + 1) 0 * 2 ^ (64 - at % 64)) j) ≡ bit (table_of ws) (at + j)
        by_word j l (yes q) = rw (bit_below (get_or ws (at / 64 + 1) 0) (64 - at % 64) j (omega arith), or-false) (sym (bit_here at j q))
        by_word j l (no q) =
            let e : j ≡ 64 - at % 64 + (at % 64 + j - 64) = omega arith in
            rw (bit_high (get_or ws (at / 64) 0) 64 (at % 64 + j) (small (at / 64)) (omega arith))
            (ap (bit (get_or ws (at / 64 + 1) 0 * 2 ^ (64 - at % 64))) e
            ∙ bit_shl (get_or ws (at / 64 + 1) 0) (64 - at % 64) (at % 64 + j - 64)
            ∙ sym (bit_next at j (omega arith) (omega arith)))

-- ---- unused bits

-- no bit from n up
no_higher : (t n : ℕ) → eqb (t / 2 ^ n) 0 ≡ ltb t (2 ^ n)
no_higher t n = go (ltb t (2 ^ n)) refl
  where
    go : (b : Bool) → ltb t (2 ^ n) ≡ b → eqb (t / 2 ^ n) 0 ≡ b
    go true e = rw (div-eq_of_lt (ltb-true t (2 ^ n) e))
    go false e =
        let big : 2 ^ n / 2 ^ n ≤ t / 2 ^ n = shr_mono n (ltb-false t (2 ^ n) e) in
        let one : 1 ≤ t / 2 ^ n = rw (div_self (pow_pos n)) at big in
        ne_eqb _ _ (λ (z : t / 2 ^ n ≡ 0). omega arith)

-- bits that fill their words
filled : (n : ℕ) → n % 64 ≡ 0 → 64 * ((n + 63) / 64) ≡ n
filled n e = omega arith

module _ (k : ℕ) (ws : List ℕ) (small : AllSmall ws) (long : length ws ≡ table_words_of k) where
  -- the table fills its words
  pub full_words : 4 * (k * k) % 64 ≡ 0 → true ≡ ltb (table_of ws) (2 ^ (4 * (k * k)))
  full_words e =
      let size : 64 * length ws ≡ 4 * (k * k) = ap (64 *◌) long ∙ filled (4 * (k * k)) e in
      sym (lt-ltb _ _ (rw size at (table_small ws small)))

  last_word : 0 < length ws → table_of (drop (length ws - 1) ws) ≡ get_or ws (length ws - 1) 0
  unfolding table_of
  last_word h =
      let none : drop (suc (length ws - 1)) ws ≡ [] = drop_of_length-le ws {i = suc (length ws - 1)} (omega arith) in
      rw (drop-cons ws (length ws - 1) 0 (omega arith), none) (omega arith)

  -- it doesn't fill the last of them
  pub part_word : (4 * (k * k) % 64 ≡ 0 → ⊥) → eqb (get_or ws (length ws - 1) 0 / 2 ^ (4 * (k * k) % 64)) 0 ≡ ltb (table_of ws) (2 ^ (4 * (k * k)))
  part_word e =
      let some : 0 < length ws = omega arith in
      let size : 4 * (k * k) ≡ 64 * (length ws - 1) + 4 * (k * k) % 64 = omega arith in
      let last : table_of ws / 2 ^ (4 * (k * k)) ≡ get_or ws (length ws - 1) 0 / 2 ^ (4 * (k * k) % 64) =
      ap (λ (n : ℕ). table_of ws / 2 ^ n) size
      ∙ sym (shr-shr (table_of ws) (64 * (length ws - 1)) (4 * (k * k) % 64))
      ∙ ap (λ (t : ℕ). t / 2 ^ (4 * (k * k) % 64)) (table_drop ws small (length ws - 1) ∙ last_word some) in
      rw (← last) (no_higher (table_of ws) (4 * (k * k)))
