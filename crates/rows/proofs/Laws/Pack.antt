-- Packed bits as each shot sees them. Assumes nothing.
use Rattle.std.specs.Prelude.{◌≡◌, refl, Bool, true, false, cond, ◌&&◌, List, ℕ, zero, suc, ◌+◌, ◌*◌, ◌/◌, ◌%◌, ◌^◌, ◌<◌, ◌≤◌, ltb, length, replicate}
use Rattle.std.proofs.Common.{sym, ap, ◌∙◌, pow-suc, zero-add, add-zero, div-add-mod', one-add, lit<, ext_get_or, lt-ltb, le-ltb}
use Rattle.std.proofs.Math.Path.{fun_ext}
use native.Mathlib.Omega.{arith}
use Rattle.std.proofs.Math.Nat.{div-add-mod, mul-add-div_right, div-eq_of_lt}
use Rattle.std.proofs.Math.Decide.{dec_lt}
use Rattle.std.proofs.Math.ListN.{get_or, get_or-eq_default}
use Rattle.std.proofs.lemmas.List.{length-replicate, get_or-replicate}
use Rattle.pauli.specs.Bits.{none, bit}
use Rattle.pauli.proofs.Laws.Word.{bit_is, bit_zero, bit_shr}
use Rattle.rows.specs.Words.{words_per_row, bit_in, word_of, tabulated, pack}
use Rattle.rows.specs.Overwrite.{cleared}
use Rattle.rows.specs.Column.{column}
use Rattle.rows.proofs.Laws.Overwrite.{length_cleared, overwrite_in, before_row}
use Rattle.rows.proofs.Laws.Column.{column_past, same_words}

-- ---- a word of given bits

word_fits : (n : ℕ) (b : ℕ → Bool) → word_of b n < 2 ^ n
unfolding word_of
word_fits zero b = lit< tt
word_fits (suc n) b = rw pow-suc (go (b 0) (word_fits n (λ i. b (suc i))))
  where
    go : (t : Bool) → word_of (λ i. b (suc i)) n < 2 ^ n → cond t 1 0 + 2 * word_of (λ i. b (suc i)) n < 2 ^ n * 2
    go true h = omega arith
    go false h = omega arith

half : (t : Bool) (m : ℕ) → (cond t 1 0 + 2 * m) / 2 ≡ m
half true m = omega arith
half false m = omega arith

lowest : (t : Bool) (m : ℕ) → bit (cond t 1 0 + 2 * m) 0 ≡ t
lowest true m = bit_is _ 0 ∙ (let e : (1 + 2 * m) / 1 % 2 ≡ 1 = omega arith in rw e)
lowest false m = bit_is _ 0 ∙ (let e : (0 + 2 * m) / 1 % 2 ≡ 0 = omega arith in rw e)

bit_word : (n : ℕ) (b : ℕ → Bool) (k : ℕ) → k < n → bit (word_of b n) k ≡ b k
unfolding word_of
bit_word zero b k h = absurd (omega arith)
bit_word (suc n) b zero h = lowest (b 0) _
bit_word (suc n) b (suc k) h =
    sym (bit_shr _ 1 k ∙ ap (bit _) (one-add k)) ∙ ap (λ m. bit m k) (half (b 0) _) ∙ bit_word n (λ i. b (suc i)) k (omega arith)

-- ---- a list of given words

pub length_tabulated : (f : ℕ → ℕ) (n : ℕ) → length (tabulated f n) ≡ n
unfolding tabulated
length_tabulated f zero = refl
length_tabulated f (suc n) = ap suc (length_tabulated (λ i. f (suc i)) n)

pub tabulated_at : (f : ℕ → ℕ) (n i : ℕ) → i < n → get_or (tabulated f n) i 0 ≡ f i
unfolding tabulated
tabulated_at f zero i h = absurd (omega arith)
tabulated_at f (suc n) zero h = refl
tabulated_at f (suc n) (suc i) h = tabulated_at (λ i. f (suc i)) n i (omega arith)

-- ---- packed bits

module _ (rows shots : ℕ) (bits : ℕ → ℕ → Bool) where
  pub length_pack : length (pack rows shots bits) ≡ rows * words_per_row shots
  unfolding pack
  length_pack = length_tabulated _ (rows * words_per_row shots)

  pub pack_fits : (i : ℕ) → get_or (pack rows shots bits) i 0 < 2 ^ 64
  unfolding pack
  pack_fits i = go (dec_lt i (rows * words_per_row shots))
    where
      go : Dec (i < rows * words_per_row shots) → get_or (pack rows shots bits) i 0 < 2 ^ 64
      go (yes h) = rw (tabulated_at _ (rows * words_per_row shots) i h) (word_fits 64 _)
      go (no h) = rw (get_or-eq_default (pack rows shots bits) 0 {n = i} (rw length_pack (omega arith))) (lit< tt)

  -- a bit of a row and a shot of the words
  pub bit_pack : (r s : ℕ) → r < rows → s / 64 < words_per_row shots → column (words_per_row shots) (pack rows shots bits) s r ≡ (ltb s shots && bits r s)
  unfolding column bit_in pack
  bit_pack r s hr hs =
      let w = words_per_row shots in
      let some : 0 < w = omega arith in
      let row : (r * w + s / 64) / w ≡ r = mul-add-div_right some r (s / 64) ∙ rw (div-eq_of_lt hs) (add-zero r) in
      let whole : r * w + (r * w + s / 64) % w ≡ r * w + s / 64 = rw row at (div-add-mod' (r * w + s / 64) w) in
      let word : (r * w + s / 64) % w ≡ s / 64 = omega arith in
      let within : r * w + s / 64 < rows * w = omega (arith, before_row w r rows hr) in
      let here : 64 * (s / 64) + s % 64 ≡ s = div-add-mod s 64 in
      rw (tabulated_at _ (rows * w) (r * w + s / 64) within, bit_word 64 _ (s % 64) (omega arith), row, word, here)

  -- the same of a shot that was packed
  pub pack_bit : (r s : ℕ) → r < rows → s < shots → bit_in (words_per_row shots) (pack rows shots bits) r s ≡ bits r s
  unfolding column
  pack_bit r s hr hs = bit_pack r s hr (omega arith) ∙ rw (lt-ltb s shots hs)

  -- Words that have these bits, and none past the last shot, are the packed ones.
  pub packed : (words : List ℕ) → 1 ≤ shots → length words ≡ rows * words_per_row shots → ((i : ℕ) → get_or words i 0 < 2 ^ 64)
      → ((s r : ℕ) → s / 64 < words_per_row shots → r < rows → column (words_per_row shots) words s r ≡ bits r s)
      → ((s r : ℕ) → s / 64 < words_per_row shots → r < rows → shots ≤ s → bits r s ≡ false)
      → words ≡ pack rows shots bits
  packed words some long fits same past =
      same_words w words (pack rows shots bits) (omega arith) (long ∙ sym length_pack) fits pack_fits (λ s h. fun_ext (λ r. go s h r (dec_lt r rows)))
    where
      w : ℕ
      w = words_per_row shots

      until : (s r : ℕ) → s / 64 < w → r < rows → Dec (s < shots) → bits r s ≡ (ltb s shots && bits r s)
      until s r h k (yes b) = rw (lt-ltb s shots b)
      until s r h k (no b) = past s r h k (omega arith) ∙ rw (le-ltb s shots (omega arith))

      go : (s : ℕ) → s / 64 < w → (r : ℕ) → Dec (r < rows) → column w words s r ≡ column w (pack rows shots bits) s r
      go s h r (yes k) = same s r h k ∙ until s r h k (dec_lt s shots) ∙ sym (bit_pack r s k h)
      go s h r (no k) = column_past w words s r rows long (omega arith) ∙ sym (column_past w (pack rows shots bits) s r rows length_pack (omega arith))

-- ---- cleared words

pub cleared_all : (l : List ℕ) → cleared 0 (length l) l ≡ replicate (length l) 0
unfolding cleared
cleared_all l =
    ext_get_or 0 _ _ (length_cleared 0 (length l) l ∙ sym (length-replicate (length l) 0))
    (λ i h.
    let small : i < length l = rw (length_cleared 0 (length l) l) at h in
    (rw (zero-add i) at (overwrite_in 0 (λ j. 0) l (length l) i small (omega arith))) ∙ sym (get_or-replicate (length l) i 0 0 small))

pub column_zeros : (w k s : ℕ) → column w (replicate k 0) s ≡ none
unfolding column bit_in none
column_zeros w k s = fun_ext (λ r. go r (dec_lt (r * w + s / 64) k))
  where
    go : (r : ℕ) → Dec (r * w + s / 64 < k) → bit (get_or (replicate k 0) (r * w + s / 64) 0) (s % 64) ≡ false
    go r (yes h) = rw (get_or-replicate {A = ℕ} k (r * w + s / 64) 0 0 h) (bit_zero (s % 64))
    go r (no h) =
        let past : length {A = ℕ} (replicate k 0) ≤ r * w + s / 64 = rw length-replicate (omega arith) in
        rw (get_or-eq_default {A = ℕ} (replicate k 0) 0 {n = r * w + s / 64} past) (bit_zero (s % 64))
