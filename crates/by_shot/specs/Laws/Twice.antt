-- The bits of words that were written over others, and the matrix transposed twice, bit by bit and by the words of a row. Assumes nothing.
use Rattle.std.specs.Prelude.{◌≡◌, false, ◌&&◌, List, ℕ, ◌+◌, ◌*◌, ◌/◌, ◌%◌, ◌^◌, ◌<◌, ◌≤◌, ltb, get_or, take, drop}
use Rattle.std.proofs.Common.{sym, ◌∙◌, arith, length-append, length-take, length-drop, get_or-take, get_or-drop, ext_get_or, lt-ltb, le-ltb}
use Rattle.std.proofs.Math.Decide.{dec_lt}
use Rattle.std.proofs.Math.ListN.{length, get_or-append}
use Rattle.pauli.specs.Bits.{bit}
use Rattle.pauli.proofs.Laws.Word.{same_bits}
use Rattle.rows.specs.Words.{words_per_row, bit_in}
use Rattle.rows.specs.Column.{column}
use Rattle.rows.proofs.Laws.Overwrite.{before_row}
use Rattle.rows.proofs.Laws.Pack.{pack_fits, bit_pack}
use Rattle.job.specs.Reply.{over}
use Rattle.by_shot.specs.Reply.{transposed}
use Rattle.by_shot.specs.Laws.Reply.{length_transposed}

module _ (rows columns : ℕ) (source old : List ℕ) where
  -- every bit of every word of a row of the target
  pub over_bit : (c r : ℕ) → c < columns → r / 64 < words_per_row rows
      → bit_in (words_per_row rows) (over (transposed rows columns source) old) c r ≡ (ltb r rows && bit_in (words_per_row columns) source r c)
  unfolding bit_in transposed column
  over_bit c r hc hr =
      let v = words_per_row rows in
      let t = transposed rows columns source in
      let inside : c * v + r / 64 < length t = rw length_transposed (omega (arith, before_row v c columns hc)) in
      rw (get_or-append t (drop (length t) old) 0 (c * v + r / 64) inside) (bit_pack columns rows (λ c r. bit_in (words_per_row columns) source r c) c r hc hr)

  pub over_in : (c r : ℕ) → c < columns → r < rows
      → bit_in (words_per_row rows) (over (transposed rows columns source) old) c r ≡ bit_in (words_per_row columns) source r c
  over_in c r hc hr = over_bit c r hc (omega arith) ∙ rw (lt-ltb r rows hr)

  pub over_past : (c r : ℕ) → c < columns → rows ≤ r → r / 64 < words_per_row rows → bit_in (words_per_row rows) (over (transposed rows columns source) old) c r ≡ false
  over_past c r hc k hr = over_bit c r hc hr ∙ rw (le-ltb r rows k)

  pub over_long : columns * words_per_row rows ≤ length (over (transposed rows columns source) old)
  over_long = rw (length-append, length_transposed) (omega arith)

-- a bit of a word of a row
bit_at : (w : ℕ) (l : List ℕ) (r j k : ℕ) → k < 64 → bit_in w l r (64 * j + k) ≡ bit (get_or l (r * w + j) 0) k
unfolding bit_in
bit_at w l r j k h =
    let word : (64 * j + k) / 64 ≡ j = omega arith in
    let place : (64 * j + k) % 64 ≡ k = omega arith in
    rw (word, place)

-- a row without bits past the last column comes back
pub twice : (rows columns : ℕ) (source old old' : List ℕ) (r : ℕ) → r < rows
    → ((c : ℕ) → columns ≤ c → c / 64 < words_per_row columns → bit_in (words_per_row columns) source r c ≡ false)
    → (c : ℕ) → c / 64 < words_per_row columns
    → bit_in (words_per_row columns) (over (transposed columns rows (over (transposed rows columns source) old)) old') r c ≡ bit_in (words_per_row columns) source r c
twice rows columns source old old' r hr past c hc = go (dec_lt c columns)
  where
    mid : List ℕ
    mid = over (transposed rows columns source) old

    go : Dec (c < columns) → bit_in (words_per_row columns) (over (transposed columns rows mid) old') r c ≡ bit_in (words_per_row columns) source r c
    go (yes h) = over_in columns rows mid old' r c hr h ∙ over_in rows columns source old c r h hr
    go (no h) = over_past columns rows mid old' r c hr (omega arith) hc ∙ sym (past c (omega arith) hc)

-- ---- the words of a row

-- Two words below 2 ^ 64 at one place of a row are equal if the rows' bits are.
same_word : (w : ℕ) (l m : List ℕ) (r j : ℕ) → j < w → get_or l (r * w + j) 0 < 2 ^ 64 → get_or m (r * w + j) 0 < 2 ^ 64
    → ((c : ℕ) → c / 64 < w → bit_in w l r c ≡ bit_in w m r c) → get_or l (r * w + j) 0 ≡ get_or m (r * w + j) 0
same_word w l m r j hj fit-l fit-m same =
    same_bits 64 _ _ fit-l fit-m (λ k hk. sym (bit_at w l r j k hk) ∙ same (64 * j + k) (omega arith) ∙ bit_at w m r j k hk)

length_row : (w : ℕ) (l : List ℕ) (n r : ℕ) → r < n → n * w ≤ length l → length (take w (drop (r * w) l)) ≡ w
length_row w l n r h fits = omega (arith, length-take w (drop (r * w) l), length-drop (r * w) l, before_row w r n h, fits)

get_D_row : (w : ℕ) (l : List ℕ) (r j : ℕ) → j < w → get_or (take w (drop (r * w) l)) j 0 ≡ get_or l (r * w + j) 0
get_D_row w l r j h = get_or-take w (drop (r * w) l) j 0 h ∙ get_or-drop (r * w) l j 0

over_fits : (rows columns : ℕ) (source old : List ℕ) (i : ℕ) → i < columns * words_per_row rows → get_or (over (transposed rows columns source) old) i 0 < 2 ^ 64
unfolding transposed
over_fits rows columns source old i h =
    let t = transposed rows columns source in
    rw (get_or-append t (drop (length t) old) 0 i (rw (length_transposed rows columns source) h)) (pack_fits columns rows _ i)

-- A row whose bits past the last column are 0 comes back word for word.
pub row_twice : (rows columns : ℕ) (source old old' : List ℕ) → rows * words_per_row columns ≤ length source → ((i : ℕ) → get_or source i 0 < 2 ^ 64)
    → (r : ℕ) → r < rows → ((c : ℕ) → columns ≤ c → c / 64 < words_per_row columns → bit_in (words_per_row columns) source r c ≡ false)
    → let w = words_per_row columns in
    take w (drop (r * w) (over (transposed columns rows (over (transposed rows columns source) old)) old')) ≡ take w (drop (r * w) source)
row_twice rows columns source old old' long fits r hr past =
    ext_get_or 0 _ _ (back_long ∙ sym (length_row w source rows r hr long)) (λ j h. word j (rw back_long at h))
  where
    w : ℕ
    w = words_per_row columns

    back : List ℕ
    back = over (transposed columns rows (over (transposed rows columns source) old)) old'

    back_long : length (take w (drop (r * w) back)) ≡ w
    back_long = length_row w back rows r hr (over_long columns rows _ old')

    word : (j : ℕ) → j < w → get_or (take w (drop (r * w) back)) j 0 ≡ get_or (take w (drop (r * w) source)) j 0
    word j h =
        get_D_row w back r j h
        ∙ same_word w back source r j h (over_fits columns rows _ old' (r * w + j) (omega (arith, before_row w r rows hr, h))) (fits (r * w + j))
        (twice rows columns source old old' r hr past)
        ∙ sym (get_D_row w source r j h)
