-- One block: where its words lie in the source and the target, and the bits that come there. Assumes nothing.
use Rattle.std.specs.Prelude.{◌≡◌, refl, Bool, true, false, cond, ◌&&◌, List, ℕ, ◌+◌, ◌*◌, ◌-◌, ◌/◌, ◌%◌, ◌<◌, ◌≤◌, min, ltb, length, get_or, replicate}
use Rattle.std.proofs.Common.{sym, ap, ◌∙◌, add-mul, zero-add, lt-ltb, le-ltb}
use native.Mathlib.Omega.{arith}
use Rattle.std.proofs.Math.Decide.{dec_lt, ℕ_discrete}
use Rattle.std.proofs.lemmas.List.{length-replicate, get_or-replicate}
use Rattle.pauli.specs.Bits.{bit}
use Rattle.pauli.proofs.Laws.Word.{bit_zero}
use Rattle.rows.specs.Words.{words_per_row, bit_in}
use Rattle.rows.specs.Overwrite.{overwrite}
use Rattle.rows.proofs.Laws.Overwrite.{overwrite_in, overwrite_out, before_row, rows_apart, apart_out}
use Rattle.blocks.specs.Exchange.{Exchanged}
use Rattle.blocks.specs.Strided.{Within, scattered}
use Rattle.blocks.specs.Laws.Strided.{scattered_in, scattered_out}
use Rattle.by_shot.specs.Blocks.{rows_of, Room, Right, DoneTo}

-- ---- the rows of a group

module _ (n a : ℕ) where
  pub rows_left : n - 64 * a < 64 → n - 64 * a ≡ rows_of n a
  unfolding rows_of
  rows_left h = rw (lt-ltb (n - 64 * a) 64 h)

  pub rows_full : 64 ≤ n - 64 * a → 64 ≡ rows_of n a
  unfolding rows_of
  rows_full h = rw (le-ltb (n - 64 * a) 64 h)

  pub rows_least : min (n - 64 * a) 64 ≡ rows_of n a
  rows_least = go (dec_lt (n - 64 * a) 64)
    where
      go : Dec (n - 64 * a < 64) → min (n - 64 * a) 64 ≡ rows_of n a
      go (yes p) = rw (← rows_left p) (omega arith)
      go (no p) = rw (← rows_full (omega arith)) (omega arith)

  pub rows_few : rows_of n a ≤ 64
  rows_few = go (dec_lt (n - 64 * a) 64)
    where
      go : Dec (n - 64 * a < 64) → rows_of n a ≤ 64
      go (yes p) = rw (← rows_left p) (omega arith)
      go (no p) = rw (← rows_full (omega arith)) (omega arith)

  -- row i of the group is one of the n
  pub rows_in : (i : ℕ) → i < rows_of n a → (64 * a + i < n) × (i < 64)
  rows_in i h = go (dec_lt (n - 64 * a) 64)
    where
      go : Dec (n - 64 * a < 64) → (64 * a + i < n) × (i < 64)
      go (yes p) = let k : i < n - 64 * a = rw (rows_left p) h in (omega arith, omega arith)
      go (no p) = let k : i < 64 = rw (rows_full (omega arith)) h in (omega arith, k)

  pub in_rows : (i : ℕ) → 64 * a + i < n → i < 64 → i < rows_of n a
  in_rows i h k = go (dec_lt (n - 64 * a) 64)
    where
      go : Dec (n - 64 * a < 64) → i < rows_of n a
      go (yes p) = rw (← rows_left p) (omega arith)
      go (no p) = rw (← rows_full (omega arith)) k

-- word a of row j of group b, and as every w-th word from that of row 0
pub strided : (w a b j : ℕ) → 64 * b * w + a + j * w ≡ (64 * b + j) * w + a
strided w a b j = rw (add-mul (64 * b) j w) (omega arith)

pub strided_start : (n w a b : ℕ) (l : List ℕ) → 64 * a < n → b < w → n * w ≤ length l → 64 * a * w + b < length l
strided_start n w a b l h k fits = omega (arith, before_row w (64 * a) n h)

pub strided_within : (n w a b : ℕ) (l : List ℕ) → b < w → n * w ≤ length l → Within (64 * a * w + b) w (rows_of n a) l
strided_within n w a b l h fits =
    record {
      inside = λ i k.
          (let row = before_row w (64 * a + i) n (rows_in n a i k).0 in
          let place = strided w b a i in
          omega arith);
    }

pub room_exact : (rows columns : ℕ) (source target : List ℕ) → rows ≤ 4096 → columns ≤ 4096 → rows * words_per_row columns ≤ length source
    → length target ≡ columns * words_per_row rows → Room rows columns source target
room_exact rows columns source target h k fits e = record { few_rows = h; few_columns = k; of_source = fits; of_target = omega arith }

pub room_kept : {rows columns : ℕ} {source target : List ℕ} (target' : List ℕ) → length target' ≡ length target → Room rows columns source target
    → Room rows columns source target'
room_kept target' e r = record { few_rows = r.few_rows; few_columns = r.few_columns; of_source = r.of_source; of_target = omega (arith, r.of_target) }

-- ---- the block, loaded, exchanged and stored

masked : (t : Bool) (x j : ℕ) → bit (cond t x 0) j ≡ (t && bit x j)
masked true x j = refl
masked false x j = bit_zero j

module _ (rows columns a b : ℕ) (source target : List ℕ) (room : Room rows columns source target) (ha : a < words_per_row rows) (hb : b < words_per_row columns) where
  abbrev v : ℕ
  v = words_per_row rows

  abbrev w : ℕ
  w = words_per_row columns

  pub source_within : Within (64 * a * w + b) w (rows_of rows a) source
  source_within = strided_within rows w a b source hb room.of_source

  pub target_within : Within (64 * b * v + a) v (rows_of columns b) target
  target_within = strided_within columns v b a target ha room.of_target

  module _ (loaded turned after : List ℕ)
      (load : loaded ≡ overwrite 0 (rows_of rows a) (λ i. get_or source (64 * a * w + b + i * w) 0) (replicate 64 0))
      (turn : Exchanged loaded turned)
      (store : after ≡ scattered (64 * b * v + a) v (rows_of columns b) (λ j. get_or turned j 0) target)
    where
      -- rows of the block past the last row are 0
      loaded_at : (i : ℕ) → i < 64 → get_or loaded i 0 ≡ cond (ltb (64 * a + i) rows) (get_or source ((64 * a + i) * w + b) 0) 0
      loaded_at i k = go (dec_lt (64 * a + i) rows)
        where
          go : Dec (64 * a + i < rows) → get_or loaded i 0 ≡ cond (ltb (64 * a + i) rows) (get_or source ((64 * a + i) * w + b) 0) 0
          go (yes p) =
              rw (load, lt-ltb (64 * a + i) rows p)
              (rw zero-add at (overwrite_in 0 (λ i. get_or source (64 * a * w + b + i * w) 0) (replicate 64 0) (rows_of rows a) i (in_rows rows a i p k) (rw length-replicate (omega (arith, rows_few rows a))))
              ∙ ap (λ k. get_or source k 0) (strided w b a i))
          go (no p) =
              rw (load, le-ltb (64 * a + i) rows (omega arith))
              (overwrite_out 0 _ (replicate 64 0) (rows_of rows a) i (λ x y. p (rows_in rows a i (omega arith)).0) ∙ get_or-replicate 64 i 0 0 k)

      bit_here : (j i : ℕ) → j < 64 → i < 64 → 64 * b + j < columns
          → bit (get_or after ((64 * b + j) * v + a) 0) i ≡ (ltb (64 * a + i) rows && bit (get_or source ((64 * a + i) * w + b) 0) j)
      bit_here j i hj hi hc =
          let stored : get_or after (64 * b * v + a + j * v) 0 ≡ get_or turned j 0 =
          rw store (scattered_in (64 * b * v + a) v (λ j. get_or turned j 0) target (omega arith) (rows_of columns b) j (in_rows columns b j hc hj) target_within) in
          ap (λ x. bit x i) (ap (λ k. get_or after k 0) (sym (strided v a b j)) ∙ stored) ∙ turn.at j i hj hi ∙ ap (λ x. bit x j) (loaded_at i hi) ∙ masked (ltb (64 * a + i) rows) _ j

      right_here : (c r : ℕ) → c < columns → c / 64 ≡ b → r / 64 ≡ a → Right rows columns source after c r
      unfolding bit_in
      right_here c r h p q =
          let ec : 64 * b + c % 64 ≡ c = omega arith in
          let er : 64 * a + r % 64 ≡ r = omega arith in
          rw (p, q) (rw (ec, er) at (bit_here (c % 64) (r % 64) (omega arith) (omega arith) (omega arith)))

      -- a bit of another block stays
      kept : (c r : ℕ) → r / 64 < v → (c / 64 ≡ b → r / 64 ≡ a → ⊥) → get_or after (c * v + r / 64) 0 ≡ get_or target (c * v + r / 64) 0
      kept c r hr other = rw store (scattered_out (64 * b * v + a) v (λ j. get_or turned j 0) target (rows_of columns b) (c * v + r / 64) (λ j k e. apart j (rows_in columns b j k).1 (e ∙ strided v a b j) (ℕ_discrete c (64 * b + j))))
        where
          apart : (j : ℕ) → j < 64 → c * v + r / 64 ≡ (64 * b + j) * v + a → Dec (c ≡ 64 * b + j) → ⊥
          apart j k e (yes p) = let same : c * v ≡ (64 * b + j) * v = ap (λ x. x * v) p in other (omega arith) (omega arith)
          apart j k e (no p) = apart_out v (c * v) ((64 * b + j) * v) (c * v + r / 64) (rows_apart v c (64 * b + j) p) (omega arith) (omega arith) (omega arith) (omega arith)

      stays : (c r : ℕ) → r / 64 < v → (c / 64 ≡ b → r / 64 ≡ a → ⊥) → Right rows columns source target c r → Right rows columns source after c r
      unfolding bit_in
      stays c r hr other e = rw (kept c r hr other) e

      pub block_done : DoneTo rows columns source b a target → DoneTo rows columns source b (a + 1) after
      block_done d =
          record {
            groups = λ c r hc hr k. stays c r hr (λ (p : c / 64 ≡ b) (q : r / 64 ≡ a). omega arith) (d.groups c r hc hr k);
            blocks = λ c r hc hr e k. go c r hc hr e k (ℕ_discrete (r / 64) a);
          }
        where
          go : (c r : ℕ) → c < columns → r / 64 < v → c / 64 ≡ b → r / 64 < a + 1 → Dec (r / 64 ≡ a) → Right rows columns source after c r
          go c r hc hr e k (yes p) = right_here c r hc e p
          go c r hc hr e k (no p) = stays c r hr (λ x y. p y) (d.blocks c r hc hr e (omega arith))
