-- Definitions that contracts cite: what the blocks up to some place have come to. Assumes nothing.
use Rattle.std.specs.Prelude.{◌≡◌, cond, ◌&&◌, List, ℕ, ◌*◌, ◌-◌, ◌/◌, ◌<◌, ◌≤◌, ltb, length}
use Rattle.rows.specs.Words.{words_per_row, bit_in}

-- how many of n rows are in group a of 64
unfoldable pub rows_of : ℕ → ℕ → ℕ
rows_of n a = cond (ltb (n - 64 * a) 64) (n - 64 * a) 64

-- the counts, and words for them on both sides
pub record Room (rows columns : ℕ) (source target : List ℕ) : Type 0 where
  pub few_rows : rows ≤ 4096
  pub few_columns : columns ≤ 4096
  pub of_source : rows * words_per_row columns ≤ length source
  pub of_target : columns * words_per_row rows ≤ length target

-- bit r of row c of the target is bit c of row r of the source
abbrev pub Right : ℕ → ℕ → List ℕ → List ℕ → ℕ → ℕ → Type 0
Right rows columns source target c r = bit_in (words_per_row rows) target c r ≡ (ltb r rows && bit_in (words_per_row columns) source r c)

-- the groups of columns before b are done, and of group b the groups of rows before a
pub record DoneTo (rows columns : ℕ) (source : List ℕ) (b a : ℕ) (target : List ℕ) : Type 0 where
  pub groups : (c r : ℕ) → c < columns → r / 64 < words_per_row rows → c / 64 < b → Right rows columns source target c r
  pub blocks : (c r : ℕ) → c < columns → r / 64 < words_per_row rows → c / 64 ≡ b → r / 64 < a → Right rows columns source target c r
