-- Theorems: what is written reads back, and what is no number. Their proofs stand in Laws. Assumes nothing.
use Rattle.std.specs.Prelude.{ℕ, ◌-◌, ◌^◌, ◌<◌, ◌≤◌, ◌≡◌, true, false, List, ◌∷◌, length, get_or}
use Rattle.std.proofs.Math.Option.{none, some}
use Rattle.std.proofs.Common.{arith, le-ltb}
use Rattle.text.specs.Bytes.{LF, lines, unlines}
use Rattle.text.specs.Number.{decimal_from, number_of}
use Rattle.text.specs.List.{rises_from, is_rising_of}
use Rattle.text.specs.Template.{Value, values_of, line_text}
use Rattle.text.specs.Written.{AllSuit, of_one_line, Free, AllFree}
use Rattle.text.proofs.Laws.Numbers as numbers
use Rattle.text.proofs.Laws.Written as written

module _ (ts : List ℕ) (one : of_one_line ts ≡ true) where
  -- A line that is written by a template has by that template the values that were written.
  pub written_reads : (ds : List Value) → AllSuit ts ds → values_of ts (line_text ts ds) ≡ some ds
  written_reads ds s = written.line_read ts ds one s

  -- It is one line, whatever the values are: no LF is in it.
  pub written_one_line : (ds : List Value) → Free LF (line_text ts ds)
  written_one_line ds = written.line_free ts ds one

-- A text of lines without LF has these lines.
pub lines_unlines : (ls : List (List ℕ)) → AllFree LF ls → lines (unlines ls) ≡ ls
lines_unlines ls f = written.lines_unlines ls f

-- The lines of any bytes are such lines, and bytes that end in LF are the text of their lines.
pub lines_free : (l : List ℕ) → AllFree LF (lines l)
lines_free l = written.lines_free l

pub unlines_lines : (l : List ℕ) → (0 < length l → get_or l (length l - 1) 0 ≡ LF) → unlines (lines l) ≡ l
unlines_lines l e = written.unlines_lines l e

-- Bytes with a 0 in front of others are no number, nor are those whose digits come to 2^64 or more.
pub leading_zero : (b : ℕ) (l : List ℕ) → number_of (48 ∷ b ∷ l) ≡ none
leading_zero b l = numbers.leading_zero b l

pub too_large : (l : List ℕ) → 2 ^ 64 ≤ decimal_from 0 l → number_of l ≡ none
too_large l h = numbers.number_large l h

-- A list that begins with a member twice does not rise.
pub strictly_rising : (a : ℕ) (l : List ℕ) → is_rising_of (a ∷ a ∷ l) ≡ false
unfolding is_rising_of rises_from
strictly_rising a l = rw (le-ltb a a (omega arith))
