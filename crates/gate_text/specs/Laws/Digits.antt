-- A number that is known to stand at a place up to a separator, by its digits. Laws. Assumes nothing.
use Rattle.std.specs.Prelude.{ℕ, ◌+◌, ◌≤◌, ◌<◌, ◌≡◌, refl, Bool, true, false, List, ltb, length, get_or, take, drop}
use Rattle.std.proofs.Common.{arith, sym, ap, subst, ◌∙◌, ltb-true, ltb-false, length-take-le}
use Rattle.std.proofs.Math.Option.{some}
use Rattle.std.proofs.Math.ListN.{get_or-eq_default}
use Rattle.text.specs.Bytes.{until}
use Rattle.text.specs.Number.{decimal_from, number_of}
use Rattle.text.proofs.Laws.Values.{number_small}
use Rattle.text.proofs.Laws.Pieces.{until_le}
use Rattle.numbers.specs.declared.known.Digits.{Digits}
use Rattle.numbers.specs.Known.{digits_at, DigitsThere, DigitsRead}
use Rattle.numbers.specs.Laws.Pieces.{until_at}
use Rattle.numbers.specs.Laws.Known.{digits_are, number_bytes}

-- the bytes up to the first separator, or all where there is none
abbrev pub piece : ℕ → List ℕ → List ℕ
piece sep l = take (until sep l) l

-- a number stands from a place on
pub record NumberThere (line : List ℕ) (from sep : ℕ) : Type 0 where
  pub within : from ≤ length line
  pub value : ℕ
  pub is : number_of (piece sep (drop from line)) ≡ some value

-- it was read, up to the place behind it
pub record NumberRead (line : List ℕ) (from sep : ℕ) (r : Digits) : Type 0 where
  pub behind : r.behind ≡ from + until sep (drop from line)
  pub within : r.behind ≤ length line
  pub is : number_of (piece sep (drop from line)) ≡ some r.value

-- a separator below `0` is behind it, or nothing
low_behind : (sep : ℕ) (l : List ℕ) → sep < 48 → get_or l (until sep l) 0 < 48
low_behind sep l low = go (ltb (until sep l) (length l)) refl
  where
    go : (b : Bool) → ltb (until sep l) (length l) ≡ b → get_or l (until sep l) 0 < 48
    go true e = subst (λ (k : ℕ). k < 48) (sym (until_at sep l (ltb-true _ _ e))) low
    go false e = subst (λ (k : ℕ). k < 48) (sym (get_or-eq_default l 0 (ltb-false _ _ e))) (omega arith)

module _ {line : List ℕ} {from sep : ℕ} (t : NumberThere line from sep) (low : sep < 48) where
  same_digits : digits_at line from ≡ piece sep (drop from line)
  same_digits = digits_are (drop from line) _ (number_bytes _ t.value t.is).1 (low_behind sep (drop from line) low)

  same_value : decimal_from 0 (digits_at line from) ≡ t.value
  same_value = ap (decimal_from 0) same_digits ∙ (number_bytes _ t.value t.is).2

  pub number_there : DigitsThere line from
  number_there = record { within = t.within; small = omega (arith, same_value, number_small _ t.value t.is) }

  pub number_read : {r : Digits} → DigitsRead line from r → NumberRead line from sep r
  number_read read =
      let long : length (digits_at line from) ≡ until sep (drop from line) =
      ap length same_digits ∙ length-take-le (until sep (drop from line)) (drop from line) (until_le sep (drop from line)) in
      record {
        behind = omega (arith, read.behind);
        within = read.within;
        is = t.is ∙ ap some (sym (read.value ∙ same_value));
      }
