-- Texts that are counted and not written. Laws. Assumes nothing.
use Rattle.std.specs.Prelude.{◌≡◌, refl, List, [], ◌∷◌, ℕ, zero, suc, ◌+◌, ◌/◌, ◌%◌, ◌^◌, ◌≤◌, ◌<◌, length, get_or, drop}
use Rattle.std.proofs.Common.{ap, pow-suc, arith, length-append, drop_of_length-le}
use Rattle.text.specs.Number.{decimal_digits, decimal}
use Rattle.text.specs.List.{commas_by, list_text_by, commas, list_text}
use Rattle.writer.specs.Laws.Digits.{last_digit, one_digit}
use Rattle.writer.specs.Laws.Lists.{commas_left}

-- ---- digits

-- The digits that were cut off are counted, and one more: of what is left at least one is. It has at most as many as there is room for.
pub record Counted (n rest count : ℕ) : Type 0 where
  pub room : ℕ
  pub some : 1 ≤ room
  pub same : length (decimal n) + 1 ≡ count + length (decimal_digits room rest)
  pub left : rest < 10 ^ room
  pub few : count + room ≡ 21

pub none_cut : {n : ℕ} → n < 2 ^ 64 → Counted n n 1
none_cut h = record { room = 20; some = omega arith; same = omega arith; left = omega arith; few = refl }

module _ {n rest count : ℕ} where
  pub digit_cut : Counted n rest count → 9 < rest → Counted n (rest / 10) (count + 1)
  digit_cut c h = go c.room c.same c.left c.few
    where
      go : (i : ℕ) → length (decimal n) + 1 ≡ count + length (decimal_digits i rest) → rest < 10 ^ i → count + i ≡ 21
          → Counted n (rest / 10) (count + 1)
      go zero s l f = absurd (omega arith)
      go (suc zero) s l f = absurd (omega arith)
      go (suc (suc i)) s l f =
          record {
            room = suc i;
            some = omega arith;
            same = omega (arith, s, ap length (last_digit (suc i) rest h), length-append (decimal_digits (suc i) (rest / 10)) ((48 + rest % 10) ∷ []));
            left = omega (arith, rw pow-suc at l);
            few = omega (arith, f);
          }

  pub all_cut : Counted n rest count → rest ≤ 9 → count ≡ length (decimal n)
  all_cut c h = go c.room c.some c.same
    where
      go : (i : ℕ) → 1 ≤ i → length (decimal n) + 1 ≡ count + length (decimal_digits i rest) → count ≡ length (decimal n)
      go zero o s = absurd (omega arith)
      go (suc i) o s = omega (arith, s, ap length (one_digit i rest h))

-- ---- lists

-- each member after a comma is one comma more than the list has, if it is not empty
pub commas_more : (l : List ℕ) → (length l ≡ 0 → ⊥) → length (commas l) ≡ length (list_text l) + 1
unfolding commas_by list_text_by
commas_more [] h = absurd (h refl)
commas_more (n ∷ l) h = omega arith

pub member_counted : (l : List ℕ) (i : ℕ) → i < length l
    → length (commas (drop i l)) ≡ 1 + length (decimal (get_or l i 0)) + length (commas (drop (i + 1) l))
member_counted l i h = omega (arith, ap length (commas_left l i h), length-append (decimal (get_or l i 0)) (commas (drop (i + 1) l)))

pub members_counted : (l : List ℕ) (i : ℕ) → length l ≤ i → length (commas (drop i l)) ≡ 0
unfolding commas_by
members_counted l i h = rw (drop_of_length-le l h)
