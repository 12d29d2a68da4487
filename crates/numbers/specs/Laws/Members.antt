-- Short numbers in front of a comma, as members of a list. Laws. Assumes nothing.
use Rattle.std.specs.Prelude.{ℕ, ◌+◌, ◌-◌, ◌*◌, ◌^◌, ◌≤◌, ◌<◌, ◌≡◌, refl, Bool, true, false, List, [], ◌∷◌, leb, length, get_or, take, drop}
use Rattle.std.proofs.Common.{add-one, sym, ap, ◌∙◌, leb-true, le-leb, eq-eqb, ne_eqb}
use native.Mathlib.Omega.{arith}
use Rattle.std.proofs.Math.Option.{some}
use Rattle.text.specs.Bytes.{comma, until}
use Rattle.text.specs.List.{piece_of}
use Rattle.text.specs.Number.{is_decimal, all_decimal, decimal_from, proper, number_of}
use Rattle.text.proofs.Laws.Values.{both}
use Rattle.text.proofs.Laws.Numbers.{number_good}
use Rattle.text.proofs.Laws.Pieces.{step}
use Rattle.std.specs.Prelude.{Some}
use Rattle.numbers.specs.Read.{ShortIn, MemberAt}
use Rattle.numbers.specs.Laws.Read.{read_of}

abbrev pub Digit : ℕ → Type 0
Digit b = (48 ≤ b) × (b ≤ 57)

pub digit_bounds : (b : ℕ) → is_decimal b ≡ true → Digit b
digit_bounds b e = let q = both (leb 48 b) (leb b 57) e in (leb-true 48 b q.0, leb-true b 57 q.1)

no_comma : (b : ℕ) → Digit b → b ≡ comma → ⊥
no_comma b d e = omega (arith, d.0)

until_comma : (b : ℕ) (l : List ℕ) → b ≡ 44 → until comma (b ∷ l) ≡ 0
unfolding until
until_comma b l e = simp (eq-eqb b comma e)

until_digit : (b : ℕ) (l : List ℕ) → Digit b → until comma (b ∷ l) ≡ until comma l + 1
unfolding until
until_digit b l d = simp (ne_eqb b comma (no_comma b d), add-one)

all_none : all_decimal [] ≡ true
unfolding all_decimal
all_none = refl

all_more : (b : ℕ) (l : List ℕ) → Digit b → all_decimal l ≡ true → all_decimal (b ∷ l) ≡ true
unfolding all_decimal
all_more b l d e = simp (le-leb 48 b d.0, le-leb b 57 d.1, e)

good : (l : List ℕ) (v : ℕ) → proper l ≡ true → all_decimal l ≡ true → decimal_from 0 l ≡ v → v < 2 ^ 64 → number_of l ≡ some v
good l v p d e h = number_good l p d (omega arith) ∙ ap some e

module _ (a b : ℕ) (l : List ℕ) (p : Digit a) (e : b ≡ 44) where
  value_one : decimal_from 0 (a ∷ []) ≡ a - 48
  unfolding decimal_from
  value_one = let v : 0 * 10 + (a - 48) ≡ a - 48 = omega arith in v

  pub short_one : ShortIn 1 (a - 48) (a ∷ b ∷ l)
  short_one =
      record {
        few = omega arith;
        ends = until_digit a (b ∷ l) p ∙ ap (λ (k : ℕ). k + 1) (until_comma b l e);
        reads = good (a ∷ []) (a - 48) refl (all_more a [] p all_none) value_one (omega (arith, p.1));
      }

module _ (a b c : ℕ) (l : List ℕ) (p : Digit a) (q : Digit b) (ne : a ≡ 48 → ⊥) (e : c ≡ 44) where
  value_two : decimal_from 0 (a ∷ b ∷ []) ≡ (a - 48) * 10 + (b - 48)
  unfolding decimal_from
  value_two = let v : (0 * 10 + (a - 48)) * 10 + (b - 48) ≡ (a - 48) * 10 + (b - 48) = omega arith in v

  pub short_two : ShortIn 2 ((a - 48) * 10 + (b - 48)) (a ∷ b ∷ c ∷ l)
  short_two =
      record {
        few = omega arith;
        ends = until_digit a (b ∷ c ∷ l) p ∙ ap (λ (k : ℕ). k + 1) (until_digit b (c ∷ l) q ∙ ap (λ (k : ℕ). k + 1) (until_comma c l e));
        reads = good (a ∷ b ∷ []) _ (simp (ne_eqb a 48 ne)) (all_more a _ p (all_more b [] q all_none)) value_two (omega (arith, p.1, q.1));
      }

module _ (a b c d : ℕ) (l : List ℕ) (p : Digit a) (q : Digit b) (r : Digit c) (ne : a ≡ 48 → ⊥) (e : d ≡ 44) where
  value_three : decimal_from 0 (a ∷ b ∷ c ∷ []) ≡ ((a - 48) * 10 + (b - 48)) * 10 + (c - 48)
  unfolding decimal_from
  value_three =
      let v : ((0 * 10 + (a - 48)) * 10 + (b - 48)) * 10 + (c - 48) ≡ ((a - 48) * 10 + (b - 48)) * 10 + (c - 48) = omega arith in v

  pub short_three : ShortIn 3 (((a - 48) * 10 + (b - 48)) * 10 + (c - 48)) (a ∷ b ∷ c ∷ d ∷ l)
  short_three =
      record {
        few = omega arith;
        ends =
            until_digit a (b ∷ c ∷ d ∷ l) p
            ∙ ap (λ (k : ℕ). k + 1) (until_digit b (c ∷ d ∷ l) q ∙ ap (λ (k : ℕ). k + 1) (until_digit c (d ∷ l) r ∙ ap (λ (k : ℕ). k + 1) (until_comma d l e)));
        reads =
            good (a ∷ b ∷ c ∷ []) _ (simp (ne_eqb a 48 ne)) (all_more a _ p (all_more b _ q (all_more c [] r all_none))) value_three
            (omega (arith, p.1, q.1, r.1));
      }

-- a short number at a place of s
module _ (hex : Bool) (s : List ℕ) (at digits value : ℕ) (room : at + 4 ≤ length s) where
  pub member_short : hex ≡ false
      → ((rest : List ℕ) → ShortIn digits value (get_or s at 0 ∷ get_or s (at + 1) 0 ∷ get_or s (at + 1 + 1) 0 ∷ get_or s (at + 1 + 1 + 1) 0 ∷ rest))
      → MemberAt hex s at (record { value = Some value; end = at + digits })
  member_short plain short =
      let rest = drop (at + 1 + 1 + 1 + 1) s in
      let q = short rest in
      let front : drop at s ≡ get_or s at 0 ∷ get_or s (at + 1) 0 ∷ get_or s (at + 1 + 1) 0 ∷ get_or s (at + 1 + 1 + 1) 0 ∷ rest =
      step s at (omega arith)
      ∙ ap (λ (l : List ℕ). get_or s at 0 ∷ l) (step s (at + 1) (omega arith)
      ∙ ap (λ (l : List ℕ). get_or s (at + 1) 0 ∷ l) (step s (at + 1 + 1) (omega arith)
      ∙ ap (λ (l : List ℕ). get_or s (at + 1 + 1) 0 ∷ l) (step s (at + 1 + 1 + 1) (omega arith)))) in
      let ends : until comma (drop at s) ≡ digits = ap (until comma) front ∙ q.ends in
      let wide : at + digits - at ≡ digits = omega arith in
      let piece : piece_of hex (take (at + digits - at) (drop at s)) ≡ some value =
      ap (λ (k : ℕ). piece_of hex (take k (drop at s))) wide
      ∙ ap (λ (l : List ℕ). piece_of hex (take digits l)) front
      ∙ ap (λ (h : Bool). piece_of h (take digits (get_or s at 0 ∷ get_or s (at + 1) 0 ∷ get_or s (at + 1 + 1) 0 ∷ get_or s (at + 1 + 1 + 1) 0 ∷ rest))) plain
      ∙ q.reads in
      record { found = omega arith; onward = omega arith; within = omega (arith, q.few); reads = read_of refl ∙ sym piece }
