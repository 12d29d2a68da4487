-- Lists written member by member, and how long the texts are. Laws. Assumes nothing.
use Rattle.std.specs.Prelude.{◌≡◌, refl, Bool, true, false, cond, ℕ, zero, suc, ◌+◌, ◌-◌, ◌*◌, ◌/◌, ◌%◌, ◌≤◌, ◌<◌, ltb, length, get_or, take, drop}
use Rattle.std.proofs.Common.{sym, ap, ◌∙◌, drop_of_length-le, take_all}
use mathlib.Core.List.{List, [], ◌∷◌, ◌++◌}
use native.Mathlib.Omega.{arith}
use Rattle.std.proofs.Math.ListN.{length-append}
use Rattle.text.specs.Bytes.{comma}
use Rattle.text.specs.Number.{decimal_digits, decimal, hex_byte_of, hex_digits, hexadecimal}
use Rattle.text.specs.List.{commas_by, list_text_by, commas, list_text}
use Rattle.writer.specs.Placed.{Puts}
use Rattle.text.proofs.Laws.Pieces.{step}
use Rattle.writer.specs.Laws.Placing.{Rest, rest_all, rest_more, rest_none}

-- ---- how long the texts are

digits_length : (f n : ℕ) → length (decimal_digits f n) ≤ f
unfolding decimal_digits
digits_length zero n = omega arith
digits_length (suc f) n = go (ltb n 10) (digits_length f (n / 10))
  where
    go : (t : Bool) → length (decimal_digits f (n / 10)) ≤ f → length (cond t ((48 + n) ∷ []) (decimal_digits f (n / 10) ++ (48 + n % 10) ∷ [])) ≤ suc f
    go true h = omega arith
    go false h = omega (arith, length-append (decimal_digits f (n / 10)) ((48 + n % 10) ∷ []))

pub decimal_length : (n : ℕ) → length (decimal n) ≤ 20
decimal_length n = digits_length 20 n

hexes_length : (f n : ℕ) → length (hex_digits f n) ≡ f
unfolding hex_digits
hexes_length zero n = refl
hexes_length (suc f) n = omega (arith, length-append (hex_digits f (n / 16)) (hex_byte_of (n % 16) ∷ []), hexes_length f (n / 16))

pub hex_length : (n : ℕ) → length (hexadecimal n) ≡ 16
hex_length n = hexes_length 16 n

-- a list whose members take at most 20 bytes each
module _ (one : ℕ → List ℕ) (short : (n : ℕ) → length (one n) ≤ 20) where
  pub commas_length : (l : List ℕ) → length (commas_by one l) ≤ 21 * length l
  unfolding commas_by
  commas_length [] = omega arith
  commas_length (n ∷ l) = omega (arith, length-append (one n) (commas_by one l), short n, commas_length l)

  pub list_length : (l : List ℕ) → length (list_text_by one l) ≤ 21 * length l + 1
  unfolding list_text_by
  list_length [] = omega arith
  list_length (n ∷ l) = omega (arith, length-append (one n) (commas_by one l), short n, commas_length l)

-- ---- member by member

-- of the members, each after a comma, those from i on are left
pub commas_left : (l : List ℕ) (i : ℕ) → i < length l → commas (drop i l) ≡ (comma ∷ []) ++ (decimal (get_or l i 0) ++ commas (drop (i + 1) l))
unfolding commas_by
commas_left l i h = rw (step l i h) refl

-- the first i members are put
pub record Listing (at : ℕ) (l out : List ℕ) (i : ℕ) (after : List ℕ) (next : ℕ) : Type 0 where
  pub within : i ≤ length l
  pub rest : Rest at (commas l) out next (commas (drop i l)) after

pub listed_none : {at : ℕ} {l out : List ℕ} → Listing at l out 0 out at
listed_none = record { within = omega arith; rest = rest_all }

module _ {at : ℕ} {l out : List ℕ} {i : ℕ} {after : List ℕ} {next : ℕ} (s : Listing at l out i after next) where
  -- there is room for one member more
  pub room_left : i < length l → next + 1 + length (decimal (get_or l i 0)) ≤ at + length (commas l)
  room_left h =
      let left = simp length-append at (ap length (commas_left l i h)) in
      omega (arith, s.rest.place, left)

  pub listed_more : {mid end : ℕ} {b c : List ℕ} → i < length l → Puts next (comma ∷ []) after b mid → Puts mid (decimal (get_or l i 0)) b c end
      → Listing at l out (i + 1) c end
  listed_more h p q = record { within = omega arith; rest = rest_more (rest_more (rw (commas_left l i h) at s.rest) p) q }

  pub listed_all : length l ≤ i → Puts at (commas l) out after next
  unfolding commas_by
  listed_all h = rest_none (rw (drop_of_length-le l h) at s.rest)

-- the first member, and the others after commas
pub list_first : (l : List ℕ) → (length l ≡ 0 → ⊥) → decimal (get_or l 0 0) ++ commas (take (length l - 1) (drop 1 l)) ≡ list_text l
unfolding list_text_by
list_first [] h = absurd (h refl)
list_first (n ∷ l) h = rw (take_all (suc (length l) - 1) l (omega arith))

pub first_length : (l : List ℕ) → (length l ≡ 0 → ⊥)
    → length (decimal (get_or l 0 0)) + length (commas (take (length l - 1) (drop 1 l))) ≡ length (list_text l)
first_length l h = sym (length-append (decimal (get_or l 0 0)) (commas (take (length l - 1) (drop 1 l)))) ∙ ap length (list_first l h)

pub list_empty : (l : List ℕ) → length l ≡ 0 → list_text l ≡ 45 ∷ []
unfolding list_text_by
list_empty [] h = refl
list_empty (n ∷ l) h = absurd (omega arith)
