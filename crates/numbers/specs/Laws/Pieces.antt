-- The search for a separator, byte by byte. Laws. Assumes nothing.
use Rattle.std.specs.Prelude.{ℕ, suc, ◌+◌, ◌≤◌, ◌<◌, ◌≡◌, refl, Bool, true, false, cond, List, [], ◌∷◌, eqb, length, get_or, drop}
use Rattle.std.proofs.Common.{arith, subst, eqb-true}
use Rattle.std.proofs.lemmas.Bool.{eqb-false}
use mir.Val.{bool_byte}
use Rattle.std.specs.Int.Bits.{bit_or, or_zero_r, or_add_and}
use Rattle.std.proofs.lemmas.Nat.{and_le_l}
use Rattle.text.specs.Bytes.{until}
use Rattle.text.proofs.Laws.Pieces.{until_here, until_next, until_end}

-- there stands a separator
pub until_at : (sep : ℕ) (l : List ℕ) → until sep l < length l → get_or l (until sep l) 0 ≡ sep
unfolding until
until_at sep [] h = absurd (omega arith)
until_at sep (b ∷ l) h = go (eqb b sep) refl h (until_at sep l)
  where
    go : (t : Bool) → eqb b sep ≡ t → cond t 0 (suc (until sep l)) < suc (length l) → (until sep l < length l → get_or l (until sep l) 0 ≡ sep)
        → get_or (b ∷ l) (cond t 0 (suc (until sep l))) 0 ≡ sep
    go true e k ih = eqb-true b sep e
    go false e k ih = ih (omega arith)

-- from `at` up to `i` there is none
pub record Searched (sep : ℕ) (s : List ℕ) (at i : ℕ) : Type 0 where
  pub onward : at ≤ i
  pub within : i ≤ length s
  pub same : at + until sep (drop at s) ≡ i + until sep (drop i s)

-- the place of the first from `at` on
abbrev pub Found : ℕ → List ℕ → ℕ → ℕ → Type 0
Found sep s at i = (i ≡ at + until sep (drop at s)) × ((at ≤ i) × (i ≤ length s))

pub search_none : {sep : ℕ} {s : List ℕ} {at : ℕ} → at ≤ length s → Searched sep s at at
search_none h = record { onward = omega arith; within = h; same = refl }

module _ {sep : ℕ} {s : List ℕ} {at i : ℕ} (q : Searched sep s at i) where
  pub search_more : i < length s → (get_or s i 0 ≡ sep → ⊥) → Searched sep s at (i + 1)
  search_more h e = record { onward = omega (arith, q.onward); within = omega arith; same = omega (arith, q.same, until_next sep s i h e) }

  pub search_found : i < length s → get_or s i 0 ≡ sep → Found sep s at i
  search_found h e = (omega (arith, q.same, until_here sep s i h e), (q.onward, q.within))

  pub search_ends : length s ≤ i → Found sep s at i
  search_ends h = (omega (arith, q.same, until_end sep s i h), (q.onward, q.within))

  -- a whole block has none
  pub search_block : i + 16 ≤ length s → until sep (drop i s) ≡ 16 + until sep (drop (i + 16) s) → Searched sep s at (i + 16)
  search_block h e = record { onward = omega (arith, q.onward); within = h; same = omega (arith, q.same) }

  -- the search goes on from there
  pub search_on : {r : ℕ} → Found sep s i r → Found sep s at r
  search_on f = (omega (arith, q.same, f.0), (omega (arith, q.onward, f.1.0), f.1.1))

-- ---- the bytes of a block

-- Of i bytes from `at` on none is sep, where none was seen.
pub record Unseen (sep : ℕ) (s : List ℕ) (at i seen : ℕ) : Type 0 where
  pub none : seen ≡ 0 → until sep (drop at s) ≡ i + until sep (drop (at + i) s)

pub unseen_none : {sep : ℕ} {s : List ℕ} {at : ℕ} → Unseen sep s at 0 0
unseen_none {sep} {s} {at} = record { none = λ z. let here : at + 0 ≡ at = omega arith in rw here (omega arith) }

pub unseen_all : {sep : ℕ} {s : List ℕ} {at i seen : ℕ} → Unseen sep s at i seen → i ≡ 16 → seen ≡ 0
    → until sep (drop at s) ≡ 16 + until sep (drop (at + 16) s)
unseen_all {sep} {s} {at} q e z = subst (λ (k : ℕ). until sep (drop at s) ≡ k + until sep (drop (at + k) s)) e (q.none z)

pub unseen_more : {sep : ℕ} {s : List ℕ} {at i seen : ℕ} → Unseen sep s at i seen → at + i < length s
    → Unseen sep s at (i + 1) (bit_or seen (bool_byte (eqb (get_or s (at + i) 0) sep)))
unseen_more {sep} {s} {at} {i} {seen} q h = go (eqb (get_or s (at + i) 0) sep) refl
  where
    go : (b : Bool) → eqb (get_or s (at + i) 0) sep ≡ b → Unseen sep s at (i + 1) (bit_or seen (bool_byte b))
    go true e =
        let or = or_add_and seen 1 in
        let and = and_le_l seen 1 in
        record { none = λ z. absurd (omega arith) }
    go false e =
        rw (or_zero_r seen)
        (record {
          none = λ z.
              let place : at + (i + 1) ≡ at + i + 1 = omega arith in
              rw place (omega (arith, q.none z, until_next sep s (at + i) h (eqb-false _ _ e)));
        })
