-- A round, group by group, and the rounds one after the other. Assumes nothing.
use Rattle.std.specs.Prelude.{◌≡◌, refl, Bool, true, false, cond, List, ℕ, zero, suc, ◌+◌, ◌*◌, ◌<◌, ◌≤◌, length, get_or}
use Rattle.std.proofs.Common.{ap, ◌∙◌, ⊎_elim, arith, not-suc-le-zero, eq-or-lt_of_le, le_of_suc-le-suc, suc-mul, zero-mul, mul-le-mul_right, add_assoc, add-zero, mul-one, add-one}
use Rattle.std.proofs.Math.Decide.{dec_lt}
use Rattle.pauli.specs.Bits.{bit}
use Rattle.rows.proofs.Laws.Overwrite.{before_row}
use Rattle.blocks.specs.Exchange.{Exchanged, place, Crossed, partner, crossed, is_mask}
use Rattle.blocks.specs.Laws.Pair.{bit_partner}
use Rattle.blocks.specs.Laws.Cross.{length_crossed, crossed_out, crossed_in}

-- a group that begins in the block ends in it
whole : (n h a : ℕ) → n * (2 * h) ≡ 64 → a * (2 * h) < 64 → a < n
whole n h a e k = go (dec_lt a n)
  where
    go : Dec (a < n) → a < n
    go (yes p) = p
    go (no p) = let q : n * (2 * h) ≤ a * (2 * h) = mul-le-mul_right (2 * h) (omega arith) in absurd (omega arith)

pub group_fits : (n h a : ℕ) → n * (2 * h) ≡ 64 → a < n → a * (2 * h) + 2 * h ≤ 64
group_fits n h a e p = omega (arith, before_row (2 * h) a n p)

-- a place of an earlier group
below : (h a n : ℕ) (b : Bool) (c : ℕ) → a < n → c < h → place h a b c < n * (2 * h)
below h a n false c p k = omega (arith, before_row (2 * h) a n p)
below h a n true c p k = omega (arith, before_row (2 * h) a n p)

chosen : (l : List ℕ) (h a : ℕ) (b : Bool) (c : ℕ) → cond b (get_or l (place h a true c) 0) (get_or l (place h a false c) 0) ≡ get_or l (place h a b c) 0
chosen l h a false c = refl
chosen l h a true c = refl

-- ---- the groups of a round

-- the first n groups are done, and the others as they were
pub record RoundTo (h mask n : ℕ) (before after : List ℕ) : Type 0 where
  pub long : length after ≡ 64
  pub done : (a : ℕ) (b : Bool) (c : ℕ) → a < n → c < h
      → get_or after (place h a b c) 0 ≡ partner h mask b (get_or before (place h a false c) 0) (get_or before (place h a true c) 0)
  pub left : (k : ℕ) → n * (2 * h) ≤ k → get_or after k 0 ≡ get_or before k 0

pub round_none : (h mask : ℕ) (l : List ℕ) → length l ≡ 64 → RoundTo h mask 0 l l
round_none h mask l e = record { long = e; done = λ a b c k. absurd (not-suc-le-zero k); left = λ k p. refl }

module _ {h mask n : ℕ} {before l : List ℕ} (r : RoundTo h mask n before l) (fits : n * (2 * h) + 2 * h ≤ 64) where
  same_in : (b : Bool) (c : ℕ) → get_or l (place h n b c) 0 ≡ get_or before (place h n b c) 0
  same_in b c = r.left (place h n b c) (omega arith)

  here : (b : Bool) (c : ℕ) → c < h
      → get_or (crossed h mask (n * (2 * h)) h l) (place h n b c) 0 ≡ partner h mask b (get_or before (place h n false c) 0) (get_or before (place h n true c) 0)
  here b c k =
      let low : n * (2 * h) + c ≡ place h n false c = omega arith in
      crossed_in h mask (n * (2 * h)) l b h c k (omega arith) (rw r.long (omega arith)) ∙ rw (low, same_in false c, same_in true c)

  earlier : (a : ℕ) (b : Bool) (c : ℕ) → a < n → c < h → get_or (crossed h mask (n * (2 * h)) h l) (place h a b c) 0 ≡ get_or l (place h a b c) 0
  earlier a b c p k =
      let small : place h a b c < n * (2 * h) = below h a n b c p k in
      crossed_out h mask (n * (2 * h)) l h (place h a b c) (λ u v. omega arith) (λ u v. omega arith)

  pub round_more : RoundTo h mask (n + 1) before (crossed h mask (n * (2 * h)) h l)
  round_more =
      record {
        long = length_crossed h mask (n * (2 * h)) l h ∙ r.long;
        done = λ a b c p k. ⊎_elim (λ (e : a ≡ n). rw e (here b c k)) (λ (q : a < n). earlier a b c q k ∙ r.done a b c q k) (eq-or-lt_of_le (le_of_suc-le-suc (rw add-one at p)));
        left = λ k p. (let next : n * (2 * h) + 2 * h ≤ k = rw (add-one, suc-mul n (2 * h)) at p in crossed_out h mask (n * (2 * h)) l h k (λ u v. omega arith) (λ u v. omega arith) ∙ r.left k (omega arith));
      }

pub round_end : (h mask n : ℕ) (before after : List ℕ) → 0 < h → n * (2 * h) ≡ 64 → is_mask h mask ≡ true → RoundTo h mask n before after → Crossed h before after
round_end h mask n before after some e m r =
    record {
      long = r.long;
      at = λ a b c d u f p k q j.
          (let small : place h d u f < 64 = rw e at (below h d n u f (whole n h d e q) j) in
          rw (r.done a b c (whole n h a e p) k) (bit_partner h mask some m (get_or before (place h a false c) 0) (get_or before (place h a true c) 0) b d u f j small ∙ ap (λ x. bit x (place h d b f)) (chosen before h a u c)));
    }

-- ---- one round after the other

-- squares of n by n have changed places, and their inside is as it was
pub record Turned (n : ℕ) (before after : List ℕ) : Type 0 where
  pub long : length after ≡ 64
  pub at : (a c d f : ℕ) → a * n < 64 → c < n → d * n < 64 → f < n → bit (get_or after (a * n + c) 0) (d * n + f) ≡ bit (get_or before (d * n + c) 0) (a * n + f)

pub turned_none : (l : List ℕ) → length l ≡ 64 → Turned 64 l l
turned_none l e = record { long = e; at = λ a c d f p k q j. (let z : a ≡ d = omega arith in rw z) }

-- the half of its group that a square of width h lies in
halves : (x h : ℕ) → (a : ℕ) × (b : Bool) × (x * h ≡ a * (2 * h) + cond b h 0)
halves zero h = (0, false, rw (zero-mul h, zero-mul (2 * h)))
halves (suc x) h = go (halves x h)
  where
    go : (a : ℕ) × (b : Bool) × (x * h ≡ a * (2 * h) + cond b h 0) → (a : ℕ) × (b : Bool) × (suc x * h ≡ a * (2 * h) + cond b h 0)
    go (a, false, e) = (a, true, rw (suc-mul x h) (omega arith))
    go (a, true, e) = (suc a, false, rw (suc-mul x h, suc-mul a (2 * h)) (omega arith))

inside : (h : ℕ) (b : Bool) (c : ℕ) → c < h → cond b h 0 + c < 2 * h
inside h false c k = omega arith
inside h true c k = omega arith

module _ (h : ℕ) (before mid after : List ℕ) (t : Turned (2 * h) before mid) (r : Crossed h mid after) where
  turned_at : (a : ℕ) (b : Bool) (c d : ℕ) (e : Bool) (f : ℕ) → a * (2 * h) < 64 → c < h → d * (2 * h) < 64 → f < h
      → bit (get_or after (place h a b c) 0) (place h d e f) ≡ bit (get_or before (place h d e c) 0) (place h a b f)
  turned_at a b c d e f p k q j =
      r.at a b c d e f p k q j
      ∙ rw (add_assoc (a * (2 * h)) (cond e h 0) c, add_assoc (d * (2 * h)) (cond b h 0) f, add_assoc (d * (2 * h)) (cond e h 0) c, add_assoc (a * (2 * h)) (cond b h 0) f)
      (t.at a (cond e h 0 + c) d (cond b h 0 + f) p (inside h e c k) q (inside h b f j))

  pub turned_more : Turned h before after
  turned_more = record { long = r.long; at = λ a c d f p k q j. go a c d f p k q j (halves a h) (halves d h) }
    where
      go : (a c d f : ℕ) → a * h < 64 → c < h → d * h < 64 → f < h
          → (x : ℕ) × (b : Bool) × (a * h ≡ x * (2 * h) + cond b h 0)
          → (y : ℕ) × (b : Bool) × (d * h ≡ y * (2 * h) + cond b h 0)
          → bit (get_or after (a * h + c) 0) (d * h + f) ≡ bit (get_or before (d * h + c) 0) (a * h + f)
      go a c d f p k q j (x, b, e) (y, u, v) = rw (e, v) (turned_at x b c y u f (omega arith) k (omega arith) j)

pub turned_all : (before after : List ℕ) → Turned 1 before after → Exchanged before after
turned_all before after t = record { long = t.long; at = λ i j p q. rw (mul-one i, mul-one j, add-zero i, add-zero j) at (t.at i 0 j 0 (omega arith) (omega arith) (omega arith) (omega arith)) }
