-- Laws: a list that goes on for long enough is never spent. Two zeros a shot are enough, since the word 0 is never rejected. Assumes nothing.
use Rattle.std.specs.Prelude.{◌≡◌, Bool, cond, ◌&&◌, ltb, length, Float}
use Rattle.std.proofs.Math.Path.{refl, ap}
use Rattle.std.proofs.Common.{sym, ◌∙◌, mod-lt, lt-ltb}
use Rattle.std.proofs.Math.Bool.{true, false}
use mathlib.Core.List.{List, [], ◌∷◌, ◌++◌, append_assoc}
use Rattle.std.proofs.Math.Option.{none, some}
use Prim.Native.Nat.{ℕ, zero, suc, ◌+◌, ◌-◌, ◌^◌, ◌%◌, ◌<◌}
use native.Mathlib.Omega.{arith}
use Rattle.std.proofs.Math.ListN.{replicate}
use Rattle.std.specs.Float.Ieee.{le}
use Rattle.pauli.specs.Bits.{Bits}
use Rattle.job.specs.Line.{Distribution, size_of, Noise}
use Rattle.job.specs.Float.{float, zero_float}
use Rattle.draws.specs.Draws.{falls, Choice, limit_of, bounded, by_weight, choose_from, is_satisfied, ShotDraw, fault_of, draw_shot_of, Lent, Fault, Draws, also_fault, then_shots, draw_shots, draw_line}

-- a list that ends in so many zeros
pub record EndsIn (m : ℕ) (ws : List ℕ) : Type 0 where
  pub before : List ℕ
  pub whole : ws ≡ before ++ replicate m 0

ends_fewer : {m : ℕ} {ws : List ℕ} → EndsIn (suc m) ws → EndsIn m ws
ends_fewer {m} r = record { before = r.before ++ (0 ∷ []); whole = r.whole ∙ sym (append_assoc r.before (0 ∷ []) (replicate m 0)) }

-- ---- a choice

unfoldable ChoiceEnds : ℕ → Choice → Type 0
ChoiceEnds m Choice.spent = ⊥
ChoiceEnds m (Choice.chosen e left) = EndsIn m left

limit_positive : (c : ℕ) → 0 < c → c < 2 ^ 64 → 0 < limit_of c
limit_positive c p h = let rest : (2 ^ 64 - 1) % c < c = mod-lt (2 ^ 64 - 1) p in omega arith

bounded_enough : (c : ℕ) → 0 < limit_of c → (vs : List ℕ) (m : ℕ) → ChoiceEnds m (bounded c (vs ++ replicate (suc m) 0))
unfolding bounded ChoiceEnds
bounded_enough c h [] m = rw (lt-ltb 0 (limit_of c) h) (record { before = []; whole = refl })
bounded_enough c h (v ∷ vs) m = go (ltb v (limit_of c)) (bounded_enough c h vs m)
  where
    rest : List ℕ
    rest = vs ++ replicate (suc m) 0

    go : (b : Bool) → ChoiceEnds m (bounded c rest) → ChoiceEnds m (cond b (Choice.chosen (v % c) rest) (bounded c rest))
    go true t = unfold ChoiceEnds in ends_fewer record { before = vs; whole = refl }
    go false t = t

weight_enough : (place : Float → ℕ) (vs : List ℕ) (m : ℕ) → ChoiceEnds m (by_weight place (vs ++ replicate (suc m) 0))
unfolding by_weight ChoiceEnds
weight_enough place [] m = record { before = []; whole = refl }
weight_enough place (v ∷ vs) m = ends_fewer record { before = vs; whole = refl }

choice_enough : (d : Distribution) → 0 < size_of d → size_of d < 2 ^ 64 → (vs : List ℕ) (m : ℕ)
    → ChoiceEnds m (choose_from d (vs ++ replicate (suc m) 0))
unfolding choose_from size_of ChoiceEnds
choice_enough (Distribution.single P) p h vs m = ends_fewer record { before = vs; whole = refl }
choice_enough (Distribution.depolarizing qs) p h vs m = bounded_enough (4 ^ length qs - 1) (limit_positive (4 ^ length qs - 1) p h) vs m
choice_enough (Distribution.uniform Ps) p h vs m = bounded_enough (length Ps) (limit_positive (length Ps) p h) vs m
choice_enough (Distribution.weighted es) p h vs m = weight_enough _ vs m

-- ---- the shots of a noise line

unfoldable ShotEnds : ℕ → ShotDraw → Type 0
ShotEnds m ShotDraw.spent = ⊥
ShotEnds m (ShotDraw.drew o left) = EndsIn m left

unfoldable pub Enough : Draws → Type 0
Enough Draws.spent = ⊥
Enough (Draws.drawn fs left) = Unit

pub enough_drawn : (o : Draws) → Enough o → (fs : List Fault) × (left : List ℕ) × (o ≡ Draws.drawn fs left)
unfolding Enough
enough_drawn Draws.spent t = absurd t
enough_drawn (Draws.drawn fs left) t = (fs, left, refl)

module _ (lent : Lent) (n : Noise) (p : 0 < size_of n.distribution) (h : size_of n.distribution < 2 ^ 64) where
  after_word : (bits : Bits) (w : ℕ) (vs : List ℕ) (m : ℕ) → ShotEnds m (draw_shot_of n bits (w ∷ vs ++ replicate (suc m) 0))
  unfolding draw_shot_of ShotEnds
  after_word bits w vs m =
      go (falls w (float n.probability) && is_satisfied n.condition bits) (choose_from n.distribution rest) (choice_enough n.distribution p h vs m)
    where
      rest : List ℕ
      rest = vs ++ replicate (suc m) 0

      go : (b : Bool) (o : Choice) → ChoiceEnds m o → ShotEnds m (cond b (fault_of o) (ShotDraw.drew none rest))
      go false o t = ends_fewer record { before = vs; whole = refl }
      go true Choice.spent t = unfold ChoiceEnds in absurd t
      go true (Choice.chosen e left) t = unfold ChoiceEnds fault_of ShotEnds in t

  shot_enough : (bits : Bits) (vs : List ℕ) (m : ℕ) → ShotEnds m (draw_shot_of n bits (vs ++ replicate (suc (suc m)) 0))
  shot_enough bits [] m = after_word bits 0 [] m
  shot_enough bits (v ∷ vs) m = fewer (draw_shot_of n bits (v ∷ vs ++ replicate (suc (suc m)) 0)) (after_word bits v vs (suc m))
    where
      fewer : (o : ShotDraw) → ShotEnds (suc m) o → ShotEnds m o
      fewer ShotDraw.spent t = unfold ShotEnds in t
      fewer (ShotDraw.drew o left) t = unfold ShotEnds in ends_fewer t

  shots_enough : (count shot : ℕ) (ws : List ℕ) → EndsIn (count + count) ws → Enough (draw_shots lent n count shot ws)
  unfolding draw_shots Enough
  shots_enough zero shot ws r = tt
  shots_enough (suc count) shot ws r =
      let two : suc count + suc count ≡ suc (suc (count + count)) = omega arith in
      let whole : ws ≡ r.before ++ replicate (suc (suc (count + count))) 0 = r.whole ∙ ap (λ (k : ℕ). r.before ++ replicate k 0) two in
      let first : ShotEnds (count + count) (draw_shot_of n (λ id. lent.noiseless id shot) ws) =
      rw whole (shot_enough (λ id. lent.noiseless id shot) r.before (count + count)) in
      go (draw_shot_of n (λ id. lent.noiseless id shot) ws) first (shots_enough count (suc shot))
    where
      later : List ℕ → Draws
      later = draw_shots lent n count (suc shot)

      fault : (e : ℕ) (o : Draws) → Enough o → Enough (also_fault record { shot = shot; element = e } o)
      fault e Draws.spent t = unfold also_fault in t
      fault e (Draws.drawn fs left) t = unfold also_fault Enough in tt

      go : (o : ShotDraw) → ShotEnds (count + count) o → ((vs : List ℕ) → EndsIn (count + count) vs → Enough (later vs))
          → Enough (then_shots shot o later)
      go ShotDraw.spent t ih = unfold ShotEnds in absurd t
      go (ShotDraw.drew none vs) t ih = unfold then_shots ShotEnds in ih vs t
      go (ShotDraw.drew (some e) vs) t ih = unfold then_shots ShotEnds in fault e (later vs) (ih vs t)

  -- with two zeros a shot after any list the line is drawn
  pub line_enough : (ws : List ℕ) → Enough (draw_line lent n (ws ++ replicate (lent.shots + lent.shots) 0))
  unfolding draw_line
  line_enough ws = go (le (float n.probability) zero_float) (shots_enough lent.shots 0 longer record { before = ws; whole = refl })
    where
      longer : List ℕ
      longer = ws ++ replicate (lent.shots + lent.shots) 0

      go : (b : Bool) → Enough (draw_shots lent n lent.shots 0 longer)
          → Enough (cond b (Draws.drawn [] longer) (draw_shots lent n lent.shots 0 longer))
      go true t = unfold Enough in tt
      go false t = t
