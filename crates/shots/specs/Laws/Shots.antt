-- The shots of a noise line, as the code goes through them. Laws. Assumes nothing.
use Prim.Native.Nat.{ℕ, zero, suc, ◌+◌, ◌-◌, ◌*◌, ◌/◌, ◌%◌, ◌<◌, ◌≤◌}
use Rattle.std.proofs.Common.{add-zero, zero-mul, zero-add, add-suc, suc-add, ◌∙◌, length-drop, drop_of_length-le, drop-cons, drop-drop, get_or-drop}
use Rattle.std.proofs.Math.Nat.{sub-zero, suc-sub-suc}
use Rattle.std.proofs.Math.Numerals.{add-one}
use native.Mathlib.Omega.{arith}
use Rattle.std.specs.Prelude.{◌≡◌, Bool, ◌&&◌, length, get_or, drop, Option, Some, None}
use Rattle.std.proofs.Math.Path.{refl, sym, ap}
use Rattle.std.proofs.Math.Bool.{true, false, cond}
use mathlib.Core.List.{List, [], ◌∷◌}
use Rattle.std.proofs.Math.Option.{none}
use Rattle.std.specs.Float.Ieee.{Float}
use Rattle.pauli.specs.Bits.{Bits, bit}
use Rattle.job.specs.Line.{Noise}
use Rattle.job.specs.Float.{float}
use Rattle.draws.specs.Draws.{falls, choose_from, is_satisfied, ShotDraw, fault_of, draw_shot_of, Lent}
use Rattle.rows.specs.Words.{bit_in}
use Rattle.noise.specs.declared.PauliDistribution.{PauliDistribution}
use Rattle.choice.specs.declared.Chosen.{Chosen}
use Rattle.shots.specs.declared.ShotDraw.{ShotDraw as Draw}
use Rattle.shots.specs.declared.ShotDraw.TheVariants as draw
use Rattle.shots.specs.declared.NextFault.TheVariants as next
use Rattle.noise.specs.Kinds.{Represents}
use Rattle.choice.specs.Choice.{choice_of, next_of as nextOfChoice, ElementChosen}
use Rattle.noise.specs.Condition.{Masks}
use Rattle.noise.specs.Words.{skip_of}
use Rattle.noise.specs.Laws.Words.{skip_falls}
use Rattle.shots.specs.Shots.{draw_of, next_of, FallsAt, ShotDrawn, or_later, first_fault, fault_of as foundOf, word_after, InShots, FaultFound}

-- ---- one shot

module _ (words : List ℕ) (at : ℕ) (d : PauliDistribution) (sums : List Float) (satisfied : Bool) where
  pub shot_spent : length words ≤ at → ShotDrawn words at d sums satisfied draw.Spent
  unfolding draw_of next_of draw_shot_of
  shot_spent h = record { within = omega arith; is = λ f n bits r m. rw (drop_of_length-le words h) }

  module _ (h : at < length words) where
    -- its condition is not satisfied
    pub shot_unsatisfied : satisfied ≡ false → ShotDrawn words at d sums satisfied (draw.Quiet (at + 1))
    unfolding draw_of next_of draw_shot_of
    shot_unsatisfied e =
        record {
          within = omega arith;
          is = λ f n bits r m. rw (drop-cons words at 0, add-one, m, e) (either _ (falls (get_or words at 0) _));
        }
      where
        either : (o : ShotDraw) (b : Bool) → ShotDraw.drew none (drop (suc at) words) ≡ cond (b && false) o (ShotDraw.drew none (drop (suc at) words))
        either o true = refl
        either o false = refl

    module _ (s : satisfied ≡ true) {a : Option Chosen} (q : ElementChosen words (at + 1) d sums a) where
      -- the element that is chosen
      element : {p : Float} → FallsAt p words at → (n : Noise) (bits : Bits) → Represents n p d sums → is_satisfied n.condition bits ≡ satisfied
          → fault_of (choice_of words a) ≡ draw_shot_of n bits (drop at words)
      unfolding draw_shot_of
      element f n bits r m =
          rw (drop-cons words at 0, ← r.probability, f h, m, s)
          (ap fault_of (q.is n.distribution r.chooses ∙ ap (λ (k : ℕ). choose_from n.distribution (drop k words)) (add-one at)))

      pub shot_fault : (x next : ℕ) → a ≡ Some record { element = x; position = next } → ShotDrawn words at d sums satisfied (draw.Fault x next)
      unfolding draw_of next_of choice_of nextOfChoice fault_of
      shot_fault x next k =
          record {
            within = rw k at q.within;
            is = λ f n bits r m. (rw k at (element f n bits r m));
          }

      pub shot_spent_on : a ≡ None → ShotDrawn words at d sums satisfied draw.Spent
      unfolding draw_of next_of choice_of fault_of
      shot_spent_on k =
          record {
            within = omega arith;
            is = λ f n bits r m. (rw k at (element f n bits r m));
          }

pub quiet_within : {words : List ℕ} {at : ℕ} {d : PauliDistribution} {sums : List Float} {b : Bool} {a : Draw} {next : ℕ}
    → ShotDrawn words at d sums b a → a ≡ draw.Quiet next → next ≤ length words
unfolding next_of
quiet_within q e = rw e at q.within

-- ---- shots that are passed over

-- the word behind those that are passed over, if a shot is left and the words have not ended, brings a fault
pub falls_behind : (p : Float) (shots s : ℕ) (words : List ℕ) (i k : ℕ) → k ≡ skip_of p (shots - s) (drop i words) → s + k < shots → FallsAt p words (i + k)
falls_behind p shots s words i k e left inside =
    let here : falls (get_or (drop i words) (skip_of p (shots - s) (drop i words)) 0) p ≡ true = skip_falls p (shots - s) (drop i words) (omega (arith, e)) (omega (arith, e, length-drop i words)) in
    ap (λ (w : ℕ). falls w p) (sym (get_or-drop i words k 0)) ∙ ap (λ (j : ℕ). falls (get_or (drop i words) j 0) p) e ∙ here

module _ (lent : Lent) (n : Noise) where
  -- a shot's draw, and then those after it
  first_one : (left shot : ℕ) (ws : List ℕ) → first_fault lent n (suc left) shot ws
      ≡ or_later shot (draw_shot_of n (λ id. lent.noiseless id shot) ws) (first_fault lent n left (suc shot))
  unfolding first_fault
  first_one left shot ws = refl

  first_quiet : (left shot w : ℕ) (ws : List ℕ) → falls w (float n.probability) ≡ false
      → first_fault lent n left (suc shot) ws ≡ first_fault lent n (suc left) shot (w ∷ ws)
  unfolding first_fault draw_shot_of or_later
  first_quiet left shot w ws e = rw e

  none_passed : (left shot : ℕ) (ws : List ℕ) (k : ℕ) → k ≡ 0 → first_fault lent n (left - k) (shot + k) (drop k ws) ≡ first_fault lent n left shot ws
  none_passed left shot ws k e = rw (e, sub-zero, add-zero)

  -- the next fault is the next one from there on
  pub skip_first : (left shot : ℕ) (ws : List ℕ) (k : ℕ) → k ≡ skip_of (float n.probability) left ws
      → first_fault lent n (left - k) (shot + k) (drop k ws) ≡ first_fault lent n left shot ws
  unfolding skip_of
  skip_first zero shot ws k e = none_passed zero shot ws k e
  skip_first (suc left) shot [] k e = none_passed (suc left) shot [] k e
  skip_first (suc left) shot (w ∷ ws) k e = go (falls w p) refl e (skip_first left (suc shot) ws (skip_of p left ws) refl)
    where
      p : Float
      p = float n.probability

      more : ℕ
      more = skip_of p left ws

      go : (b : Bool) → falls w p ≡ b → k ≡ cond b 0 (suc more) → first_fault lent n (left - more) (suc shot + more) (drop more ws) ≡ first_fault lent n left (suc shot) ws
          → first_fault lent n (suc left - k) (shot + k) (drop k (w ∷ ws)) ≡ first_fault lent n (suc left) shot (w ∷ ws)
      go true f q ih = none_passed (suc left) shot (w ∷ ws) k q
      go false f q ih = rw (q, suc-sub-suc, add-suc, ← suc-add shot more) (ih ∙ first_quiet left shot w ws f)

-- ---- the next fault

-- what is left from shot s and place i on is what was left from the start
pub record Later (words mask : List ℕ) (shots : ℕ) (p : Float) (d : PauliDistribution) (sums : List Float) (shot at s i : ℕ) : Type 0 where
  pub same : (n : Noise) (lent : Lent) (w : ℕ) → Represents n p d sums → shots ≤ 64 * w → Masks w mask n.condition lent.noiseless
      → first_fault lent n (shots - s) s (drop i words) ≡ first_fault lent n (shots - shot) shot (drop at words)

module _ {words mask : List ℕ} {shots : ℕ} {p : Float} {d : PauliDistribution} {sums : List Float} {shot at : ℕ} where
  pub later_none : Later words mask shots p d sums shot at shot at
  later_none = record { same = λ n lent w r f m. refl }

  module _ {s i : ℕ} (l : Later words mask shots p d sums shot at s i) where
    pub later_skip : (k : ℕ) → k ≡ skip_of p (shots - s) (drop i words) → Later words mask shots p d sums shot at (s + k) (i + k)
    later_skip k e =
        record {
          same = λ n lent w r f m.
              let left : shots - (s + k) ≡ shots - s - k = omega arith in
              rw (left, ← drop-drop k i words) (skip_first lent n (shots - s) s (drop i words) k (rw (← r.probability) e) ∙ l.same n lent w r f m);
        }

    pub found_done : shots ≤ s → i ≤ length words → FaultFound words at mask shot shots p d sums (next.Done i)
    unfolding foundOf word_after InShots first_fault
    found_done h k =
        record {
          within = k;
          in_shots = tt;
          is = λ n lent w r f m. let none_left : shots - s ≡ 0 = omega arith in (rw none_left at (l.same n lent w r f m));
        }

    module _ (h : s < shots) {b : Bool} (set : b ≡ bit (get_or mask (s / 64) 0) (s % 64)) {a : Draw} (falling : FallsAt p words i) (q : ShotDrawn words i d sums b a) where
      -- the shot's draw, and then those after it
      drawn : (n : Noise) (lent : Lent) (w : ℕ) → Represents n p d sums → shots ≤ 64 * w → Masks w mask n.condition lent.noiseless
          → or_later s (draw_of words a) (first_fault lent n (shots - (s + 1)) (s + 1)) ≡ first_fault lent n (shots - shot) shot (drop at words)
      unfolding bit_in
      drawn n lent w r f m =
          let one : shots - s ≡ suc (shots - (s + 1)) = omega arith in
          let row : s / 64 < w = omega arith in
          let bits : is_satisfied n.condition (λ id. lent.noiseless id s) ≡ b =
          sym (m.shots s row) ∙ ap (λ (k : ℕ). bit (get_or mask (k + s / 64) 0) (s % 64)) (zero-mul w) ∙ ap (λ (k : ℕ). bit (get_or mask k 0) (s % 64)) (zero-add (s / 64)) ∙ sym set in
          rw (q.is falling n (λ id. lent.noiseless id s) r bits)
          (rw (← add-one s) at (sym (first_one lent n (shots - (s + 1)) s (drop i words))) ∙ (rw one at (l.same n lent w r f m)))

      pub later_quiet : (next : ℕ) → a ≡ draw.Quiet next → Later words mask shots p d sums shot at (s + 1) next
      unfolding draw_of or_later
      later_quiet next e = record { same = λ n lent w r f m. (rw e at (drawn n lent w r f m)) }

      pub found_spent : a ≡ draw.Spent → FaultFound words at mask shot shots p d sums next.Spent
      unfolding draw_of or_later foundOf word_after InShots
      found_spent e = record { within = omega arith; in_shots = tt; is = λ n lent w r f m. (rw e at (drawn n lent w r f m)) }

      pub found_at : (x k : ℕ) → a ≡ draw.Fault x k → shot ≤ s → FaultFound words at mask shot shots p d sums (next.At record { 0 = s } x k)
      unfolding draw_of next_of or_later foundOf word_after InShots
      found_at x k e le =
          record {
            within = rw e at q.within;
            in_shots = (le, h);
            is = λ n lent w r f m. (rw e at (drawn n lent w r f m));
          }
