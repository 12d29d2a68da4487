-- Laws: the faults of a noise line. Their shots rise and are shots of the job, and their elements are elements of the distribution. Assumes nothing.
use Rattle.std.specs.Prelude.{◌≡◌, refl, Bool, cond, ◌&&◌, ltb, length, get_or, Float}
use Rattle.std.proofs.Common.{ap, ◌∙◌, mod-lt, div-add-mod', not-suc-le-zero, lit<, lt-ltb}
use Rattle.std.proofs.Math.Path.{subst}
use Rattle.std.proofs.Math.Bool.{true, false}
use mathlib.Core.List.{List, [], ◌∷◌, map}
use Rattle.std.proofs.Math.Option.{none, some}
use Prim.Native.Nat.{ℕ, zero, suc, ◌+◌, ◌-◌, ◌*◌, ◌/◌, ◌^◌, ◌%◌, ◌<◌, ◌≤◌}
use Rattle.std.proofs.Math.Nat.{mul-mod_left, pow-le-pow_right}
use native.Mathlib.Omega.{arith}
use Rattle.std.proofs.lemmas.List.{length-map}
use Rattle.std.proofs.Math.ListN.{get_or-map}
use Rattle.std.specs.Float.Ieee.{le}
use Rattle.text.specs.List.{rises_from, is_rising_of}
use Rattle.pauli.specs.Bits.{Bits}
use Rattle.job.specs.Line.{SparsePauli, WeightedPauli, Distribution, size_of, Noise}
use Rattle.job.specs.Float.{float, zero_float, is_weight_of}
use Rattle.job.specs.Sound.{Every, weights_of, ElementSound, WeightedSound}
use Rattle.job.specs.Checks.{all_below}
use Rattle.draws.specs.Draws.{unit_of, falls, no_pauli, element_at, Choice, limit_of, bounded, place_of, by_weight, choose_from, is_satisfied, ShotDraw, fault_of, draw_shot_of, Lent, Fault, Draws, also_fault, then_shots, draw_shots, draw_line}
use Rattle.draws.specs.Known.{PositiveAt, any_positive_of, shots_of, elements_of}
use Rattle.draws.proofs.Laws.Weights.{some_positive}
use Rattle.draws.proofs.Laws.Places.{place_below, place_positive}

-- ---- shots

-- rising from a number on, and below another
unfoldable RisesWithin : ℕ → ℕ → List ℕ → Type 0
RisesWithin low high [] = Unit
RisesWithin low high (s ∷ ss) = (low ≤ s) × (s < high) × RisesWithin (suc s) high ss

rises_lower : (low high : ℕ) (ss : List ℕ) → RisesWithin (suc low) high ss → RisesWithin low high ss
unfolding RisesWithin
rises_lower low high [] r = tt
rises_lower low high (s ∷ ss) r = (omega arith, r.1, r.2)

rises_from_lem : (s high : ℕ) (ss : List ℕ) → RisesWithin (suc s) high ss → rises_from s ss ≡ true
unfolding RisesWithin rises_from
rises_from_lem s high [] r = refl
rises_from_lem s high (t ∷ ss) r = rw (lt-ltb s t r.0, rises_from_lem t high ss r.2)

rises_rising : (low high : ℕ) (ss : List ℕ) → RisesWithin low high ss → is_rising_of ss ≡ true
unfolding RisesWithin is_rising_of
rises_rising low high [] r = refl
rises_rising low high (s ∷ ss) r = rises_from_lem s high ss r.2

rises_below : (low high : ℕ) (ss : List ℕ) → RisesWithin low high ss → all_below high ss ≡ true
unfolding RisesWithin all_below
rises_below low high [] r = refl
rises_below low high (s ∷ ss) r = rw (lt-ltb s high r.1, rises_below (suc s) high ss r.2)

unfoldable DrawsWithin : ℕ → ℕ → Draws → Type 0
DrawsWithin low high Draws.spent = Unit
DrawsWithin low high (Draws.drawn fs left) = RisesWithin low high (shots_of fs)

shots_within : (lent : Lent) (n : Noise) (count shot high : ℕ) (ws : List ℕ) → shot + count ≤ high
    → DrawsWithin shot high (draw_shots lent n count shot ws)
unfolding draw_shots DrawsWithin RisesWithin
shots_within lent n zero shot high ws h = tt
shots_within lent n (suc count) shot high ws h =
    go (draw_shot_of n (λ id. lent.noiseless id shot) ws) (λ vs. shots_within lent n count (suc shot) high vs (omega arith))
  where
    later : List ℕ → Draws
    later = draw_shots lent n count (suc shot)

    quiet : (o : Draws) → DrawsWithin (suc shot) high o → DrawsWithin shot high o
    quiet Draws.spent r = tt
    quiet (Draws.drawn fs left) r = unfold DrawsWithin in rises_lower shot high (shots_of fs) r

    fault : (e : ℕ) (o : Draws) → DrawsWithin (suc shot) high o → DrawsWithin shot high (also_fault record { shot = shot; element = e } o)
    fault e Draws.spent r = unfold also_fault in tt
    fault e (Draws.drawn fs left) r = unfold also_fault DrawsWithin RisesWithin in (omega arith, omega arith, r)

    go : (o : ShotDraw) → ((vs : List ℕ) → DrawsWithin (suc shot) high (later vs)) → DrawsWithin shot high (then_shots shot o later)
    go ShotDraw.spent ih = unfold then_shots in tt
    go (ShotDraw.drew none vs) ih = unfold then_shots in quiet (later vs) (ih vs)
    go (ShotDraw.drew (some e) vs) ih = unfold then_shots in fault e (later vs) (ih vs)

line_within : (lent : Lent) (n : Noise) (ws : List ℕ) → DrawsWithin 0 lent.shots (draw_line lent n ws)
unfolding draw_line DrawsWithin RisesWithin
line_within lent n ws = go (le (float n.probability) zero_float) (shots_within lent n lent.shots 0 lent.shots ws (omega arith))
  where
    go : (b : Bool) → DrawsWithin 0 lent.shots (draw_shots lent n lent.shots 0 ws)
        → DrawsWithin 0 lent.shots (cond b (Draws.drawn [] ws) (draw_shots lent n lent.shots 0 ws))
    go true r = tt
    go false r = r

module _ (lent : Lent) (n : Noise) (ws : List ℕ) (fs : List Fault) (left : List ℕ) (e : draw_line lent n ws ≡ Draws.drawn fs left) where
  within : RisesWithin 0 lent.shots (shots_of fs)
  unfolding DrawsWithin
  within = subst (DrawsWithin 0 lent.shots) e (line_within lent n ws)

  -- strictly rising
  pub shots_rising : is_rising_of (shots_of fs) ≡ true
  shots_rising = rises_rising 0 lent.shots (shots_of fs) within

  -- shots of the job
  pub shots_below : all_below lent.shots (shots_of fs) ≡ true
  shots_below = rises_below 0 lent.shots (shots_of fs) within

-- ---- elements

-- the element that is chosen, if one is, has a property
unfoldable pub ChoiceIn : (ℕ → Type 0) → Choice → Type 0
ChoiceIn Q Choice.spent = Unit
ChoiceIn Q (Choice.chosen e left) = Q e

abbrev pub ChoiceBelow : ℕ → Choice → Type 0
ChoiceBelow size = ChoiceIn (λ e. e < size)

bounded_below : (c : ℕ) (ws : List ℕ) → 0 < c → ChoiceBelow c (bounded c ws)
unfolding bounded ChoiceIn
bounded_below c [] h = tt
bounded_below c (w ∷ ws) h = go (ltb w (limit_of c)) (bounded_below c ws h)
  where
    go : (b : Bool) → ChoiceBelow c (bounded c ws) → ChoiceBelow c (cond b (Choice.chosen (w % c) ws) (bounded c ws))
    go true t = mod-lt w h
    go false t = t

-- The limit is a multiple of c: as many words below it give one element as another.
pub limit_whole : (c : ℕ) → 0 < c → limit_of c % c ≡ 0
limit_whole c h =
    let whole : limit_of c ≡ (2 ^ 64 - 1) / c * c = omega (arith, div-add-mod' (2 ^ 64 - 1) c) in
    ap (λ (k : ℕ). k % c) whole ∙ mul-mod_left ((2 ^ 64 - 1) / c) c

weight_below : (ws : List Float) (vs : List ℕ) → 0 < length ws → ChoiceBelow (length ws) (by_weight (place_of ws) vs)
unfolding by_weight ChoiceIn
weight_below ws [] h = tt
weight_below ws (v ∷ vs) h = place_below ws (unit_of v) h

pub choice_below : (d : Distribution) (ws : List ℕ) → 0 < size_of d → ChoiceBelow (size_of d) (choose_from d ws)
unfolding size_of choose_from ChoiceIn
choice_below (Distribution.single P) ws h = lit< tt
choice_below (Distribution.depolarizing qs) ws h = bounded_below (4 ^ length qs - 1) ws h
choice_below (Distribution.uniform Ps) ws h = bounded_below (length Ps) ws h
choice_below (Distribution.weighted es) ws h =
    let floats = map (λ (w : WeightedPauli). float w.weight) es in
    let same : length floats ≡ length es = length-map es (λ (w : WeightedPauli). float w.weight) in
    subst (λ (k : ℕ). ChoiceBelow k (by_weight (place_of floats) ws)) same (weight_below floats ws (omega arith))

unfoldable pub ShotIn : (ℕ → Type 0) → ShotDraw → Type 0
ShotIn Q ShotDraw.spent = Unit
ShotIn Q (ShotDraw.drew none left) = Unit
ShotIn Q (ShotDraw.drew (some e) left) = Q e

unfoldable DrawsIn : (ℕ → Type 0) → Draws → Type 0
DrawsIn Q Draws.spent = Unit
DrawsIn Q (Draws.drawn fs left) = Every Q (elements_of fs)

-- What holds of every choice from a distribution holds of the elements of a line's faults.
module _ (Q : ℕ → Type 0) (n : Noise) (c : (ws : List ℕ) → ChoiceIn Q (choose_from n.distribution ws)) where
  shot_in : (bits : Bits) (ws : List ℕ) → ShotIn Q (draw_shot_of n bits ws)
  unfolding draw_shot_of ShotIn
  shot_in bits [] = tt
  shot_in bits (w ∷ ws) = go (falls w (float n.probability) && is_satisfied n.condition bits) (choose_from n.distribution ws) (c ws)
    where
      go : (b : Bool) (o : Choice) → ChoiceIn Q o → ShotIn Q (cond b (fault_of o) (ShotDraw.drew none ws))
      go false o t = tt
      go true Choice.spent t = unfold fault_of in tt
      go true (Choice.chosen e left) t = unfold fault_of ChoiceIn in t

  shots_in : (lent : Lent) (count shot : ℕ) (ws : List ℕ) → DrawsIn Q (draw_shots lent n count shot ws)
  unfolding draw_shots DrawsIn
  shots_in lent zero shot ws = tt
  shots_in lent (suc count) shot ws =
      go (draw_shot_of n (λ id. lent.noiseless id shot) ws) (shot_in (λ id. lent.noiseless id shot) ws) (shots_in lent count (suc shot))
    where
      later : List ℕ → Draws
      later = draw_shots lent n count (suc shot)

      fault : (e : ℕ) → Q e → (o : Draws) → DrawsIn Q o → DrawsIn Q (also_fault record { shot = shot; element = e } o)
      fault e b Draws.spent r = unfold also_fault in tt
      fault e b (Draws.drawn fs left) r = unfold also_fault DrawsIn in (b, r)

      go : (o : ShotDraw) → ShotIn Q o → ((vs : List ℕ) → DrawsIn Q (later vs)) → DrawsIn Q (then_shots shot o later)
      go ShotDraw.spent b ih = unfold then_shots in tt
      go (ShotDraw.drew none vs) b ih = unfold then_shots in ih vs
      go (ShotDraw.drew (some e) vs) b ih = unfold then_shots ShotIn in fault e b (later vs) (ih vs)

  line_in : (lent : Lent) (ws : List ℕ) → DrawsIn Q (draw_line lent n ws)
  unfolding draw_line DrawsIn
  line_in lent ws = go (le (float n.probability) zero_float) (shots_in lent lent.shots 0 ws)
    where
      go : (b : Bool) → DrawsIn Q (draw_shots lent n lent.shots 0 ws)
          → DrawsIn Q (cond b (Draws.drawn [] ws) (draw_shots lent n lent.shots 0 ws))
      go true r = tt
      go false r = r

  pub elements_in : (lent : Lent) (ws : List ℕ) (fs : List Fault) (left : List ℕ) → draw_line lent n ws ≡ Draws.drawn fs left → Every Q (elements_of fs)
  unfolding DrawsIn
  elements_in lent ws fs left e = subst (DrawsIn Q) e (line_in lent ws)

abbrev pub ShotBelow : ℕ → ShotDraw → Type 0
ShotBelow size = ShotIn (λ e. e < size)

pub shot_below : (n : Noise) (bits : Bits) (ws : List ℕ) → 0 < size_of n.distribution → ShotBelow (size_of n.distribution) (draw_shot_of n bits ws)
shot_below n bits ws h = shot_in (λ e. e < size_of n.distribution) n (λ vs. choice_below n.distribution vs h) bits ws

every_below : (size : ℕ) (l : List ℕ) → Every (λ (e : ℕ). e < size) l → all_below size l ≡ true
unfolding all_below
every_below size [] b = refl
every_below size (e ∷ l) b = rw (lt-ltb e size b.0, every_below size l b.1)

-- elements of the distribution, wherever it has any
pub elements_below : (lent : Lent) (n : Noise) (ws : List ℕ) (fs : List Fault) (left : List ℕ) → 0 < size_of n.distribution
    → draw_line lent n ws ≡ Draws.drawn fs left → all_below (size_of n.distribution) (elements_of fs) ≡ true
elements_below lent n ws fs left h e =
    every_below (size_of n.distribution) (elements_of fs)
    (elements_in (λ k. k < size_of n.distribution) n (λ vs. choice_below n.distribution vs h) lent ws fs left e)

-- ---- positive weights

weights_sound : (n : ℕ) (es : List WeightedPauli) → Every (ElementSound n) es → Every (λ (w : Float). is_weight_of w ≡ true) (weights_of es)
weights_sound n [] s = tt
weights_sound n (e ∷ es) s = (s.0.weight, weights_sound n es s.1)

-- a line that is sound has a positive weight
pub sound_positive : (n : ℕ) (es : List WeightedPauli) → WeightedSound n es → any_positive_of (weights_of es) ≡ true
sound_positive n es s = some_positive (weights_of es) (weights_sound n es s.each) s.total

-- and draws places with positive weight alone
pub choice_positive : (n : ℕ) (es : List WeightedPauli) → WeightedSound n es → (ws : List ℕ)
    → ChoiceIn (PositiveAt (weights_of es)) (choose_from (Distribution.weighted es) ws)
unfolding choose_from by_weight ChoiceIn
choice_positive n es s [] = tt
choice_positive n es s (w ∷ ws) = place_positive (weights_of es) (unit_of w) (sound_positive n es s)

-- all Paulis but the identity on at least one qubit are some
pub depolarizing_size : (qs : List ℕ) → 0 < length qs → 0 < size_of (Distribution.depolarizing qs)
unfolding size_of
depolarizing_size qs h = let four : 4 ≤ 4 ^ length qs = pow-le-pow_right {n = 4} (lit< tt) {i = 1} {j = length qs} h in omega arith

-- An element below the size is one of the list: what stands past its end is never taken.
pub get_d_any : {A : Type 0} (l : List A) (i : ℕ) (a b : A) → i < length l → get_or l i a ≡ get_or l i b
get_d_any [] i a b h = absurd (not-suc-le-zero h)
get_d_any (x ∷ l) zero a b h = refl
get_d_any (x ∷ l) (suc i) a b h = get_d_any l i a b (omega arith)

pub element_uniform : (Ps : List SparsePauli) (e : ℕ) (P : SparsePauli) → e < size_of (Distribution.uniform Ps)
    → element_at (Distribution.uniform Ps) e ≡ get_or Ps e P
unfolding size_of element_at
element_uniform Ps e P h = get_d_any Ps e no_pauli P h

pub element_weighted : (es : List WeightedPauli) (e : ℕ) (w : WeightedPauli) → e < size_of (Distribution.weighted es)
    → element_at (Distribution.weighted es) e ≡ (get_or es e w).pauli
unfolding size_of element_at
element_weighted es e w h =
    get_d_any (map (λ (v : WeightedPauli). v.pauli) es) e no_pauli w.pauli (rw (length-map es (λ (v : WeightedPauli). v.pauli)) h)
    ∙ get_or-map (λ (v : WeightedPauli). v.pauli) es e w
