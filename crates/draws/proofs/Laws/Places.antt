-- Laws: the place that weights choose. It is one of the list, and has a positive weight where there is one; and where all weights are positive it is
-- the Rust's. Assumes nothing.
use Rattle.std.proofs.Math.Path.{◌≡◌, refl, ap}
use Rattle.std.proofs.Common.{sym, ◌∙◌, true≢false, arith, length-set}
use Rattle.std.specs.Prelude.{Bool, not, cond, ◌&&◌, ◌||◌, Float}
use Rattle.std.proofs.Math.Bool.{true, false}
use mathlib.Core.List.{List, [], ◌∷◌}
use Rattle.std.proofs.Math.Option.{Option, none, some, map, get_or}
use Prim.Native.Nat.{ℕ, suc, ◌-◌, ◌<◌, min}
use Rattle.std.proofs.Math.ListN.{length}
use Rattle.std.specs.Float.Ieee.{lt}
use Rattle.job.specs.Float.{zero_float, one, total_from}
use Rattle.job.specs.Sound.{Every}
use Rattle.draws.specs.Draws.{running_from, running_sums_of, is_positive, first_fitting, or_else, last_positive, place_of}
use Rattle.draws.specs.Known.{below_unit, rust_place, any_positive_of, PositiveAt}
use Rattle.draws.proofs.Laws.Weights.{or_false_left, or_false_right}

-- ---- as many running sums as weights

running_length : (total : Float) (ws : List Float) (s : Float) → length (running_from total s ws) ≡ length ws
unfolding running_from
running_length total [] s = refl
running_length total (w ∷ ws) s = ap suc (running_length total ws _)

pub sums_length : (ws : List Float) → length (running_sums_of ws) ≡ length ws
sums_length ws =
    let running = running_from (total_from zero_float ws) zero_float ws in
    length-set running (length ws - 1) one ∙ running_length (total_from zero_float ws) ws zero_float

-- ---- the place that is found

unfoldable Found : List Float → Option ℕ → Type 0
Found ws none = Unit
Found ws (some i) = PositiveAt ws i

found_next : (w : Float) (ws : List Float) (o : Option ℕ) → Found ws o → Found (w ∷ ws) (map suc o)
unfolding Found
found_next w ws none f = tt
found_next w ws (some i) f = record { below = omega (arith, f.below); positive = f.positive }

found_else : (ws : List Float) (a b : Option ℕ) → Found ws a → Found ws b → Found ws (or_else a b)
unfolding Found or_else
found_else ws none b f g = g
found_else ws (some i) b f g = f

found_here : (w : Float) (ws : List Float) → is_positive w ≡ true → Found (w ∷ ws) (some 0)
unfolding Found
found_here w ws e = record { below = omega arith; positive = e }

first_found : (u : Float) (ws sums : List Float) → Found ws (first_fitting u ws sums)
unfolding first_fitting
first_found u [] sums = unfold Found in tt
first_found u (w ∷ ws) [] = unfold Found in tt
first_found u (w ∷ ws) (s ∷ sums) = go (is_positive w) refl (lt s u) (found_next w ws (first_fitting u ws sums) (first_found u ws sums))
  where
    later : Option ℕ
    later = map suc (first_fitting u ws sums)

    go : (b : Bool) → is_positive w ≡ b → (c : Bool) → Found (w ∷ ws) later → Found (w ∷ ws) (cond (b && not c) (some 0) later)
    go true e true f = f
    go true e false f = found_here w ws e
    go false e c f = f

last_found : (ws : List Float) → Found ws (last_positive ws)
unfolding last_positive
last_found [] = unfold Found in tt
last_found (w ∷ ws) =
    found_else (w ∷ ws) (map suc (last_positive ws)) (cond (is_positive w) (some 0) none) (found_next w ws (last_positive ws) (last_found ws))
    (go (is_positive w) refl)
  where
    go : (b : Bool) → is_positive w ≡ b → Found (w ∷ ws) (cond b (some 0) none)
    go true e = found_here w ws e
    go false e = unfold Found in tt

-- ---- whether there is one

unfoldable IsPlace : Option ℕ → Type 0
IsPlace none = ⊥
IsPlace (some i) = Unit

else_place : (a b : Option ℕ) → IsPlace b → IsPlace (or_else a b)
unfolding IsPlace or_else
else_place none b p = p
else_place (some i) b p = tt

last_place : (ws : List Float) → any_positive_of ws ≡ true → IsPlace (last_positive ws)
unfolding last_positive any_positive_of
last_place [] e = absurd (true≢false (sym e))
last_place (w ∷ ws) e = go (any_positive_of ws) (last_place ws) (is_positive w) e
  where
    tail : (o : Option ℕ) (b : Option ℕ) → IsPlace o → IsPlace (or_else (map suc o) b)
    tail none b p = unfold IsPlace in absurd p
    tail (some i) b p = unfold or_else IsPlace in tt

    go : (b : Bool) → (b ≡ true → IsPlace (last_positive ws)) → (c : Bool) → b || c ≡ true
        → IsPlace (or_else (map suc (last_positive ws)) (cond c (some 0) none))
    go true ih c h = tail (last_positive ws) _ (ih refl)
    go false ih true h = else_place _ (some 0) (unfold IsPlace in tt)
    go false ih false h = absurd (true≢false (sym h))

module _ (ws : List Float) (u : Float) where
  found : Found ws (or_else (first_fitting u ws (running_sums_of ws)) (last_positive ws))
  found = found_else ws _ _ (first_found u ws (running_sums_of ws)) (last_found ws)

  pub place_below : 0 < length ws → place_of ws u < length ws
  unfolding place_of
  place_below h = go _ found
    where
      go : (o : Option ℕ) → Found ws o → get_or o 0 < length ws
      go none f = h
      go (some i) f = unfold Found in f.below

  pub place_positive : any_positive_of ws ≡ true → PositiveAt ws (place_of ws u)
  unfolding place_of
  place_positive e = go _ found (else_place _ _ (last_place ws e))
    where
      go : (o : Option ℕ) → Found ws o → IsPlace o → PositiveAt ws (get_or o 0)
      go none f p = unfold IsPlace in absurd p
      go (some i) f p = unfold Found in f

-- ---- the place from the first weight on

-- the place that is chosen, with the running sums given
abbrev pub chosen_in : Float → List Float → List Float → Option ℕ
chosen_in u ws sums = or_else (first_fitting u ws sums) (last_positive ws)

-- none without a positive weight
last_none : (ws : List Float) → any_positive_of ws ≡ false → last_positive ws ≡ none
unfolding last_positive any_positive_of or_else
last_none [] e = refl
last_none (w ∷ ws) e =
    rw (last_none ws (or_false_left (any_positive_of ws) (is_positive w) e), or_false_right (any_positive_of ws) (is_positive w) e)

first_none : (u : Float) (ws sums : List Float) → any_positive_of ws ≡ false → first_fitting u ws sums ≡ none
unfolding first_fitting any_positive_of
first_none u [] sums e = refl
first_none u (w ∷ ws) [] e = refl
first_none u (w ∷ ws) (s ∷ sums) e =
    rw (first_none u ws sums (or_false_left (any_positive_of ws) (is_positive w) e), or_false_right (any_positive_of ws) (is_positive w) e)

module _ (u w s : Float) (ws sums : List Float) where
  -- a weight that isn't positive is passed over
  pub place_over : is_positive w ≡ false → (k : ℕ) → chosen_in u ws sums ≡ some k → chosen_in u (w ∷ ws) (s ∷ sums) ≡ some (suc k)
  unfolding first_fitting last_positive
  place_over e k h = rw e (go (first_fitting u ws sums) (last_positive ws) h)
    where
      go : (a b : Option ℕ) → or_else a b ≡ some k → or_else (map suc a) (or_else (map suc b) none) ≡ some (suc k)
      go none none h = unfold or_else in ap (map suc) h
      go none (some i) h = unfold or_else in ap (map suc) h
      go (some i) b h = unfold or_else in ap (map suc) h

  -- a positive one is taken if its sum isn't below u
  pub place_here : is_positive w ≡ true → (k : ℕ) → chosen_in u ws sums ≡ some k → chosen_in u (w ∷ ws) (s ∷ sums) ≡ some (cond (lt s u) (suc k) 0)
  unfolding first_fitting last_positive
  place_here e k h = rw e (go (lt s u) (first_fitting u ws sums) (last_positive ws) h)
    where
      go : (c : Bool) (a b : Option ℕ) → or_else a b ≡ some k
          → or_else (cond (not c) (some 0) (map suc a)) (or_else (map suc b) (some 0)) ≡ some (cond c (suc k) 0)
      go false a b h = unfold or_else in refl
      go true none none h = unfold or_else in let z : ◌≡◌ {A = ℕ} 0 1 = cc in absurd (omega arith)
      go true none (some i) h = unfold or_else in ap (map suc) h
      go true (some i) b h = unfold or_else in ap (map suc) h

  -- and so is the last
  pub place_last : is_positive w ≡ true → any_positive_of ws ≡ false → chosen_in u (w ∷ ws) (s ∷ sums) ≡ some 0
  unfolding first_fitting last_positive
  place_last e n = rw (e, first_none u ws sums n, last_none ws n) (go (lt s u))
    where
      go : (c : Bool) → or_else (cond (not c) (some 0) none) (or_else none (some 0)) ≡ some 0
      go false = unfold or_else in refl
      go true = unfold or_else in refl

-- ---- all weights positive

-- the Rust's place, from one place on
as_rust : (u w s : Float) (ws sums : List Float) → length sums ≡ length ws → Every (λ (v : Float). is_positive v ≡ true) (w ∷ ws)
    → chosen_in u (w ∷ ws) (s ∷ sums) ≡ some (rust_place u (s ∷ sums))
unfolding below_unit any_positive_of
as_rust u w s [] [] l v = place_last u w s [] [] v.0 refl ∙ ap some (go (lt s u))
  where
    go : (c : Bool) → 0 ≡ min (cond c 1 0) 0
    go true = refl
    go false = refl
as_rust u w s [] (t ∷ sums) l v = absurd (omega arith)
as_rust u w s (x ∷ ws) [] l v = absurd (omega arith)
as_rust u w s (x ∷ ws) (t ∷ sums) l v =
    place_here u w s (x ∷ ws) (t ∷ sums) v.0 _ (as_rust u x t ws sums (omega arith) v.1)
    ∙ ap some (go (lt s u) (below_unit u (t ∷ sums)))
  where
    go : (c : Bool) (b : ℕ) → cond c (suc (min b (length (t ∷ sums) - 1))) 0 ≡ min (cond c (suc b) 0) (length (s ∷ t ∷ sums) - 1)
    go true b = omega arith
    go false b = omega arith

pub place_as_rust : (ws : List Float) → Every (λ (w : Float). is_positive w ≡ true) ws → (u : Float) → place_of ws u ≡ rust_place u (running_sums_of ws)
unfolding place_of
place_as_rust ws v u = go ws (running_sums_of ws) (sums_length ws) v
  where
    go : (ws sums : List Float) → length sums ≡ length ws → Every (λ (w : Float). is_positive w ≡ true) ws
        → get_or (chosen_in u ws sums) 0 ≡ rust_place u sums
    go [] [] l v = unfold or_else first_fitting last_positive below_unit in refl
    go [] (s ∷ sums) l v = absurd (omega arith)
    go (w ∷ ws) [] l v = absurd (omega arith)
    go (w ∷ ws) (s ∷ sums) l v = ap (λ (o : Option ℕ). get_or o 0) (as_rust u w s ws sums (omega arith) v)
