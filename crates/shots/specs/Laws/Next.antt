-- From one fault of a noise line to the next: what `next_fault` says of all its draws, kept as a list or injected in place. Laws. Assumes nothing.
use Prim.Native.Nat.{ℕ, zero, suc, ◌+◌, ◌-◌, ◌*◌, ◌<◌, ◌≤◌}
use Rattle.std.proofs.Math.Numerals.{add-one}
use native.Mathlib.Omega.{arith}
use Rattle.std.specs.Prelude.{◌≡◌, List, [], length, drop, Float}
use Rattle.std.proofs.Math.Path.{refl, ap, fun_ext}
use Rattle.std.proofs.Common.{sym, subst, ◌∙◌}
use Rattle.std.proofs.Math.Option.{none, some}
use Rattle.pauli.specs.declared.Shot.{Shot}
use Rattle.job.specs.declared.Header.{Header}
use Rattle.job.specs.Line.{Line, size_of, Noise}
use Rattle.draws.specs.Draws.{element_at, ShotDraw, draw_shot_of, Lent, Draws, also_fault, then_shots, draw_shots}
use Rattle.draws.specs.Execute.{States, forward_all, Executed, then_in_place, inject_shots}
use Rattle.draws.proofs.Laws.Faults.{ShotIn, ShotBelow, shot_below}
use Rattle.noise.specs.declared.PauliDistribution.{PauliDistribution}
use Rattle.shots.specs.declared.DrawRule.{DrawRule}
use Rattle.shots.specs.declared.NextFault.{NextFault}
use Rattle.shots.specs.declared.NextFault.TheVariants as next
use Rattle.noise.specs.Kinds.{Represents}
use Rattle.noise.specs.Condition.{Masks}
use Rattle.shots.specs.Shots.{RuleOf, FirstFault, or_later, first_fault, fault_of, word_after, InShots, FaultFound}

-- the p and the kind of the code's rule are those of the line
pub found_by : {words : List ℕ} {at : ℕ} {mask : List ℕ} {shot shots : ℕ} {p : Float} {d : PauliDistribution} {rule : DrawRule} {sums : List Float} {r : NextFault}
    → RuleOf p d rule → FaultFound words at mask shot shots rule.p rule.chooser.distribution sums r → FaultFound words at mask shot shots p d sums r
found_by {words} {at} {mask} {shot} {shots} {p} {rule = rule} {sums} {r} q found =
    subst (λ (x : PauliDistribution). FaultFound words at mask shot shots p x sums r) q.kind
    (subst (λ (x : Float). FaultFound words at mask shot shots x rule.chooser.distribution sums r) q.probability found)

-- ---- whatever is done with the faults, shot by shot

module _ {O : Type 0} (spent : O) (done : List ℕ → O) (fault : ℕ → ℕ → O → O) where
  -- a shot's draw, and then those of the shots after it
  unfoldable by_shot_of : ℕ → ShotDraw → (List ℕ → O) → O
  by_shot_of shot ShotDraw.spent later = spent
  by_shot_of shot (ShotDraw.drew none ws) later = later ws
  by_shot_of shot (ShotDraw.drew (some e) ws) later = fault shot e (later ws)

  -- the next fault, and then the shots after it, up to the end
  unfoldable by_fault : ℕ → FirstFault → (ℕ → ℕ → List ℕ → O) → O
  by_fault end FirstFault.spent f = spent
  by_fault end (FirstFault.quiet ws) f = done ws
  by_fault end (FirstFault.fault s e ws) f = fault s e (f (end - suc s) (suc s) ws)

  by_shot : (end left shot : ℕ) → shot + suc left ≡ end → (f : ℕ → ℕ → List ℕ → O) (first : List ℕ → FirstFault)
      → ((ws : List ℕ) → f left (suc shot) ws ≡ by_fault end (first ws) f)
      → (o : ShotDraw) → by_shot_of shot o (f left (suc shot)) ≡ by_fault end (or_later shot o first) f
  unfolding by_shot_of by_fault or_later
  by_shot end left shot h f first later ShotDraw.spent = refl
  by_shot end left shot h f first later (ShotDraw.drew none ws) = later ws
  by_shot end left shot h f first later (ShotDraw.drew (some e) ws) =
      let left_is : left ≡ end - suc shot = omega arith in
      ap (λ (k : ℕ). fault shot e (f k (suc shot) ws)) left_is

  module _ (lent : Lent) (n : Noise) (f : ℕ → ℕ → List ℕ → O) (none_left : (shot : ℕ) (ws : List ℕ) → f 0 shot ws ≡ done ws)
      (one_more : (left shot : ℕ) (ws : List ℕ) → f (suc left) shot ws ≡ by_shot_of shot (draw_shot_of n (λ id. lent.noiseless id shot) ws) (f left (suc shot)))
    where
      by_fault_lem : (end left shot : ℕ) (ws : List ℕ) → shot + left ≡ end → f left shot ws ≡ by_fault end (first_fault lent n left shot ws) f
      unfolding first_fault by_fault
      by_fault_lem end zero shot ws h = none_left shot ws
      by_fault_lem end (suc left) shot ws h =
          one_more left shot ws
          ∙ by_shot end left shot h f (first_fault lent n left (suc shot)) (λ vs. by_fault_lem end left (suc shot) vs (omega arith))
          (draw_shot_of n (λ id. lent.noiseless id shot) ws)

      module _ (words : List ℕ) (shot shots at : ℕ) (h : shot ≤ shots) (r : NextFault)
          (q : fault_of words r ≡ first_fault lent n (shots - shot) shot (drop at words))
        where
          whole : f (shots - shot) shot (drop at words) ≡ by_fault shots (fault_of words r) f
          whole =
              let all : shot + (shots - shot) ≡ shots = omega arith in
              by_fault_lem shots (shots - shot) shot (drop at words) all ∙ ap (λ (x : FirstFault). by_fault shots x f) (sym q)

          by_spent : r ≡ next.Spent → f (shots - shot) shot (drop at words) ≡ spent
          unfolding by_fault fault_of
          by_spent e = rw e at whole

          by_done : (i : ℕ) → r ≡ next.Done i → f (shots - shot) shot (drop at words) ≡ done (drop i words)
          unfolding by_fault fault_of
          by_done i e = rw e at whole

          by_at : (s : Shot) (x i : ℕ) → r ≡ next.At s x i → f (shots - shot) shot (drop at words) ≡ fault s.0 x (f (shots - (s.0 + 1)) (s.0 + 1) (drop i words))
          unfolding by_fault fault_of
          by_at s x i e = rw add-one (rw e at whole)

-- ---- a list of faults

draws_one : (lent : Lent) (n : Noise) (left shot : ℕ) (ws : List ℕ) → draw_shots lent n (suc left) shot ws
    ≡ by_shot_of Draws.spent (Draws.drawn []) (λ s e. also_fault record { shot = s; element = e }) shot (draw_shot_of n (λ id. lent.noiseless id shot) ws)
    (draw_shots lent n left (suc shot))
unfolding draw_shots
draws_one lent n left shot ws = go (draw_shot_of n (λ id. lent.noiseless id shot) ws)
  where
    go : (o : ShotDraw) → then_shots shot o (draw_shots lent n left (suc shot))
        ≡ by_shot_of Draws.spent (Draws.drawn []) (λ s e. also_fault record { shot = s; element = e }) shot o (draw_shots lent n left (suc shot))
    go ShotDraw.spent = unfold then_shots by_shot_of in refl
    go (ShotDraw.drew none vs) = unfold then_shots by_shot_of in refl
    go (ShotDraw.drew (some e) vs) = unfold then_shots by_shot_of in refl

-- ---- faults injected in place

-- as a function of the states before
abbrev shots_from : Header → Lent → Noise → ℕ → ℕ → List ℕ → States → Executed
shots_from h lent n left shot ws states = inject_shots h lent n left shot ws states

abbrev injecting : Header → Noise → ℕ → ℕ → (States → Executed) → States → Executed
injecting h n s e later states = later (forward_all h (Line.inject s (element_at n.distribution e)) states)

inject_one : (h : Header) (lent : Lent) (n : Noise) (left shot : ℕ) (ws : List ℕ) → shots_from h lent n (suc left) shot ws
    ≡ by_shot_of (λ states. Executed.spent) (λ ws states. Executed.done states ws) (injecting h n) shot (draw_shot_of n (λ id. lent.noiseless id shot) ws)
    (shots_from h lent n left (suc shot))
unfolding inject_shots
inject_one h lent n left shot ws = fun_ext (go (draw_shot_of n (λ id. lent.noiseless id shot) ws))
  where
    go : (o : ShotDraw) (states : States) → then_in_place h n shot o states (inject_shots h lent n left (suc shot))
        ≡ by_shot_of (λ states. Executed.spent) (λ ws states. Executed.done states ws) (injecting h n) shot o (shots_from h lent n left (suc shot)) states
    go ShotDraw.spent states = unfold then_in_place by_shot_of in refl
    go (ShotDraw.drew none vs) states = unfold then_in_place by_shot_of in refl
    go (ShotDraw.drew (some e) vs) states = unfold then_in_place by_shot_of in refl

-- ---- an element is one of the distribution's

unfoldable FirstBelow : ℕ → FirstFault → Type 0
FirstBelow size FirstFault.spent = Unit
FirstBelow size (FirstFault.quiet ws) = Unit
FirstBelow size (FirstFault.fault s e ws) = e < size

first_below : (lent : Lent) (n : Noise) → 0 < size_of n.distribution → (left shot : ℕ) (ws : List ℕ)
    → FirstBelow (size_of n.distribution) (first_fault lent n left shot ws)
unfolding first_fault FirstBelow
first_below lent n h zero shot ws = tt
first_below lent n h (suc left) shot ws =
    go (draw_shot_of n (λ id. lent.noiseless id shot) ws) (shot_below n (λ id. lent.noiseless id shot) ws h) (first_below lent n h left (suc shot))
  where
    go : (o : ShotDraw) → ShotBelow (size_of n.distribution) o
        → ((vs : List ℕ) → FirstBelow (size_of n.distribution) (first_fault lent n left (suc shot) vs))
        → FirstBelow (size_of n.distribution) (or_later shot o (first_fault lent n left (suc shot)))
    go ShotDraw.spent b ih = unfold or_later in tt
    go (ShotDraw.drew none vs) b ih = unfold or_later in ih vs
    go (ShotDraw.drew (some e) vs) b ih = unfold or_later ShotIn FirstBelow in b

-- ---- what callers use

-- places and shots, whatever the words bring
module _ {words mask : List ℕ} {at shot shots : ℕ} {p : Float} {d : PauliDistribution} {sums : List Float} {r : NextFault}
    (q : FaultFound words at mask shot shots p d sums r)
  where
    pub done_within : (i : ℕ) → r ≡ next.Done i → i ≤ length words
    unfolding word_after
    done_within i e = rw e at q.within

    pub at_within : (s : Shot) (e i : ℕ) → r ≡ next.At s e i → i ≤ length words
    unfolding word_after
    at_within s e i k = rw k at q.within

    pub at_shot : (s : Shot) (e i : ℕ) → r ≡ next.At s e i → (shot ≤ s.0) × (s.0 < shots)
    unfolding InShots
    at_shot s e i k = rw k at q.in_shots

-- the draws
module _ {words mask : List ℕ} {at shot shots : ℕ} {p : Float} {d : PauliDistribution} {sums : List Float} {r : NextFault}
    (q : FaultFound words at mask shot shots p d sums r) (le : shot ≤ shots) {n : Noise} (stands : Represents n p d sums)
    (lent : Lent) {w : ℕ} (fits : shots ≤ 64 * w) (masks : Masks w mask n.condition lent.noiseless)
  where
    found : fault_of words r ≡ first_fault lent n (shots - shot) shot (drop at words)
    found = q.is n lent w stands fits masks

    -- the draws from here on, as a list of faults
    pub draws_spent : r ≡ next.Spent → draw_shots lent n (shots - shot) shot (drop at words) ≡ Draws.spent
    unfolding draw_shots
    draws_spent = by_spent _ _ _ lent n (draw_shots lent n) (λ s ws. refl) (draws_one lent n) words shot shots at le r found

    pub draws_done : (i : ℕ) → r ≡ next.Done i → draw_shots lent n (shots - shot) shot (drop at words) ≡ Draws.drawn [] (drop i words)
    unfolding draw_shots
    draws_done = by_done _ _ _ lent n (draw_shots lent n) (λ s ws. refl) (draws_one lent n) words shot shots at le r found

    pub draws_at : (s : Shot) (e i : ℕ) → r ≡ next.At s e i → draw_shots lent n (shots - shot) shot (drop at words)
        ≡ also_fault record { shot = s.0; element = e } (draw_shots lent n (shots - (s.0 + 1)) (s.0 + 1) (drop i words))
    unfolding draw_shots
    draws_at = by_at _ _ _ lent n (draw_shots lent n) (λ s ws. refl) (draws_one lent n) words shot shots at le r found

    -- and injected in place
    module _ (h : Header) (states : States) where
      pub injects_spent : r ≡ next.Spent → inject_shots h lent n (shots - shot) shot (drop at words) states ≡ Executed.spent
      unfolding inject_shots
      injects_spent e =
          ap (λ (f : States → Executed). f states)
          (by_spent _ _ _ lent n (shots_from h lent n) (λ s ws. refl) (inject_one h lent n) words shot shots at le r found e)

      pub injects_done : (i : ℕ) → r ≡ next.Done i → inject_shots h lent n (shots - shot) shot (drop at words) states ≡ Executed.done states (drop i words)
      unfolding inject_shots
      injects_done i e =
          ap (λ (f : States → Executed). f states)
          (by_done _ _ _ lent n (shots_from h lent n) (λ s ws. refl) (inject_one h lent n) words shot shots at le r found i e)

      pub injects_at : (s : Shot) (e i : ℕ) → r ≡ next.At s e i → inject_shots h lent n (shots - shot) shot (drop at words) states
          ≡ inject_shots h lent n (shots - (s.0 + 1)) (s.0 + 1) (drop i words) (forward_all h (Line.inject s.0 (element_at n.distribution e)) states)
      unfolding inject_shots
      injects_at s e i k =
          ap (λ (f : States → Executed). f states)
          (by_at _ _ _ lent n (shots_from h lent n) (λ s ws. refl) (inject_one h lent n) words shot shots at le r found s e i k)

    -- the element
    pub at_below : (s : Shot) (e i : ℕ) → r ≡ next.At s e i → 0 < size_of n.distribution → e < size_of n.distribution
    unfolding FirstBelow fault_of
    at_below s e i k some_size =
        let below : FirstBelow (size_of n.distribution) (fault_of words r) = rw found (first_below lent n some_size (shots - shot) shot (drop at words)) in
        rw k at below
