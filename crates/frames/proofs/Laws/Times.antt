-- Gaps that hold every injection and flip of a shot equally often have the same sum in the shot, whatever their order. Assumes nothing.
use Rattle.std.specs.Prelude.{◌≡◌, Bool, true, false, cond, not, ◌&&◌, List, [], ◌∷◌, ◌++◌, ℕ, suc, ◌+◌, eqb}
use Rattle.std.proofs.Math.Path.{refl, fun_ext}
use Rattle.std.proofs.Common.{sym, ap, ap₂, subst, ◌∙◌, true≢false, zero-add, eqb-true, eq-eqb}
use Rattle.std.proofs.Math.Bool.{not-eq-not}
use native.Mathlib.Omega.{arith}
use Rattle.text.proofs.Laws.Values.{both}
use Rattle.pauli.proofs.Laws.Parity.{bitwise, added_is}
use Rattle.pauli.proofs.Laws.Group.{when_false}
use Rattle.job.specs.Line.{pauli_of}
use Rattle.frames.specs.Forward.{State, Setting, start}
use Rattle.frames.specs.Shots.{combined, ShotFault, shot_of, same_list, same_fault, times_in}
use Rattle.frames.proofs.Laws.Linear.{state_path}
use Rattle.frames.proofs.Laws.Gaps.{combined_assoc, start_combined, combined_swap, effect, gap_sum}

-- ---- equal as they are written

same_list_lem : (l k : List ℕ) → same_list l k ≡ true → l ≡ k
unfolding same_list
same_list_lem [] [] e = refl
same_list_lem [] (b ∷ k) e = absurd (true≢false (sym e))
same_list_lem (a ∷ l) [] e = absurd (true≢false (sym e))
same_list_lem (a ∷ l) (b ∷ k) e = let (p, q) = both (eqb a b) (same_list l k) e in ap₂ ◌∷◌ (eqb-true a b p) (same_list_lem l k q)

list_same : (l : List ℕ) → same_list l l ≡ true
unfolding same_list
list_same [] = refl
list_same (a ∷ l) = rw (eq-eqb a a refl) (list_same l)

fault_same : (f : ShotFault) → same_fault f f ≡ true
unfolding same_fault
fault_same (ShotFault.inject s P) = rw (eq-eqb s s refl, list_same P.x, list_same P.z)
fault_same (ShotFault.flip s i) = rw (eq-eqb s s refl, eq-eqb i i refl)

same_fault_lem : (f e : ShotFault) → same_fault f e ≡ true → f ≡ e
unfolding same_fault
same_fault_lem (ShotFault.inject s P) (ShotFault.inject t Q) h =
    let (a, z) = both (eqb s t && same_list P.x Q.x) (same_list P.z Q.z) h in
    let (shot, x) = both (eqb s t) (same_list P.x Q.x) a in
    ap₂ ShotFault.inject (eqb-true s t shot) (ap₂ (λ (k l : List ℕ). record { x = k; z = l }) (same_list_lem P.x Q.x x) (same_list_lem P.z Q.z z))
same_fault_lem (ShotFault.inject s P) (ShotFault.flip t j) h = absurd (true≢false (sym h))
same_fault_lem (ShotFault.flip s i) (ShotFault.inject t Q) h = absurd (true≢false (sym h))
same_fault_lem (ShotFault.flip s i) (ShotFault.flip t j) h =
    let (shot, id) = both (eqb s t) (eqb i j) h in ap₂ ShotFault.flip (eqb-true s t shot) (eqb-true i j id)

counts_itself : (f : ShotFault) → ◌≡◌ {A = ℕ} (cond (same_fault f f) 1 0) 1
counts_itself f = rw (fault_same f)

-- ---- one of them taken out

times_cons : (f e : ShotFault) (fs : List ShotFault) → times_in f (e ∷ fs) ≡ cond (same_fault f e) 1 0 + times_in f fs
unfolding times_in
times_cons f e fs = refl

sum_cons : (c : Setting) (f : ShotFault) (fs : List ShotFault) → gap_sum c (f ∷ fs) ≡ combined (effect c f) (gap_sum c fs)
unfolding gap_sum
sum_cons c f fs = refl

-- the list without the first that is the same
unfoldable without : ShotFault → List ShotFault → List ShotFault
without f [] = []
without f (e ∷ fs) = cond (same_fault f e) fs (e ∷ without f fs)

-- where it is there, it and the others make the list
record TakenOut (c : Setting) (f : ShotFault) (fs rest : List ShotFault) : Type 0 where
  sums : gap_sum c fs ≡ combined (effect c f) (gap_sum c rest)
  times : (e : ShotFault) → times_in e fs ≡ cond (same_fault e f) 1 0 + times_in e rest

out_first : (c : Setting) (f : ShotFault) (fs : List ShotFault) → TakenOut c f (f ∷ fs) fs
out_first c f fs = record { sums = sum_cons c f fs; times = λ e. times_cons e f fs }

out_later : (c : Setting) (f e : ShotFault) (fs rest : List ShotFault) → TakenOut c f fs rest → TakenOut c f (e ∷ fs) (e ∷ rest)
out_later c f e fs rest t =
    record {
      sums = sum_cons c e fs ∙ ap (combined (effect c e)) t.sums ∙ combined_swap (effect c e) (effect c f) _ ∙ ap (combined (effect c f)) (sym (sum_cons c e rest));
      times = λ d. omega (arith, times_cons d e fs, times_cons d e rest, t.times d);
    }

taken_out : (c : Setting) (f : ShotFault) (fs : List ShotFault) (n : ℕ) → times_in f fs ≡ suc n → TakenOut c f fs (without f fs)
unfolding without
taken_out c f [] n h = absurd (none_there h)
  where
    none_there : times_in f [] ≡ suc n → ⊥
    none_there h = unfold times_in in omega arith
taken_out c f (e ∷ fs) n h = go (same_fault f e) refl (taken_out c f fs n)
  where
    go : (b : Bool) → same_fault f e ≡ b → (times_in f fs ≡ suc n → TakenOut c f fs (without f fs)) → TakenOut c f (e ∷ fs) (cond b fs (e ∷ without f fs))
    go true s ih = subst (λ (d : ShotFault). TakenOut c f (d ∷ fs) fs) (same_fault_lem f e s) (out_first c f fs)
    go false s ih = out_later c f e fs (without f fs) (ih (sym (times_cons f e fs ∙ ap (λ b. cond b 1 0 + times_in f fs) s ∙ zero-add _) ∙ h))

-- ---- equally often

-- a gap in which nothing is at all
nothing_there : (fs : List ShotFault) → ((f : ShotFault) → times_in f fs ≡ 0) → fs ≡ []
nothing_there [] h = refl
nothing_there (f ∷ fs) h = absurd (omega (arith, h f, times_cons f f fs, counts_itself f))

pub equal_sums : (c : Setting) (fs es : List ShotFault) → ((f : ShotFault) → times_in f fs ≡ times_in f es) → gap_sum c fs ≡ gap_sum c es
equal_sums c [] es h = ap (gap_sum c) (sym (nothing_there es (λ f. sym (h f) ∙ unfold times_in in refl)))
equal_sums c (f ∷ fs) es h =
    let t = taken_out c f es (times_in f fs) (omega (arith, h f, times_cons f f fs, counts_itself f)) in
    sum_cons c f fs
    ∙ ap (combined (effect c f)) (equal_sums c fs (without f es) (λ e. omega (arith, h e, times_cons e f fs, t.times e)))
    ∙ sym t.sums

-- ---- two gaps in one

pub sum_append : (c : Setting) (fs es : List ShotFault) → gap_sum c (fs ++ es) ≡ combined (gap_sum c fs) (gap_sum c es)
unfolding gap_sum
sum_append c [] es = sym (start_combined (gap_sum c es))
sum_append c (f ∷ fs) es = ap (combined (effect c f)) (sum_append c fs es) ∙ sym (combined_assoc _ _ _)

pub times_append : (f : ShotFault) (fs es : List ShotFault) → times_in f (fs ++ es) ≡ times_in f fs + times_in f es
times_append f [] es = sym (zero-add _) ∙ unfold times_in in refl
times_append f (e ∷ fs) es = omega (arith, times_cons f e (fs ++ es), times_cons f e fs, times_append f fs es)

-- ---- those of one shot

unfoldable of_shot : ℕ → List ShotFault → List ShotFault
of_shot shot [] = []
of_shot shot (f ∷ fs) = cond (eqb (shot_of f) shot) (f ∷ of_shot shot fs) (of_shot shot fs)

-- the effect of another shot's
effect_elsewhere : (c : Setting) (f : ShotFault) → eqb (shot_of f) c.shot ≡ false → effect c f ≡ start
unfolding effect shot_of start
effect_elsewhere c (ShotFault.inject shot P) e = state_path (rw e (when_false (pauli_of P))) refl
effect_elsewhere c (ShotFault.flip shot id) e = state_path refl (rw e (simp added_is (fun_ext (λ i. simp bitwise))))

sum_of_shot : (c : Setting) (fs : List ShotFault) → gap_sum c (of_shot c.shot fs) ≡ gap_sum c fs
unfolding of_shot
sum_of_shot c [] = refl
sum_of_shot c (f ∷ fs) = go (eqb (shot_of f) c.shot) refl (sum_of_shot c fs)
  where
    go : (b : Bool) → eqb (shot_of f) c.shot ≡ b → gap_sum c (of_shot c.shot fs) ≡ gap_sum c fs
        → gap_sum c (cond b (f ∷ of_shot c.shot fs) (of_shot c.shot fs)) ≡ gap_sum c (f ∷ fs)
    go true e ih = sum_cons c f _ ∙ ap (combined (effect c f)) ih ∙ sym (sum_cons c f fs)
    go false e ih = ih ∙ sym (sum_cons c f fs ∙ ap (λ (s : State). combined s (gap_sum c fs)) (effect_elsewhere c f e) ∙ start_combined (gap_sum c fs))

-- of two shots, not the same
differ : (shot : ℕ) (f e : ShotFault) (b : Bool) → eqb (shot_of f) shot ≡ b → eqb (shot_of e) shot ≡ not b → ◌≡◌ {A = ℕ} (cond (same_fault f e) 1 0) 0
differ shot f e b p q = go (same_fault f e) refl
  where
    go : (d : Bool) → same_fault f e ≡ d → ◌≡◌ {A = ℕ} (cond d 1 0) 0
    go true s = absurd (not-eq-not.1 refl (sym p ∙ ap (λ (g : ShotFault). eqb (shot_of g) shot) (same_fault_lem f e s) ∙ q))
    go false s = refl

times_own : (shot : ℕ) (f : ShotFault) → eqb (shot_of f) shot ≡ true → (fs : List ShotFault) → times_in f (of_shot shot fs) ≡ times_in f fs
unfolding of_shot
times_own shot f h [] = refl
times_own shot f h (e ∷ fs) = go (eqb (shot_of e) shot) refl (times_own shot f h fs)
  where
    go : (b : Bool) → eqb (shot_of e) shot ≡ b → times_in f (of_shot shot fs) ≡ times_in f fs
        → times_in f (cond b (e ∷ of_shot shot fs) (of_shot shot fs)) ≡ times_in f (e ∷ fs)
    go true p ih = omega (arith, times_cons f e (of_shot shot fs), times_cons f e fs, ih)
    go false p ih = omega (arith, times_cons f e fs, differ shot f e true h p, ih)

times_other : (shot : ℕ) (f : ShotFault) → eqb (shot_of f) shot ≡ false → (fs : List ShotFault) → times_in f (of_shot shot fs) ≡ 0
unfolding of_shot times_in
times_other shot f h [] = refl
times_other shot f h (e ∷ fs) = go (eqb (shot_of e) shot) refl (times_other shot f h fs)
  where
    go : (b : Bool) → eqb (shot_of e) shot ≡ b → times_in f (of_shot shot fs) ≡ 0 → times_in f (cond b (e ∷ of_shot shot fs) (of_shot shot fs)) ≡ 0
    go true p ih = omega (arith, times_cons f e (of_shot shot fs), differ shot f e false h p, ih)
    go false p ih = ih

-- equally often in the shot alone
pub shot_sums : (c : Setting) (fs es : List ShotFault) → ((f : ShotFault) → shot_of f ≡ c.shot → times_in f fs ≡ times_in f es) → gap_sum c fs ≡ gap_sum c es
shot_sums c fs es h = sym (sum_of_shot c fs) ∙ equal_sums c (of_shot c.shot fs) (of_shot c.shot es) each ∙ sum_of_shot c es
  where
    each : (f : ShotFault) → times_in f (of_shot c.shot fs) ≡ times_in f (of_shot c.shot es)
    each f = go (eqb (shot_of f) c.shot) refl
      where
        go : (b : Bool) → eqb (shot_of f) c.shot ≡ b → times_in f (of_shot c.shot fs) ≡ times_in f (of_shot c.shot es)
        go true p = times_own c.shot f p fs ∙ h f (eqb-true _ _ p) ∙ sym (times_own c.shot f p es)
        go false p = times_other c.shot f p fs ∙ sym (times_other c.shot f p es)
