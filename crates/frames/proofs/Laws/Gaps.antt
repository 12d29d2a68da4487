-- A run by the gaps of its list: between two other lines the injections and flips act by their sum, whatever their order. Assumes nothing.
use Rattle.std.specs.Prelude.{◌≡◌, eqb, take}
use Rattle.std.proofs.Math.Path.{refl, sym, ap, fun_ext}
use Rattle.std.proofs.Common.{◌∙◌}
use Rattle.std.proofs.Math.Bool.{true}
use mathlib.Core.List.{List, [], ◌∷◌}
use Rattle.std.proofs.Math.Option.{Option, none, some}
use Prim.Native.Nat.{ℕ, zero, suc}
use Rattle.std.proofs.Math.Seq.{take-nil}
use Rattle.text.proofs.Laws.Values.{none_some}
use Rattle.pauli.specs.Bits.{added, none as noBits}
use Rattle.pauli.specs.Pauli.{identity, when}
use Rattle.pauli.proofs.Laws.Parity.{bitwise, added_is}
use Rattle.pauli.proofs.Laws.Group.{∗_comm, ∗_assoc, ∗_identity}
use Rattle.job.specs.Line.{SparsePauli, pauli_of, Line}
use Rattle.job.specs.Sound.{Every}
use Rattle.frames.specs.Forward.{State, Setting, forward, run, start}
use Rattle.frames.specs.Shots.{combined, concerns, ShotFault, fault_in, unless_fault, others_of, gap_from, gap_of, up_to_from, up_to}
use Rattle.frames.proofs.Laws.Linear.{state_path, forward_linear}

-- ---- states add

combined_comm : (s t : State) → combined s t ≡ combined t s
unfolding combined
combined_comm s t = state_path (∗_comm s.frame t.frame) (fun_ext (λ i. simp bitwise))

pub combined_assoc : (s t u : State) → combined (combined s t) u ≡ combined s (combined t u)
unfolding combined
combined_assoc s t u = state_path (∗_assoc s.frame t.frame u.frame) (fun_ext (λ i. simp bitwise))

pub combined_start : (s : State) → combined s start ≡ s
unfolding combined start
combined_start s = state_path (∗_identity s.frame) (fun_ext (λ i. simp bitwise))

pub start_combined : (s : State) → combined start s ≡ s
start_combined s = combined_comm start s ∙ combined_start s

pub combined_swap : (s t u : State) → combined s (combined t u) ≡ combined t (combined s u)
combined_swap s t u = sym (combined_assoc s t u) ∙ ap (λ (v : State). combined v u) (combined_comm s t) ∙ combined_assoc t s u

-- two sums, added
pub combined_both : (s t u v : State) → combined (combined s t) (combined u v) ≡ combined (combined s u) (combined t v)
combined_both s t u v =
    combined_assoc s t (combined u v) ∙ ap (combined s) (combined_swap t u v) ∙ sym (combined_assoc s u (combined t v))

-- ---- one injection or flip, and a gap

some_same : {f g : ShotFault} → some f ≡ some g → f ≡ g
some_same e = cc

unfoldable pub effect : Setting → ShotFault → State
effect c (ShotFault.inject shot P) = record { frame = when (eqb shot c.shot) (pauli_of P); deltas = noBits }
effect c (ShotFault.flip shot id) = record { frame = identity; deltas = added noBits id (eqb shot c.shot) }

unfoldable pub gap_sum : Setting → List ShotFault → State
gap_sum c [] = start
gap_sum c (f ∷ fs) = combined (effect c f) (gap_sum c fs)

module _ (c : Setting) where
  inject_adds : (shot : ℕ) (P : SparsePauli) (s : State) → forward c (Line.inject shot P) s ≡ combined s (effect c (ShotFault.inject shot P))
  unfolding forward effect combined
  inject_adds shot P s = state_path refl (fun_ext (λ i. simp bitwise))

  flip_adds : (shot id : ℕ) (s : State) → forward c (Line.flip shot id) s ≡ combined s (effect c (ShotFault.flip shot id))
  unfolding forward effect combined
  flip_adds shot id s = state_path (sym (∗_identity s.frame)) (simp added_is (fun_ext (λ i. simp bitwise)))

  -- a line that is one adds its effect
  forward_fault : (l : Line) (f : ShotFault) → fault_in l ≡ some f → (s : State) → forward c l s ≡ combined s (effect c f)
  unfolding fault_in
  forward_fault (Line.unitary g qs) f e s = absurd (none_some e)
  forward_fault (Line.clifford qs t) f e s = absurd (none_some e)
  forward_fault (Line.pauli P) f e s = absurd (none_some e)
  forward_fault (Line.exponential P) f e s = absurd (none_some e)
  forward_fault (Line.controlled C T) f e s = absurd (none_some e)
  forward_fault (Line.permute p qs) f e s = absurd (none_some e)
  forward_fault (Line.measure P id) f e s = absurd (none_some e)
  forward_fault (Line.allocate id angle) f e s = absurd (none_some e)
  forward_fault (Line.conditional P ids par) f e s = absurd (none_some e)
  forward_fault (Line.reset qs) f e s = absurd (none_some e)
  forward_fault (Line.inject shot P) f e s = inject_adds shot P s ∙ ap (λ (k : ShotFault). combined s (effect c k)) (some_same e)
  forward_fault (Line.flip shot id) f e s = flip_adds shot id s ∙ ap (λ (k : ShotFault). combined s (effect c k)) (some_same e)
  forward_fault (Line.barrier qs) f e s = absurd (none_some e)

-- any other line is linear
others_linear : (c : Setting) (l : Line) → fault_in l ≡ none → (s t : State) → forward c l (combined s t) ≡ combined (forward c l s) (forward c l t)
others_linear c l e = forward_linear c noBits (unfold noBits in refl) l (all_shots l e)
  where
    all_shots : (l : Line) → fault_in l ≡ none → concerns noBits l ≡ true
    all_shots (Line.unitary g qs) e = unfold concerns in refl
    all_shots (Line.clifford qs t) e = unfold concerns in refl
    all_shots (Line.pauli P) e = unfold concerns in refl
    all_shots (Line.exponential P) e = unfold concerns in refl
    all_shots (Line.controlled C T) e = unfold concerns in refl
    all_shots (Line.permute p qs) e = unfold concerns in refl
    all_shots (Line.measure P id) e = unfold concerns in refl
    all_shots (Line.allocate id angle) e = unfold concerns in refl
    all_shots (Line.conditional P ids par) e = unfold concerns in refl
    all_shots (Line.reset qs) e = unfold concerns in refl
    all_shots (Line.inject shot P) e = unfold fault_in in absurd (none_some (sym e))
    all_shots (Line.flip shot id) e = unfold fault_in in absurd (none_some (sym e))
    all_shots (Line.barrier qs) e = unfold concerns in refl

-- ---- a run by its other lines and gaps

unfoldable pub run_gaps : Setting → List Line → (ℕ → List ShotFault) → State → State
run_gaps c [] gaps s = combined s (gap_sum c (gaps 0))
run_gaps c (l ∷ ls) gaps s = run_gaps c ls (λ g. gaps (suc g)) (forward c l (combined s (gap_sum c (gaps 0))))

module _ (c : Setting) where
  -- one more in gap 0
  gaps_more : (f : ShotFault) (ls : List Line) (gaps : ℕ → List ShotFault) (s : State) → run_gaps c ls (gap_from (some f) gaps) s ≡ run_gaps c ls gaps (combined s (effect c f))
  unfolding run_gaps gap_from gap_sum
  gaps_more f [] gaps s = sym (combined_assoc s (effect c f) (gap_sum c (gaps 0)))
  gaps_more f (l ∷ ls) gaps s = ap (λ (t : State). run_gaps c ls (λ g. gaps (suc g)) (forward c l t)) (sym (combined_assoc s (effect c f) (gap_sum c (gaps 0))))

  -- one more other line
  others_more : (l : Line) (ls : List Line) (gaps : ℕ → List ShotFault) (s : State) → run_gaps c (l ∷ ls) (gap_from none gaps) s ≡ run_gaps c ls gaps (forward c l s)
  unfolding run_gaps gap_from gap_sum
  others_more l ls gaps s = ap (λ (t : State). run_gaps c ls gaps (forward c l t)) (combined_start s)

  -- one more line
  gaps_step : (l : Line) (ls : List Line) (gaps : ℕ → List ShotFault) (s : State)
      → run_gaps c ls gaps (forward c l s) ≡ run_gaps c (unless_fault (fault_in l) l ls) (gap_from (fault_in l) gaps) s
  gaps_step l ls gaps s = go (fault_in l) refl
    where
      go : (o : Option ShotFault) → fault_in l ≡ o → run_gaps c ls gaps (forward c l s) ≡ run_gaps c (unless_fault o l ls) (gap_from o gaps) s
      go none e = unfold unless_fault in sym (others_more l ls gaps s)
      go (some f) e = unfold unless_fault in (ap (run_gaps c ls gaps) (forward_fault c l f e s) ∙ sym (gaps_more f ls gaps s))

  pub run_gaps_lem : (ls : List Line) (s : State) → run c ls s ≡ run_gaps c (others_of ls) (gap_of ls) s
  unfolding run others_of gap_of run_gaps gap_sum
  run_gaps_lem [] s = sym (combined_start s)
  run_gaps_lem (l ∷ ls) s = run_gaps_lem ls (forward c l s) ∙ gaps_step l (others_of ls) (gap_of ls) s

  -- and up to the other line g
  pub run_up_to : (ls : List Line) (g : ℕ) (s : State) → run c (up_to ls g) s ≡ run_gaps c (take g (others_of ls)) (gap_of ls) s
  unfolding up_to others_of gap_of
  run_up_to [] g s = rw (take-nil g) (unfold run run_gaps gap_sum in sym (combined_start s))
  run_up_to (l ∷ ls) g s = go (fault_in l) refl g (run_up_to ls)
    where
      go : (o : Option ShotFault) → fault_in l ≡ o → (g : ℕ)
          → ((g : ℕ) (s : State) → run c (up_to ls g) s ≡ run_gaps c (take g (others_of ls)) (gap_of ls) s)
          → run c (up_to_from o l (up_to ls) g) s ≡ run_gaps c (take g (unless_fault o l (others_of ls))) (gap_from o (gap_of ls)) s
      go none e zero ih = unfold up_to_from unless_fault run run_gaps gap_from gap_sum in sym (combined_start s)
      go none e (suc g) ih = unfold up_to_from unless_fault run in (ih g (forward c l s) ∙ sym (others_more l (take g (others_of ls)) (gap_of ls) s))
      go (some f) e g ih =
          unfold up_to_from unless_fault run in
          (ih g (forward c l s)
          ∙ ap (run_gaps c (take g (others_of ls)) (gap_of ls)) (forward_fault c l f e s)
          ∙ sym (gaps_more f (take g (others_of ls)) (gap_of ls) s))

  -- gaps of equal sums
  pub sums_run : (ls : List Line) (gaps more : ℕ → List ShotFault) → ((g : ℕ) → gap_sum c (gaps g) ≡ gap_sum c (more g)) → (s : State)
      → run_gaps c ls gaps s ≡ run_gaps c ls more s
  unfolding run_gaps
  sums_run [] gaps more e s = ap (combined s) (e 0)
  sums_run (l ∷ ls) gaps more e s =
      ap (λ (t : State). run_gaps c ls (λ g. gaps (suc g)) (forward c l (combined s t))) (e 0)
      ∙ sums_run ls (λ g. gaps (suc g)) (λ g. more (suc g)) (λ g. e (suc g)) _

  -- gaps whose sums add
  pub sums_add : (ls : List Line) → Every (λ (l : Line). fault_in l ≡ none) ls → (gaps first second : ℕ → List ShotFault)
      → ((g : ℕ) → gap_sum c (gaps g) ≡ combined (gap_sum c (first g)) (gap_sum c (second g))) → (s t : State)
      → run_gaps c ls gaps (combined s t) ≡ combined (run_gaps c ls first s) (run_gaps c ls second t)
  unfolding run_gaps
  sums_add [] o gaps first second e s t = ap (combined (combined s t)) (e 0) ∙ combined_both s t _ _
  sums_add (l ∷ ls) o gaps first second e s t =
      ap (λ (u : State). run_gaps c ls (λ g. gaps (suc g)) (forward c l u)) (ap (combined (combined s t)) (e 0) ∙ combined_both s t _ _)
      ∙ ap (run_gaps c ls (λ g. gaps (suc g))) (others_linear c l o.0 _ _)
      ∙ sums_add ls o.1 (λ g. gaps (suc g)) (λ g. first (suc g)) (λ g. second (suc g)) (λ g. e (suc g)) _ _

pub others_no_fault : (ls : List Line) → Every (λ (l : Line). fault_in l ≡ none) (others_of ls)
unfolding others_of
others_no_fault [] = tt
others_no_fault (l ∷ ls) = go (fault_in l) refl (others_no_fault ls)
  where
    go : (o : Option ShotFault) → fault_in l ≡ o → Every (λ (l : Line). fault_in l ≡ none) (others_of ls)
        → Every (λ (l : Line). fault_in l ≡ none) (unless_fault o l (others_of ls))
    go none e ih = unfold unless_fault in (e, ih)
    go (some f) e ih = unfold unless_fault in ih

pub every_take : {A : Type 0} (P : A → Type 0) (g : ℕ) (l : List A) → Every P l → Every P (take g l)
every_take P zero l e = tt
every_take P (suc g) [] e = tt
every_take P (suc g) (a ∷ l) e = (e.0, every_take P g l e.1)
