-- Theorems on shots: a shot's run needs no injection and no flip of other shots, and injections and flips add. Their proofs stand in Laws. Assumes nothing.
use Rattle.std.specs.Prelude.{◌≡◌, true, false, List, ◌++◌, ℕ, ◌≤◌, ltb, take}
use Rattle.std.proofs.Common.{sym, ap, ap₂, ◌∙◌, le-ltb}
use Rattle.std.proofs.Math.Option.{none}
use Rattle.pauli.specs.Bits.{Bits, only}
use Rattle.pauli.proofs.Laws.Parity.{only_here}
use Rattle.job.specs.Line.{Line}
use Rattle.job.specs.Sound.{Every}
use Rattle.frames.specs.Forward.{State, Setting, run, start}
use Rattle.frames.specs.Shots.{restricted, within, combined, fault_in, others_of, gap_of, up_to, ApartBut, Together}
use Rattle.frames.proofs.Laws.Linear.{run_quiet}
use Rattle.frames.proofs.Laws.RunShots.{run_restricted}
use Rattle.frames.proofs.Laws.Gaps.{combined_start, gap_sum, run_gaps, run_gaps_lem, run_up_to, sums_run, sums_add, others_no_fault, every_take}
use Rattle.frames.proofs.Laws.Times.{equal_sums, sum_append, times_append, shot_sums}

module _ (c : Setting) (ls : List Line) where
  -- A shot's run, from any start, needs no injection and no flip of other shots.
  pub own_run : (s : State) → run c (restricted (only c.shot) ls) s ≡ run c ls s
  own_run s = run_restricted c (only c.shot) (only_here c.shot) ls s

  -- If every injection and flip is in a shot of some set, a shot outside the set keeps the identity frame and deltas of 0.
  pub quiet_run : (shots : Bits) → shots c.shot ≡ false → within shots ls ≡ true → run c ls start ≡ start
  quiet_run shots off h = run_quiet c shots off ls h

  -- The bits past the last shot are 0.
  pub padding : (shots : ℕ) → within (λ shot. ltb shot shots) ls ≡ true → shots ≤ c.shot → run c ls start ≡ start
  padding shots h past = quiet_run (λ shot. ltb shot shots) (le-ltb c.shot shots past) h

-- Two lists that differ only in injections and flips outside a set of shots do the same in each shot of the set, from any start.
pub shots_apart_run : (c : Setting) (shots : Bits) → shots c.shot ≡ true → (ks ls : List Line) → restricted shots ks ≡ restricted shots ls
    → (s : State) → run c ks s ≡ run c ls s
shots_apart_run c shots on ks ls same s = sym (run_restricted c shots on ks s) ∙ ap (λ l. run c l s) same ∙ run_restricted c shots on ls s

-- ---- injections and flips among the same other lines

-- Shots apart: two lists whose other lines agree, and that hold every injection and flip of the set's shots equally often between the same two of them,
-- in whatever order, do the same in each shot of the set, from any start. Conditionals and resets may be among the lines.
module _ (c : Setting) (shots : Bits) (on : shots c.shot ≡ true) (ks ls : List Line) (apart : ApartBut shots ks ls) where
  same_sums : (g : ℕ) → gap_sum c (gap_of ks g) ≡ gap_sum c (gap_of ls g)
  same_sums g = shot_sums c (gap_of ks g) (gap_of ls g) (λ f e. apart.times g f (ap shots e ∙ on))

  -- At the end,
  pub shots_apart : (s : State) → run c ks s ≡ run c ls s
  shots_apart s =
      run_gaps_lem c ks s
      ∙ ap (λ (os : List Line). run_gaps c os (gap_of ks) s) apart.others
      ∙ sums_run c (others_of ls) (gap_of ks) (gap_of ls) same_sums s
      ∙ sym (run_gaps_lem c ls s)

  -- and before every other line.
  pub shots_apart_before : (g : ℕ) (s : State) → run c (up_to ks g) s ≡ run c (up_to ls g) s
  shots_apart_before g s =
      run_up_to c ks g s
      ∙ ap (λ (os : List Line). run_gaps c (take g os) (gap_of ks) s) apart.others
      ∙ sums_run c (take g (others_of ls)) (gap_of ks) (gap_of ls) same_sums s
      ∙ sym (run_up_to c ls g s)

-- Faults add: a list that holds just the injections and flips of two others, each between the same two of the other lines, on which all agree, and twice
-- where both hold it there, does what the two do, added: frames and deltas are the exclusive or of theirs, from the start and from any two starts.
module _ (c : Setting) (ks ls ms : List Line) (all : Together ks ls ms) where
  added_sums : (g : ℕ) → gap_sum c (gap_of ms g) ≡ combined (gap_sum c (gap_of ks g)) (gap_sum c (gap_of ls g))
  added_sums g =
      equal_sums c (gap_of ms g) (gap_of ks g ++ gap_of ls g) (λ f. all.times g f ∙ sym (times_append f (gap_of ks g) (gap_of ls g)))
      ∙ sum_append c (gap_of ks g) (gap_of ls g)

  -- by the other lines, or the first of them
  added_run : (os : List Line) → Every (λ (l : Line). fault_in l ≡ none) os → (s t : State)
      → run_gaps c os (gap_of ms) (combined s t) ≡ combined (run_gaps c os (gap_of ks) s) (run_gaps c os (gap_of ls) t)
  added_run os free s t = sums_add c os free (gap_of ms) (gap_of ks) (gap_of ls) added_sums s t

  -- At the end,
  pub faults_add : (s t : State) → run c ms (combined s t) ≡ combined (run c ks s) (run c ls t)
  faults_add s t =
      run_gaps_lem c ms (combined s t)
      ∙ added_run (others_of ms) (others_no_fault ms) s t
      ∙ ap₂ combined
      (ap (λ (os : List Line). run_gaps c os (gap_of ks) s) all.others_first ∙ sym (run_gaps_lem c ks s))
      (ap (λ (os : List Line). run_gaps c os (gap_of ls) t) all.others_second ∙ sym (run_gaps_lem c ls t))

  -- before every other line,
  pub faults_add_before : (g : ℕ) (s t : State) → run c (up_to ms g) (combined s t) ≡ combined (run c (up_to ks g) s) (run c (up_to ls g) t)
  faults_add_before g s t =
      run_up_to c ms g (combined s t)
      ∙ added_run (take g (others_of ms)) (every_take _ g (others_of ms) (others_no_fault ms)) s t
      ∙ ap₂ combined
      (ap (λ (os : List Line). run_gaps c (take g os) (gap_of ks) s) all.others_first ∙ sym (run_up_to c ks g s))
      (ap (λ (os : List Line). run_gaps c (take g os) (gap_of ls) t) all.others_second ∙ sym (run_up_to c ls g t))

  -- and from the start of a run.
  pub deltas_add : run c ms start ≡ combined (run c ks start) (run c ls start)
  deltas_add = ap (run c ms) (sym (combined_start start)) ∙ faults_add start start
