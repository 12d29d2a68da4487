-- Theorems about a shot's run and its walk, for whole lists of lines (document 01, demand 3); those about the run alone stand in the frames crate.
-- Assumes nothing.
use Rattle.std.specs.Prelude.{◌≡◌, refl, Bool, true, false, List, [], ◌∷◌, ℕ}
use Rattle.std.proofs.Common.{sym, ap, ◌∙◌, true≢false, arith}
use Rattle.pauli.specs.Bits.{Bits, none, only, given, replaced, added, outside, ◌⊕◌, ◌∩◌, ◌△◌, members, parity, sum_over, odd}
use Rattle.pauli.specs.Pauli.{Pauli, identity, X_at, Y_at, Z_at, ◌∗◌, when, anticommutes, cleared}
use Rattle.pauli.specs.Gate.{prepare_bell, controlled_X, swap_XZ}
use Rattle.pauli.proofs.Laws.Parity.{only_here}
use Rattle.text.specs.List.{is_rising_of}
use Rattle.job.specs.declared.Header.{Header}
use Rattle.job.specs.Line.{Line}
use Rattle.job.specs.Checks.{all_below}
use Rattle.job.specs.Job.{job_of, recorded_in, check_job}
use Rattle.job.specs.InRange.{AllInRange}
use Rattle.job.specs.Sound.{JobSound}
use Rattle.job.proofs.Theorems.{checked_sound}
use Rattle.job.proofs.Laws.Lists.{below_more, sum_over_members}
use Rattle.frames.specs.Forward.{controlled_pauli, image_sum, transformed, State, Setting, setting_of, forward, run, start}
use Rattle.frames.specs.Conjugation.{same, controlled_sum, Takes}
use Rattle.frames.specs.Shots.{restricted, within}
use Rattle.frames.proofs.Theorems.{controlled_unitary, takes_unique}
use Rattle.frames.proofs.Laws.Controlled.{controlled_takes}
use Rattle.draws.specs.Draws.{Lent}
use Rattle.draws.specs.Settle.{SettledLine, Settled, settle, settled_list}
use Rattle.draws.specs.Execute.{States, starts, Ended, execute}
use Rattle.draws.proofs.Theorems.{executed_spent, executed_ended}
use Rattle.draws.proofs.Laws.Settling.{ended_apart, ended_same}
use Rattle.backward.specs.Walk.{carry, counts, Walk, backward, walk_back, walk}
use Rattle.backward.proofs.Laws.Duality.{run_walk, total_start, total_end}
use Rattle.backward.proofs.Laws.Settled.{settled_in_range}
use Rattle.backward.proofs.Laws.WalkShots.{walk_back_restricted, walk_back_quiet, same_carried}

module _ (c : Setting) (ls : List Line) where
  -- For every set S of outcomes, the sum of the shot's deltas over S is 1 where the walk of S counts an odd number, and else 0.
  pub deltas_count : AllInRange c.qubits c.outcomes ls → (S : Bits)
      → parity c.outcomes ((run c ls start).deltas ∩ S) ≡ odd (walk c ls S).count
  unfolding walk
  deltas_count h S = total_end c (run c ls start) S ∙ run_walk c ls h start _ ∙ total_start c (walk c ls S)

  -- The same for a set that is given as a rising list.
  pub listed_deltas_count : AllInRange c.qubits c.outcomes ls → (ids : List ℕ) → is_rising_of ids ≡ true → all_below c.outcomes ids ≡ true
      → sum_over ids (run c ls start).deltas ≡ odd (walk c ls (members ids)).count
  listed_deltas_count h ids r k = sum_over_members c.outcomes _ ids r k ∙ deltas_count h (members ids)

  -- A shot's walk, from any observable, set and count, needs no injection and no flip of other shots.
  pub own_walk : (w : Walk) → walk_back c (restricted (only c.shot) ls) w ≡ walk_back c ls w
  own_walk w = walk_back_restricted c (only c.shot) (only_here c.shot) ls w

  -- If every injection and flip is in a shot of some set, the walk of a shot outside the set counts nothing.
  pub quiet_walk : (shots : Bits) → shots c.shot ≡ false → within shots ls ≡ true → (S : Bits) → (walk c ls S).count ≡ 0
  unfolding walk
  quiet_walk shots off h S = walk_back_quiet c shots off ls h _

-- A barrier changes nothing, forwards and back.
pub barrier_quiet : (c : Setting) (qs : List ℕ) (s : State) (w : Walk) → (forward c (Line.barrier qs) s ≡ s) × (backward c (Line.barrier qs) w ≡ w)
unfolding forward backward carry counts
barrier_quiet c qs s w = (refl, refl)

-- Two lists that differ only in injections and flips outside a set of shots have the same walk in each shot of the set, from any observable, set and
-- count.
pub shots_apart_walk : (c : Setting) (shots : Bits) → shots c.shot ≡ true → (ks ls : List Line) → restricted shots ks ≡ restricted shots ls
    → (w : Walk) → walk_back c ks w ≡ walk_back c ls w
shots_apart_walk c shots on ks ls same w =
    sym (walk_back_restricted c shots on ks w) ∙ ap (λ l. walk_back c l w) same ∙ walk_back_restricted c shots on ls w

-- What is carried back is the same for every shot.
pub carried_any_shot : (c d : Setting) → c.qubits ≡ d.qubits → (ls : List Line) (S : Bits) → (walk c ls S).carried ≡ (walk d ls S).carried
unfolding walk
carried_any_shot c d q ls S = same_carried c d q ls _ _ refl

-- ---- demand 3

-- Take any job that passes the checks, with lines of any kind, noise included, in any order. Run it to its end, from cleared frames and deltas,
-- whatever draw words, base and noiseless bits are lent. Then the job settles, and for every set of its recorded outcomes and every one of its shots
-- the sum of the set's deltas in that shot equals modulo 2 the count that the walk of the settled list makes for that set and shot.
pub demand_3 : (job : List ℕ) → (check_job job).number ≡ 0 → (lent : Lent) (main : List ℕ) (states : States)
    → execute (job_of job).header lent (job_of job).instructions main starts ≡ Ended.ended states
    → (ls : List SettledLine)
    × (settle lent (job_of job).instructions main ≡ Settled.settled ls)
    × ((set : List ℕ) → is_rising_of set ≡ true → all_below (recorded_in (job_of job).instructions) set ≡ true → (shot : ℕ)
    → sum_over set (states shot).deltas ≡ odd (walk (setting_of (job_of job).header shot) (settled_list ls) (members set)).count)
demand_3 job accepted lent main states ended = settles (settle lent (job_of job).instructions main) refl
  where
    h : Header
    h = (job_of job).header

    sound : JobSound job (job_of job)
    sound = checked_sound job accepted

    settles : (o : Settled) → settle lent (job_of job).instructions main ≡ o
        → (ls : List SettledLine)
        × (settle lent (job_of job).instructions main ≡ Settled.settled ls)
        × ((set : List ℕ) → is_rising_of set ≡ true → all_below (recorded_in (job_of job).instructions) set ≡ true → (shot : ℕ)
        → sum_over set (states shot).deltas ≡ odd (walk (setting_of h shot) (settled_list ls) (members set)).count)
    settles (Settled.spent_at k) e = absurd (ended_apart k states (sym (executed_spent h lent (job_of job).instructions main starts k e) ∙ ended))
    settles (Settled.settled ls) e = (
      ls,
      e,
      λ set rising recorded shot.
          let final : states ≡ (λ s. run (setting_of h s) (settled_list ls) start) =
          ended_same states _ (sym ended ∙ executed_ended h lent (job_of job).instructions main starts ls e) in
          let below : all_below h.outcomes set ≡ true = below_more _ _ set sound.recorded recorded in
          ap (λ (t : States). sum_over set (t shot).deltas) final
          ∙ listed_deltas_count (setting_of h shot) (settled_list ls)
          (settled_in_range h 0 lent main (job_of job).instructions ls (omega arith) sound.instructions e)
          set rising below,
    )

-- ---- plausible and false, as document 01 has it: the first is refuted by one frame, each of the others by one frame and one observable

-- The control added under its own mask, and the target under any mask: for the control Z on the first qubit, the target X on the second and the frame X
-- on the first, which goes to X on both. So it is not what the unitary of a controlled Pauli, whose control and target commute, takes frames to.
pub own_mask_fails : (mask : Pauli → Pauli → Pauli → Bool)
    → ((C T F : Pauli) → anticommutes 2 C T ≡ false → Takes 2 (controlled_sum 2 C T) F (F ∗ when (mask C T F) T ∗ when (anticommutes 2 F C) C)) → ⊥
unfolding controlled_pauli same anticommutes X_at Z_at only none ◌∗◌ when given ◌△◌ ◌∩◌ ◌⊕◌ parity
own_mask_fails mask h = differ (mask (Z_at 0) (X_at 1) (X_at 0)) (h (Z_at 0) (X_at 1) (X_at 0) refl)
  where
    apart : (b : Bool) → same 2 (X_at 0 ∗ when b (X_at 1) ∗ when true (Z_at 0)) (controlled_pauli 2 (Z_at 0) (X_at 1) (X_at 0)) ≡ true → ⊥
    apart true e = true≢false (sym e)
    apart false e = true≢false (sym e)

    differ : (b : Bool) → Takes 2 (controlled_sum 2 (Z_at 0) (X_at 1)) (X_at 0) (X_at 0 ∗ when b (X_at 1) ∗ when true (Z_at 0)) → ⊥
    differ b t =
        let one : same 2 (X_at 0 ∗ when b (X_at 1) ∗ when true (Z_at 0)) (controlled_pauli 2 (Z_at 0) (X_at 1) (X_at 0)) ≡ true =
        takes_unique 2 _ (controlled_unitary 2 (Z_at 0) (X_at 1) refl) (X_at 0) _ _ t (controlled_takes 2 (Z_at 0) (X_at 1) refl (X_at 0)) in
        apart b one

-- PrepareBell walked forwards: Z on the first, and Z on the second.
pub bell_forwards_fails : ((F B : Pauli) → anticommutes 2 (prepare_bell 0 1 F) B ≡ anticommutes 2 F (prepare_bell 0 1 B)) → ⊥
unfolding anticommutes prepare_bell controlled_X swap_XZ added replaced Z_at only none ◌∩◌ ◌⊕◌ parity
bell_forwards_fails h = true≢false (h (Z_at 0) (Z_at 1))

-- The untransposed table: for the Clifford that takes X to Y and Z to X, X and Z.
abbrev pub cycled : Pauli → Pauli
cycled = transformed (0 ∷ []) (record { qubit = 0; of_X = Y_at 0; of_Z = X_at 0 } ∷ [])

pub untransposed_fails : ((F B : Pauli) → anticommutes 1 (cycled F) B ≡ anticommutes 1 F (cycled B)) → ⊥
unfolding anticommutes transformed image_sum cleared outside identity when given X_at Y_at Z_at only none ◌∗◌ ◌△◌ ◌∩◌ ◌⊕◌ parity
untransposed_fails h = true≢false (h (X_at 0) (Z_at 0))
