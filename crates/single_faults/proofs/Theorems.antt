-- Theorems about the table of single faults: at most sixteen groups; what a forward run with the one injection gives is what the group, carried back once to
-- the noise line, says of the element; any shot gives the same; and so does the call that runs a job with that one injection. Assumes nothing.
use Rattle.std.specs.Prelude.{◌≡◌, Bool, true, false, ◌&&◌, List, [], ◌∷◌, ◌++◌, ℕ, ◌<◌, eqb, replicate}
use Rattle.std.proofs.Math.Path.{refl, sym, ap}
use Rattle.std.proofs.Common.{◌∙◌}
use Rattle.pauli.specs.Bits.{none as noShots, only, members, sum_over, odd}
use Rattle.pauli.specs.Pauli.{identity, anticommutes}
use Rattle.pauli.proofs.Laws.Parity.{only_here}
use Rattle.text.specs.List.{is_rising_of}
use Rattle.job.specs.declared.Header.{Header}
use Rattle.job.specs.Line.{SparsePauli, pauli_of, Line, Placed}
use Rattle.job.specs.Checks.{all_below}
use Rattle.job.specs.Job.{job_of, recorded_in, check_job}
use Rattle.job.specs.InRange.{AllInRange}
use Rattle.job.proofs.Theorems.{checked_sound}
use Rattle.job.proofs.Laws.Lists.{below_more}
use Rattle.frames.specs.Forward.{Setting, setting_of, run, start}
use Rattle.frames.specs.Shots.{within}
use Rattle.run.specs.Run.{Memory}
use Rattle.backward.specs.Walk.{Carried, counts, Walk, one_more_of, backward, walk_back, walk}
use Rattle.backward.specs.Walking.{plain_lines}
use Rattle.backward.specs.Calls.{shot_bits, RanQuiet}
use Rattle.backward.proofs.Theorems.{listed_deltas_count, carried_any_shot}
use Rattle.backward.proofs.Laws.WalkShots.{walk_back_quiet}
use Rattle.backward.proofs.Laws.ShotBits.{line_bits}
use Rattle.backward.proofs.Laws.Settled.{append_in_range}
use Rattle.backward.proofs.Laws.CallsAgree.{sum_same}
use Rattle.single_faults.specs.Groups.{groups_fit}
use Rattle.single_faults.specs.Table.{quiet_lines, faulted, flips}
use Rattle.single_faults.proofs.Laws.Quiet.{append_one, first_quiet, last_quiet, quiet_within, walk_append, carried_quiet}

-- ---- how many groups

-- sixteen are not too many, seventeen are
pub sixteen_groups : (groups_fit (replicate 16 []) ≡ true) × (groups_fit (replicate 17 []) ≡ false)
sixteen_groups = (refl, refl)

-- ---- on lists

-- Lines without injections and flips, and one injection among them: the deltas of a set sum to 1 where the injection anticommutes with the set's
-- observable, carried back to its place.
pub fault_carried : (c : Setting) (before after : List Line) → AllInRange c.qubits c.outcomes before → AllInRange c.qubits c.outcomes after
    → within noShots before ≡ true → within noShots after ≡ true
    → (P : SparsePauli) (group : List ℕ) → is_rising_of group ≡ true → all_below c.outcomes group ≡ true
    → sum_over group (run c (before ++ Line.inject c.shot P ∷ after) start).deltas
    ≡ anticommutes c.qubits (pauli_of P) (walk c after (members group)).carried.observable
unfolding walk walk_back backward counts odd only noShots
fault_carried c before after rb ra qb qa P group rising below =
    listed_deltas_count c (before ++ Line.inject c.shot P ∷ after)
    (append_in_range _ _ before (Line.inject c.shot P ∷ after) rb (tt, ra)) group rising below
    ∙ ap odd counted
    ∙ one_counted
  where
    from : Walk
    from = record { carried = record { observable = identity; set = members group }; count = 0 }

    at : Walk
    at = walk_back c after from

    counted : (walk_back c (before ++ Line.inject c.shot P ∷ after) from).count
        ≡ one_more_of (eqb c.shot c.shot && anticommutes c.qubits (pauli_of P) at.carried.observable) at.count
    counted =
        ap (λ (w : Walk). w.count) (walk_append c before (Line.inject c.shot P ∷ after) from)
        ∙ walk_back_quiet c noShots refl before qb _

    one_counted : odd (one_more_of (eqb c.shot c.shot && anticommutes c.qubits (pauli_of P) at.carried.observable) at.count)
        ≡ anticommutes c.qubits (pauli_of P) at.carried.observable
    one_counted = go (anticommutes c.qubits (pauli_of P) at.carried.observable) at.count (walk_back_quiet c noShots refl after qa from)
      where
        go : (b : Bool) (n : ℕ) → n ≡ 0 → odd (one_more_of (eqb c.shot c.shot && b) n) ≡ b
        go true n e = rw (e, only_here c.shot) refl
        go false n e = rw (e, only_here c.shot) refl

-- ---- on a job

-- Of an accepted job, cut before and after a noise line, with a Pauli and a group of recorded outcomes:
module _ (job : List ℕ) (accepted : (check_job job).number ≡ 0) (before after : List Placed) (i : Placed) (cut : (job_of job).instructions ≡ before ++ i ∷ after)
    (P : SparsePauli) (group : List ℕ) (rising : is_rising_of group ≡ true) (recorded : all_below (recorded_in (job_of job).instructions) group ≡ true) where
  abbrev h : Header
  h = (job_of job).header

  -- In any shot the table's character is what the group says, carried back one time from the job's end to the noise line, over all lines as they
  -- are: it does not depend on the element.
  pub table_carried : (shot : ℕ)
      → flips h shot before P after group ≡ anticommutes h.qubits (pauli_of P) (walk (setting_of h 0) (plain_lines after) (members group)).carried.observable
  unfolding flips faulted
  table_carried shot =
      fault_carried (setting_of h shot) (quiet_lines before) (quiet_lines after)
      (first_quiet job accepted before (i ∷ after) cut) (last_quiet job accepted (before ++ i ∷ []) after (cut ∙ sym (append_one before i after)))
      (quiet_within before) (quiet_within after) P group rising (below_more _ _ group (checked_sound job accepted).recorded recorded)
      ∙ ap (λ (w : Carried). anticommutes h.qubits (pauli_of P) w.observable)
      (carried_quiet (setting_of h shot) after (members group) ∙ carried_any_shot (setting_of h shot) (setting_of h 0) refl (plain_lines after) (members group))

  -- So every shot gives the same.
  pub table_any_shot : (shot other : ℕ) → flips h shot before P after group ≡ flips h other before P after group
  table_any_shot shot other = table_carried shot ∙ sym (table_carried other)

  -- The call: run any job of this header whose lines are these, without noise, injections and flips, and that one injection in a shot. The group's deltas in
  -- the shot, in the words that the run leaves, sum to the table's character.
  pub table_alone : (alone : List ℕ) (m : Memory) (shot : ℕ) → shot < h.shots
      → RanQuiet alone m h (quiet_lines before ++ Line.inject shot P ∷ quiet_lines after)
      → sum_over group (shot_bits alone m shot).deltas ≡ flips h 0 before P after group
  unfolding flips faulted
  table_alone alone m shot below ran =
      sum_same h.outcomes group _ _ (below_more _ _ group (checked_sound job accepted).recorded recorded) (line_bits alone m h _ ran shot below).deltas
      ∙ table_any_shot shot 0
