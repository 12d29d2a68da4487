-- Laws: the totals that a run leaves. Assumes nothing.
use Rattle.std.specs.Prelude.{◌≡◌, Bool, cond, get_or, drop}
use Rattle.std.proofs.Math.Path.{refl, subst}
use Rattle.std.proofs.Common.{sym, ◌∙◌, arith}
use Rattle.std.proofs.Math.Bool.{true, false}
use mathlib.Core.List.{List, [], ◌∷◌}
use Rattle.std.proofs.Math.Option.{Option, none, some}
use Prim.Native.Nat.{ℕ, zero, suc, ◌+◌, ◌<◌, ◌≤◌}
use Rattle.std.specs.Float.Ieee.{le}
use Rattle.std.proofs.Math.ListN.{length, get_or-append}
use Rattle.pauli.specs.Bits.{none as noBits}
use Rattle.job.specs.declared.Header.{Header}
use Rattle.job.specs.Line.{Line, Noise, Instruction, Placed}
use Rattle.job.specs.Checks.{records}
use Rattle.job.specs.Float.{float, zero_float}
use Rattle.job.specs.Job.{recorded_by, recorded_in, job_of}
use Rattle.job.specs.Sound.{LineSound, InstructionSound, InstructionsSound}
use Rattle.job.proofs.Theorems.{checked_sound}
use Rattle.frames.specs.Forward.{State, setting_of, forward, start}
use Rattle.draws.specs.Draws.{Lent, ShotDraw, draw_shot_of, part_of}
use Rattle.draws.specs.Execute.{States, starts, forward_all, Executed, then_in_place, inject_shots, inject_noise, on_main, execute_one, Ended, execute_then, execute}
use Rattle.rows.specs.Words.{words_per_row, bit_in}
use Rattle.totals.specs.Ones.{ones_to}
use Rattle.totals.specs.Laws.Ones.{ones_same, ones_none}
use Rattle.totals.specs.Laws.Held.{added_off}
use Rattle.run.specs.Run.{Memory, lent_of, flip_totals, finished_reply, run_reply}
use Rattle.run.proofs.Theorems.{totals_long, total_of}
use Rattle.backward.proofs.Laws.Replies.{RunsTo}
use Rattle.backward.proofs.Laws.CallsAgree.{finished_delta}

module _ (h : Header) (m : Memory) (states : States) (id : ℕ) (below : id < h.outcomes) where
  -- the total is that of the states
  pub finished_total : get_or (finished_reply h m states).totals id 0 ≡ ones_to h.shots (λ s. (states s).deltas id)
  unfolding finished_reply
  finished_total =
      let inside : id < length (flip_totals h states) = omega (arith, totals_long h states) in
      rw (get_or-append (flip_totals h states) (drop (length (flip_totals h states)) m.totals) 0 id inside) (total_of h states id below)

  -- and the row's
  pub finished_ones : get_or (finished_reply h m states).totals id 0 ≡ ones_to h.shots (bit_in (words_per_row h.shots) (finished_reply h m states).deltas id)
  finished_ones = finished_total ∙ ones_same h.shots _ _ (λ s k. sym (finished_delta h m states id s below k))

pub reply_total : (job : List ℕ) (m : Memory) → RunsTo job m → (id : ℕ) → id < (job_of job).header.outcomes
    → get_or (run_reply job m).totals id 0 ≡ ones_to (job_of job).header.shots (bit_in (words_per_row (job_of job).header.shots) (run_reply job m).deltas id)
reply_total job m r id below = rw r.reply (finished_ones (job_of job).header m r.states id below)

-- ---- outcomes that no line records

module _ (h : Header) (id : ℕ) where
  -- a line changes the outcomes that are recorded up to it
  line_keeps : (r : ℕ) (l : Line) → LineSound h r l → r + recorded_by (Instruction.line l) ≤ id → (shot : ℕ) (s : State)
      → (forward (setting_of h shot) l s).deltas id ≡ s.deltas id
  unfolding LineSound recorded_by records forward
  line_keeps r (Line.unitary g qs) o k shot s = refl
  line_keeps r (Line.clifford qs t) o k shot s = refl
  line_keeps r (Line.pauli P) o k shot s = refl
  line_keeps r (Line.exponential P) o k shot s = refl
  line_keeps r (Line.controlled C T) o k shot s = refl
  line_keeps r (Line.permute p qs) o k shot s = refl
  line_keeps r (Line.measure P j) o k shot s = added_off s.deltas j _ id (λ (e : id ≡ j). omega (arith, o.outcome.next))
  line_keeps r (Line.allocate j angle) o k shot s = refl
  line_keeps r (Line.conditional P ids par) o k shot s = refl
  line_keeps r (Line.reset qs) o k shot s = refl
  line_keeps r (Line.inject at P) o k shot s = refl
  line_keeps r (Line.flip at j) o k shot s = added_off s.deltas j _ id (λ (e : id ≡ j). omega (arith, o.known))
  line_keeps r (Line.barrier qs) o k shot s = refl

  -- the outcome is flipped in no shot
  abbrev Off : States → Type 0
  Off states = (s : ℕ) → (states s).deltas id ≡ false

  unfoldable ExecutedOff : Executed → Type 0
  ExecutedOff Executed.spent = Unit
  ExecutedOff (Executed.done states ws) = Off states

  unfoldable EndedOff : Ended → Type 0
  EndedOff (Ended.spent_at k) = Unit
  EndedOff (Ended.ended states) = Off states

  module _ (lent : Lent) where
    shots_off : (n : Noise) (left shot : ℕ) (ws : List ℕ) (states : States) → Off states → ExecutedOff (inject_shots h lent n left shot ws states)
    unfolding inject_shots
    shots_off n zero shot ws states off = unfold ExecutedOff in off
    shots_off n (suc left) shot ws states off =
        go (draw_shot_of n (λ j. lent.noiseless j shot) ws) (λ rest states' off'. shots_off n left (suc shot) rest states' off')
      where
        go : (d : ShotDraw) → ((rest : List ℕ) (states' : States) → Off states' → ExecutedOff (inject_shots h lent n left (suc shot) rest states'))
            → ExecutedOff (then_in_place h n shot d states (inject_shots h lent n left (suc shot)))
        go ShotDraw.spent later = unfold then_in_place ExecutedOff in tt
        go (ShotDraw.drew none rest) later = unfold then_in_place in later rest states off
        go (ShotDraw.drew (some e) rest) later = unfold then_in_place in later rest _ (unfold forward_all forward in off)

    noise_off : (n : Noise) (ws : List ℕ) (states : States) → Off states → ExecutedOff (inject_noise h lent n ws states)
    unfolding inject_noise
    noise_off n ws states off = go (le (float n.probability) zero_float) (shots_off n lent.shots 0 ws states off)
      where
        go : (b : Bool) → ExecutedOff (inject_shots h lent n lent.shots 0 ws states)
            → ExecutedOff (cond b (Executed.done states ws) (inject_shots h lent n lent.shots 0 ws states))
        go true all = unfold ExecutedOff in off
        go false all = all

    main_off : (corr : Option ℕ) (main : List ℕ) (o : Executed) → ExecutedOff o → ExecutedOff (on_main corr main o)
    unfolding on_main ExecutedOff
    main_off corr main Executed.spent off = tt
    main_off corr main (Executed.done states left) off = off

    one_off : (r : ℕ) (main : List ℕ) (i : Instruction) (states : States) → InstructionSound h r i → r + recorded_by i ≤ id → Off states
        → ExecutedOff (execute_one h lent main i states)
    unfolding InstructionSound execute_one
    one_off r main (Instruction.line l) states o k off = unfold ExecutedOff forward_all in (λ s. line_keeps r l o k s (states s) ∙ off s)
    one_off r main (Instruction.noise n) states o k off = main_off _ main _ (noise_off n (part_of lent n.correlation main) states off)

    execute_off : (r : ℕ) (is : List Placed) (main : List ℕ) (states : States) → InstructionsSound h r is → r + recorded_in is ≤ id → Off states
        → EndedOff (execute h lent is main states)
    unfolding InstructionsSound recorded_in execute
    execute_off r [] main states o k off = unfold EndedOff in off
    execute_off r (i ∷ is) main states o k off =
        go (execute_one h lent main i.instruction states) (one_off r main i.instruction states o.0 (omega arith) off)
        (λ main' states' off'. execute_off (r + recorded_by i.instruction) is main' states' o.1 (omega arith) off')
      where
        go : (e : Executed) → ExecutedOff e → ((main' : List ℕ) (states' : States) → Off states' → EndedOff (execute h lent is main' states'))
            → EndedOff (execute_then i.line e (execute h lent is))
        go Executed.spent off later = unfold execute_then EndedOff in tt
        go (Executed.done states' main') off later = unfold execute_then in later main' states' (unfold ExecutedOff in off)

pub reply_unrecorded : (job : List ℕ) (m : Memory) → RunsTo job m → (id : ℕ) → recorded_in (job_of job).instructions ≤ id → id < (job_of job).header.outcomes
    → get_or (run_reply job m).totals id 0 ≡ 0
unfolding EndedOff
reply_unrecorded job m r id unrecorded below =
    let h = (job_of job).header in
    let lent = lent_of h m.source in
    let off = execute_off h id lent 0 (job_of job).instructions m.source.main starts (checked_sound job r.passes).instructions (omega arith) (λ s. unfold start noBits in refl) in
    let ends : (s : ℕ) → (r.states s).deltas id ≡ false = subst (EndedOff h id) r.ends off in
    rw r.reply (finished_total h m r.states id below ∙ ones_none h.shots _ (λ s _. ends s))
