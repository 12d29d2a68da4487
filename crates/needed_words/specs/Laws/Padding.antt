-- Execution from cleared frames and deltas leaves every shot past the last one as it began. Laws. Assumes nothing.
use Prim.Native.Nat.{◌+◌}
use Rattle.std.specs.Prelude.{◌≡◌, List, [], ◌∷◌, ℕ, ◌≤◌, ltb}
use Rattle.job.specs.Job.{recorded_by}
use Rattle.std.proofs.Math.Path.{refl}
use Rattle.std.proofs.Common.{sym, ap, ◌∙◌, arith, lt-ltb}
use Rattle.std.proofs.Math.Bool.{true}
use Rattle.job.specs.declared.Header.{Header}
use Rattle.job.specs.Line.{Line, Instruction, Placed}
use Rattle.job.specs.Sound.{LineSound, InstructionSound, InstructionsSound}
use Rattle.frames.specs.Forward.{setting_of, start}
use Rattle.frames.specs.Shots.{concerns}
use Rattle.frames.proofs.ShotTheorems.{padding}
use Rattle.draws.specs.Draws.{Lent}
use Rattle.draws.specs.Settle.{Settled, settle, settled_list}
use Rattle.draws.specs.Execute.{States, starts, Ended, execute}
use Rattle.draws.proofs.Laws.Settling.{execute_settle}
use Rattle.draws.specs.Known.{own_below_of, all_own_below, run_all, on_settled}
use Rattle.draws.proofs.Laws.Within.{settle_within}

-- ---- the injections and flips of an accepted job are in its shots

line_below : (h : Header) (r : ℕ) (l : Line) → LineSound h r l → concerns (λ shot. ltb shot h.shots) l ≡ true
unfolding LineSound concerns
line_below h r (Line.unitary g qs) s = refl
line_below h r (Line.clifford qs t) s = refl
line_below h r (Line.pauli P) s = refl
line_below h r (Line.exponential P) s = refl
line_below h r (Line.controlled C T) s = refl
line_below h r (Line.permute p qs) s = refl
line_below h r (Line.measure P id) s = refl
line_below h r (Line.allocate id angle) s = refl
line_below h r (Line.conditional P ids par) s = refl
line_below h r (Line.reset qs) s = refl
line_below h r (Line.inject shot P) s = lt-ltb shot h.shots s.within
line_below h r (Line.flip shot id) s = lt-ltb shot h.shots s.within
line_below h r (Line.barrier qs) s = refl

own_below : (h : Header) (r : ℕ) (i : Instruction) → InstructionSound h r i → own_below_of h.shots i ≡ true
unfolding InstructionSound own_below_of
own_below h r (Instruction.line l) s = line_below h r l s
own_below h r (Instruction.noise n) s = refl

all_below_lem : (h : Header) (r : ℕ) (is : List Placed) → InstructionsSound h r is → all_own_below h.shots is ≡ true
unfolding InstructionsSound all_own_below
all_below_lem h r [] s = refl
all_below_lem h r (i ∷ is) s = rw (own_below h r i.instruction s.0, all_below_lem h (r + recorded_by i.instruction) is s.1)

-- ---- the states at the end

module _ (h : Header) (lent : Lent) (is : List Placed) (main : List ℕ) (states : States) where
  pub past_shots : lent.shots ≡ h.shots → InstructionsSound h 0 is → execute h lent is main starts ≡ Ended.ended states → (s : ℕ) → h.shots ≤ s
      → states s ≡ start
  unfolding on_settled run_all
  past_shots same sound e s past = go (settle lent is main) refl (sym (execute_settle h lent is main starts) ∙ e)
    where
      own : all_own_below lent.shots is ≡ true
      own = rw same (all_below_lem h 0 is sound)

      go : (o : Settled) → settle lent is main ≡ o → on_settled h starts o ≡ Ended.ended states → states s ≡ start
      go (Settled.spent_at k) p q = let z : ◌≡◌ {A = ℕ} 0 1 = cc in absurd (omega arith)
      go (Settled.settled ls) p q =
          let all : run_all h (settled_list ls) starts ≡ states = cc in
          sym (ap (λ (t : States). t s) all) ∙ padding (setting_of h s) (settled_list ls) lent.shots (settle_within lent main is ls own p) (rw same past)
