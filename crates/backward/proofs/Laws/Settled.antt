-- Laws: the lines to which the instructions of an accepted job settle are in range. Assumes nothing.
use Rattle.std.specs.Prelude.{◌≡◌, ℕ, ◌+◌, ◌≤◌}
use Rattle.std.proofs.Math.Path.{refl, subst}
use Rattle.std.proofs.Common.{sym}
use mathlib.Core.List.{List, [], ◌∷◌, ◌++◌}
use Rattle.job.specs.declared.Header.{Header}
use Rattle.job.specs.Line.{Line, Distribution, Instruction, Placed}
use Rattle.job.specs.Job.{recorded_by}
use Rattle.job.specs.InRange.{AllInRange}
use Rattle.job.specs.Sound.{InstructionSound, InstructionsSound}
use Rattle.job.proofs.Laws.Recorded.{instruction_within}
use Rattle.job.proofs.Laws.Range.{line_in_range}
use Rattle.draws.specs.Draws.{Lent, Fault}
use Rattle.draws.specs.Settle.{SettledLine, injection, Step, step_of, Settled, prefixed, settle_then, settle, settled_list}
use Rattle.draws.proofs.Laws.Settling.{settled_list_append}
use Rattle.draws.specs.Known.{Injections}
use Rattle.draws.proofs.Laws.Within.{injected, noise_injects}

pub append_in_range : (n m : ℕ) (ls ms : List Line) → AllInRange n m ls → AllInRange n m ms → AllInRange n m (ls ++ ms)
append_in_range n m [] ms a b = b
append_in_range n m (l ∷ ls) ms (f, a) b = (f, append_in_range n m ls ms a b)

injected_in_range : (n m : ℕ) (d : Distribution) (fs : List Fault) → AllInRange n m (injected d fs)
unfolding injection
injected_in_range n m d [] = tt
injected_in_range n m d (f ∷ fs) = (tt, injected_in_range n m d fs)

-- ---- an instruction, and a job

module _ (h : Header) where
  step_in_range : (r : ℕ) (lent : Lent) (main text : List ℕ) (i : Instruction) (ls : List SettledLine) (left : List ℕ) → r ≤ h.outcomes → InstructionSound h r i
      → step_of lent main text i ≡ Step.lines ls left → AllInRange h.qubits h.outcomes (settled_list ls)
  unfolding InstructionSound
  step_in_range r lent main text (Instruction.line l) ls left k s e =
      let own : record { line = l; text = text } ∷ [] ≡ ls = unfold step_of in cc in
      subst (λ (x : List SettledLine). AllInRange h.qubits h.outcomes (settled_list x)) own (line_in_range h r l s k, tt)
  step_in_range r lent main text (Instruction.noise n) ls left k s e =
      let i : Injections lent n ls = noise_injects lent main text n ls left e in
      subst (λ (x : List SettledLine). AllInRange h.qubits h.outcomes (settled_list x)) (sym i.are)
      (injected_in_range h.qubits h.outcomes n.distribution i.faults)

  unfoldable SettledInRange : Settled → Type 0
  SettledInRange (Settled.spent_at k) = Unit
  SettledInRange (Settled.settled ls) = AllInRange h.qubits h.outcomes (settled_list ls)

  settle_range : (r : ℕ) (lent : Lent) (main : List ℕ) (is : List Placed) → r ≤ h.outcomes → InstructionsSound h r is → SettledInRange (settle lent is main)
  unfolding settle InstructionsSound
  settle_range r lent main [] k s = unfold SettledInRange in tt
  settle_range r lent main (i ∷ is) k (first, rest) =
      go (step_of lent main i.text i.instruction) refl
      (λ left. settle_range (r + recorded_by i.instruction) lent left is next rest)
    where
      next : r + recorded_by i.instruction ≤ h.outcomes
      next = instruction_within h r i.instruction first k

      joined : (ls : List SettledLine) → AllInRange h.qubits h.outcomes (settled_list ls) → (o : Settled) → SettledInRange o → SettledInRange (prefixed ls o)
      joined ls a (Settled.spent_at n) b = unfold prefixed SettledInRange in tt
      joined ls a (Settled.settled ms) b =
          unfold prefixed SettledInRange in
          (rw (settled_list_append ls ms) (append_in_range h.qubits h.outcomes (settled_list ls) (settled_list ms) a b))

      go : (o : Step) → step_of lent main i.text i.instruction ≡ o → ((left : List ℕ) → SettledInRange (settle lent is left))
          → SettledInRange (settle_then i.line o (settle lent is))
      go Step.spent e ih = unfold settle_then SettledInRange in tt
      go (Step.lines ls left) e ih =
          unfold settle_then in
          joined ls (step_in_range r lent main i.text i.instruction ls left k first e) (settle lent is left) (ih left)

  pub settled_in_range : (r : ℕ) (lent : Lent) (main : List ℕ) (is : List Placed) (ls : List SettledLine) → r ≤ h.outcomes → InstructionsSound h r is
      → settle lent is main ≡ Settled.settled ls → AllInRange h.qubits h.outcomes (settled_list ls)
  unfolding SettledInRange
  settled_in_range r lent main is ls k s e = subst SettledInRange e (settle_range r lent main is k s)
