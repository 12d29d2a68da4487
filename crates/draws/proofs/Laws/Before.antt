-- Laws: a run up to an instruction of an accepted job. Its instructions are sound, so are the lines to which they settle, and a line behind them acts on the
-- states that they leave. Assumes nothing.
use Rattle.std.specs.Prelude.{◌≡◌, ℕ, ◌+◌}
use Rattle.std.proofs.Math.Path.{refl, ap, subst}
use Rattle.std.proofs.Common.{sym, ◌∙◌}
use mathlib.Core.List.{List, [], ◌∷◌, ◌++◌}
use Rattle.text.specs.Bytes.{LF}
use Rattle.text.specs.Written.{Free}
use Rattle.job.specs.declared.Header.{Header}
use Rattle.job.specs.Line.{Line, Instruction, Placed}
use Rattle.job.specs.Job.{job_of, recorded_by, check_job}
use Rattle.job.specs.Sound.{Every, InstructionSound, InstructionsSound, SaidBy, LinesSound}
use Rattle.job.proofs.Theorems.{checked_sound}
use Rattle.frames.specs.Forward.{State, setting_of, run, start}
use Rattle.frames.specs.Conjugation.{Within}
use Rattle.frames.proofs.Laws.Within.{within_identity, lines_within}
use Rattle.draws.specs.Draws.{Lent}
use Rattle.draws.specs.Settle.{SettledLine, Settled, settle, settled_list}
use Rattle.draws.specs.Execute.{States, starts, forward_all, Executed, execute_one, Ended, execute_then, execute}
use Rattle.draws.specs.Known.{run_all, on_settled}
use Rattle.draws.proofs.Laws.Settling.{execute_settle, ended_apart, ended_same}
use Rattle.draws.proofs.Laws.SettledText.{settled_as, told_sound, job_free}

-- ---- some of the instructions

every_before : {A : Type 0} (P : A → Type 0) (before after : List A) → Every P (before ++ after) → Every P before
every_before P [] after e = tt
every_before P (a ∷ before) after e = (e.0, every_before P before after e.1)

instructions_before : (h : Header) (r : ℕ) (before after : List Placed) → InstructionsSound h r (before ++ after) → InstructionsSound h r before
unfolding InstructionsSound
instructions_before h r [] after s = tt
instructions_before h r (i ∷ before) after s = (s.0, instructions_before h (r + recorded_by i.instruction) before after s.1)

-- the instruction behind some others, with the outcomes that those record
pub instruction_behind : (h : Header) (r : ℕ) (before : List Placed) (i : Placed) (after : List Placed) → InstructionsSound h r (before ++ (i ∷ after))
    → (k : ℕ) × InstructionSound h k i.instruction
unfolding InstructionsSound
instruction_behind h r [] i after s = (r, s.0)
instruction_behind h r (j ∷ before) i after s = instruction_behind h (r + recorded_by j.instruction) before i after s.1

-- ---- the frames that they leave

module _ (job : List ℕ) (passes : (check_job job).number ≡ 0) (lent : Lent) (shots : lent.shots ≡ (job_of job).header.shots) (main : List ℕ) where
  abbrev h : Header
  h = (job_of job).header

  lines_before : (before after : List Placed) → (job_of job).instructions ≡ before ++ after → (ls : List SettledLine) → settle lent before main ≡ Settled.settled ls
      → LinesSound h 0 (settled_list ls)
  lines_before before after e ls settles =
      let sound = checked_sound job passes in
      told_sound h 0 ls
      (settled_as h sound.header 0 lent main before ls shots (instructions_before h 0 before after (subst (InstructionsSound h 0) e sound.instructions))
      (every_before _ before after (subst (Every (λ (p : Placed). SaidBy p.text p.instruction)) e sound.texts))
      (every_before _ before after (subst (Every (λ (p : Placed). Free LF p.text)) e (job_free job passes).1)) settles).told

  pub states_within : (before after : List Placed) → (job_of job).instructions ≡ before ++ after → (states : States) → execute h lent before main starts ≡ Ended.ended states
      → (shot : ℕ) → Within h.qubits (states shot).frame
  unfolding on_settled run_all
  states_within before after e states ends shot = go (settle lent before main) refl (sym (execute_settle h lent before main starts) ∙ ends)
    where
      go : (o : Settled) → settle lent before main ≡ o → on_settled h starts o ≡ Ended.ended states → Within h.qubits (states shot).frame
      go (Settled.spent_at k) settles p = absurd (ended_apart k states p)
      go (Settled.settled ls) settles p =
          let ran : run (setting_of h shot) (settled_list ls) start ≡ states shot = ap (λ (t : States). t shot) (ended_same _ states p) in
          subst (λ (s : State). Within h.qubits s.frame) ran
          (lines_within h 0 shot (settled_list ls) (lines_before before after e ls settles) start (unfold start in within_identity h.qubits))

-- ---- a line behind them

module _ (h : Header) (lent : Lent) (i : Placed) (l : Line) (is-line : i.instruction ≡ Instruction.line l) (states : States) where
  pub line_behind : (before : List Placed) (main : List ℕ) (from : States) → execute h lent before main from ≡ Ended.ended states
      → execute h lent (before ++ (i ∷ [])) main from ≡ Ended.ended (forward_all h l states)
  unfolding execute
  line_behind [] main from e = rw is-line (unfold execute_one execute_then in ap (λ (s : States). Ended.ended (forward_all h l s)) (ended_same from states e))
  line_behind (j ∷ before) main from e = go (execute_one h lent main j.instruction from) e (line_behind before)
    where
      go : (o : Executed) → execute_then j.line o (execute h lent before) ≡ Ended.ended states
          → ((main : List ℕ) (from : States) → execute h lent before main from ≡ Ended.ended states → execute h lent (before ++ (i ∷ [])) main from ≡ Ended.ended (forward_all h l states))
          → execute_then j.line o (execute h lent (before ++ (i ∷ []))) ≡ Ended.ended (forward_all h l states)
      go Executed.spent p ih = unfold execute_then in cc
      go (Executed.done s left) p ih = unfold execute_then in ih left s (unfold execute_then in p)
