-- Theorems: in a run of an accepted job, with the noise in place, each unitary line of the job conjugates the frames of all shots as demand 2 says. Their
-- proofs stand in Laws. Assumes nothing.
use Rattle.std.specs.Prelude.{◌≡◌, true, List, [], ◌∷◌, ◌++◌, ℕ}
use Rattle.std.proofs.Math.Path.{subst}
use Rattle.job.specs.Line.{Line, Instruction, Placed}
use Rattle.job.specs.Job.{job_of, check_job}
use Rattle.job.specs.Sound.{InstructionSound, InstructionsSound, LineSound}
use Rattle.job.proofs.Theorems.{checked_sound}
use Rattle.frames.specs.Conjugation.{Within, is_unitary_kind, IsConjugate}
use Rattle.frames.proofs.Theorems.{sound_conjugates}
use Rattle.draws.specs.Draws.{Lent}
use Rattle.draws.specs.Execute.{States, starts, forward_all, Ended, execute}
use Rattle.draws.proofs.Laws.Before.{instruction_behind, states_within, line_behind}

-- A run of an accepted job, whatever is lent for its shots, and the states that the instructions `before` leave, which no spent draws end.
module _ (job : List ℕ) (passes : (check_job job).number ≡ 0) (lent : Lent) (shots : lent.shots ≡ (job_of job).header.shots) (main : List ℕ)
    (before : List Placed) (states : States) (left : execute (job_of job).header lent before main starts ≡ Ended.ended states)
  where
    -- Before each instruction, and behind the last, the frame of every shot is one on the job's qubits,
    pub run_within : (after : List Placed) → (job_of job).instructions ≡ before ++ after → (shot : ℕ) → Within (job_of job).header.qubits (states shot).frame
    run_within after e shot = states_within job passes lent shots main before after e states left shot

    -- and where the instruction is a unitary line, the run goes on with the frame's conjugate by the line's unitary, in every shot.
    pub run_conjugated : (i : Placed) (after : List Placed) → (job_of job).instructions ≡ before ++ (i ∷ after) → (l : Line) → i.instruction ≡ Instruction.line l
        → is_unitary_kind l ≡ true
        → (next : States) × (execute (job_of job).header lent (before ++ (i ∷ [])) main starts ≡ Ended.ended next)
        × ((shot : ℕ) → IsConjugate (job_of job).header.qubits l (states shot).frame (next shot).frame)
    unfolding InstructionSound forward_all
    run_conjugated i after e l is-line kind =
        let h = (job_of job).header in
        let (r, sound) = instruction_behind h 0 before i after (subst (InstructionsSound h 0) e (checked_sound job passes).instructions) in
        let line : LineSound h r l = subst (InstructionSound h r) is-line sound in (
          forward_all h l states,
          line_behind h lent i l is-line states before main starts left,
          λ shot. sound_conjugates h r l line kind shot (states shot) (run_within (i ∷ after) e shot),
        )
