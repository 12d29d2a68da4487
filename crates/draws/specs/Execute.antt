-- Definitions. Execution with the noise in place, over all shots at once: an element that falls in a shot is injected before the next shot's words
-- are read. Assumes nothing.
use Rattle.std.specs.Prelude.{cond, List, [], ◌∷◌, ℕ, zero, suc}
use Rattle.std.proofs.Math.Option.{Option, none, some}
use Rattle.std.specs.Float.Ieee.{le}
use Rattle.job.specs.declared.Header.{Header}
use Rattle.job.specs.Line.{Line, Noise, Instruction, Placed}
use Rattle.job.specs.Float.{float, zero_float}
use Rattle.frames.specs.Forward.{State, setting_of, forward, start}
use Rattle.draws.specs.Draws.{Lent, element_at, ShotDraw, draw_shot_of, part_of, main_after}

-- the state of each shot
abbrev pub States : Type 0
States = ℕ → State

-- cleared frames and deltas of 0
abbrev pub starts : States
starts s = start

-- a line in all shots
unfoldable pub forward_all : Header → Line → States → States
forward_all h l states s = forward (setting_of h s) l (states s)

-- the states and the words left; or a word was needed past the end
pub data Executed : Type 0 where
  spent : Executed
  done : States → List ℕ → Executed

-- ---- a noise line

-- a shot's draw, and then those of the shots after it
unfoldable pub then_in_place : Header → Noise → ℕ → ShotDraw → States → (List ℕ → States → Executed) → Executed
then_in_place h n shot ShotDraw.spent states later = Executed.spent
then_in_place h n shot (ShotDraw.drew none ws) states later = later ws states
then_in_place h n shot (ShotDraw.drew (some e) ws) states later = later ws (forward_all h (Line.inject shot (element_at n.distribution e)) states)

-- so many shots, from one on, in rising order
unfoldable pub inject_shots : Header → Lent → Noise → ℕ → ℕ → List ℕ → States → Executed
inject_shots h lent n zero shot ws states = Executed.done states ws
inject_shots h lent n (suc left) shot ws states =
    then_in_place h n shot (draw_shot_of n (λ id. lent.noiseless id shot) ws) states (inject_shots h lent n left (suc shot))

-- With p at or below zero no word is read.
unfoldable pub inject_noise : Header → Lent → Noise → List ℕ → States → Executed
inject_noise h lent n ws states =
    let all = inject_shots h lent n lent.shots 0 ws states in
    cond (le (float n.probability) zero_float) (Executed.done states ws) all

-- ---- a job

unfoldable pub on_main : Option ℕ → List ℕ → Executed → Executed
on_main corr main Executed.spent = Executed.spent
on_main corr main (Executed.done states left) = Executed.done states (main_after corr main left)

unfoldable pub execute_one : Header → Lent → List ℕ → Instruction → States → Executed
execute_one h lent main (Instruction.line l) states = Executed.done (forward_all h l states) main
execute_one h lent main (Instruction.noise n) states =
    on_main n.correlation main (inject_noise h lent n (part_of lent n.correlation main) states)

-- the states at the end of the job, or the line of the noise whose draws were spent
pub data Ended : Type 0 where
  spent_at : ℕ → Ended
  ended : States → Ended

unfoldable pub execute_then : ℕ → Executed → (List ℕ → States → Ended) → Ended
execute_then k Executed.spent later = Ended.spent_at k
execute_then k (Executed.done states main) later = later main states

-- the instructions, with what is left of the main list
unfoldable pub execute : Header → Lent → List Placed → List ℕ → States → Ended
execute h lent [] main states = Ended.ended states
execute h lent (i ∷ is) main states = execute_then i.line (execute_one h lent main i.instruction states) (execute h lent is)
