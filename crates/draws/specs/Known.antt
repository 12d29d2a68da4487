-- Definitions that theorems on draws and settling use. Assumes nothing.
use Rattle.std.specs.Prelude.{◌≡◌, Bool, true, false, cond, ◌&&◌, ◌||◌, List, [], ◌∷◌, ◌++◌, map, ℕ, suc, ◌-◌, ◌<◌, ◌≤◌, min, ltb, length, get_or, Float}
use Rattle.std.specs.Float.Ieee.{lt}
use Rattle.text.specs.List.{is_rising_of}
use Rattle.job.specs.declared.Header.{Header}
use Rattle.job.specs.Float.{zero_float}
use Rattle.job.specs.Line.{Line, Noise, Instruction, Placed}
use Rattle.job.specs.Checks.{all_below}
use Rattle.frames.specs.Forward.{setting_of, run}
use Rattle.frames.specs.Shots.{concerns}
use Rattle.draws.specs.Draws.{is_positive, Lent, Fault, Draws, draw_line, part_of}
use Rattle.draws.specs.Settle.{SettledLine, injection, Step, step_of, Settled, settle, settled_list}
use Rattle.draws.specs.Execute.{States, Ended}

-- ---- execution by the settled list

-- a list of lines in all shots
unfoldable pub run_all : Header → List Line → States → States
run_all h ls states s = run (setting_of h s) ls (states s)

-- the end of a job that settles so
unfoldable pub on_settled : Header → States → Settled → Ended
on_settled h states (Settled.spent_at k) = Ended.spent_at k
on_settled h states (Settled.settled ls) = Ended.ended (run_all h (settled_list ls) states)

-- ---- words

-- what is left of the main list after an instruction, and after some instructions; where draws are spent, what was there
unfoldable pub left_by : List ℕ → Step → List ℕ
left_by main Step.spent = main
left_by main (Step.lines ls left) = left

unfoldable pub main_left : Lent → List ℕ → List Placed → List ℕ
main_left lent main [] = main
main_left lent main (i ∷ is) = main_left lent (left_by main (step_of lent main i.text i.instruction)) is

-- The line at which draws are spent: the instructions before it settle; it is noise, in line k, and needs a word past its part of the lists.
pub record SpentAt (lent : Lent) (main : List ℕ) (is : List Placed) (k : ℕ) : Type 0 where
  pub before : List Placed
  pub here : Placed
  pub after : List Placed
  pub noise : Noise
  pub lines : List SettledLine
  pub list : is ≡ before ++ (here ∷ after)
  pub line : here.line ≡ k
  pub is_noise : here.instruction ≡ Instruction.noise noise
  pub settles : settle lent before main ≡ Settled.settled lines
  pub spent : draw_line lent noise (part_of lent noise.correlation (main_left lent main before)) ≡ Draws.spent

-- more words behind the second list
abbrev pub lengthened : List ℕ → Lent → Lent
lengthened us lent = record { noiseless = lent.noiseless; second = lent.second ++ us; base = lent.base; shots = lent.shots }

-- ---- weights

-- a place of the list whose weight is positive
pub record PositiveAt (ws : List Float) (i : ℕ) : Type 0 where
  pub below : i < length ws
  pub positive : is_positive (get_or ws i zero_float) ≡ true

-- how many running sums, from the first on, are below u
unfoldable pub below_unit : Float → List Float → ℕ
below_unit u [] = 0
below_unit u (s ∷ sums) = let more = suc (below_unit u sums) in cond (lt s u) more 0

-- the Rust's choice: the first place whose running sum isn't below u, else the last
abbrev pub rust_place : Float → List Float → ℕ
rust_place u sums = min (below_unit u sums) (length sums - 1)

-- there is a positive weight
unfoldable pub any_positive_of : List Float → Bool
any_positive_of [] = false
any_positive_of (w ∷ ws) = any_positive_of ws || is_positive w

-- ---- faults

abbrev pub shots_of : List Fault → List ℕ
shots_of = map (λ (f : Fault). f.shot)

abbrev pub elements_of : List Fault → List ℕ
elements_of = map (λ (f : Fault). f.element)

-- a list as a line of the job may hold it: strictly rising, its qubits below n, and at most so many
pub record Writable (n most : ℕ) (l : List ℕ) : Type 0 where
  pub rises : is_rising_of l ≡ true
  pub below : all_below n l ≡ true
  pub short : length l ≤ most

-- the lines are injections in shots of the job, by the distribution of the noise
pub record Injections (lent : Lent) (n : Noise) (ls : List SettledLine) : Type 0 where
  pub faults : List Fault
  pub are : ls ≡ map (injection n.distribution) faults
  pub below : all_below lent.shots (shots_of faults) ≡ true

-- ---- the job's own lines

-- whether a job's own lines act in shots below so many, as test 10 wants it
unfoldable pub own_below_of : ℕ → Instruction → Bool
own_below_of shots (Instruction.line l) = concerns (λ shot. ltb shot shots) l
own_below_of shots (Instruction.noise n) = true

unfoldable pub all_own_below : ℕ → List Placed → Bool
all_own_below shots [] = true
all_own_below shots (i ∷ is) = own_below_of shots i.instruction && all_own_below shots is

-- no instruction is noise
unfoldable pub is_line : Instruction → Bool
is_line (Instruction.line l) = true
is_line (Instruction.noise n) = false

unfoldable pub noise_free : List Placed → Bool
noise_free [] = true
noise_free (i ∷ is) = is_line i.instruction && noise_free is

-- the lines of a job without noise, with their texts
unfoldable pub copy_of : List ℕ → Instruction → List SettledLine → List SettledLine
copy_of text (Instruction.line l) later = record { line = l; text = text } ∷ later
copy_of text (Instruction.noise n) later = later

unfoldable pub copies : List Placed → List SettledLine
copies [] = []
copies (i ∷ is) = copy_of i.text i.instruction (copies is)
