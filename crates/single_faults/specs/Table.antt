-- Definitions. The table of single faults (document 02, note 13): what each element of each noise line does to each group of outcomes, as the only
-- injection. Assumes nothing.
use Rattle.std.specs.Prelude.{Bool, cond, List, [], ◌∷◌, ◌++◌, map, ℕ, zero, suc, eqb, leb, length}
use Rattle.std.proofs.Math.Option.{Option, none, some}
use Rattle.text.specs.Bytes.{bytes, unlines}
use Rattle.text.specs.Template.{Value, line_text}
use Rattle.pauli.specs.Bits.{none as noShots, sum_over}
use Rattle.job.specs.declared.Header.{Header}
use Rattle.job.specs.Line.{SparsePauli, Line, Distribution, size_of, Instruction, Placed}
use Rattle.job.specs.Job.{answer, Job, job_of, recorded_in, check_job}
use Rattle.job.specs.Reply.{TextReply, refused_text, text_fits_of, written_text}
use Rattle.frames.specs.Forward.{State, setting_of, run, start}
use Rattle.frames.specs.Shots.{restricted}
use Rattle.draws.specs.Draws.{element_at}
use Rattle.backward.specs.Walking.{plain_lines}
use Rattle.single_faults.specs.Groups.{Groups, groups_of, all_recorded, groups_fit}

-- ---- one fault

-- the lines of some instructions, with noise, injections and flips counted as absent
unfoldable pub quiet_lines : List Placed → List Line
quiet_lines is = restricted noShots (plain_lines is)

-- a shot at the end of the job, with P as the only injection, placed between the instructions before it and those after it
unfoldable pub faulted : Header → ℕ → List Placed → SparsePauli → List Placed → State
faulted h shot before P after = run (setting_of h shot) (quiet_lines before ++ Line.inject shot P ∷ quiet_lines after) start

-- whether the deltas of a group then sum to 1
unfoldable pub flips : Header → ℕ → List Placed → SparsePauli → List Placed → List ℕ → Bool
flips h shot before P after group = sum_over group (faulted h shot before P after).deltas

-- ---- the table

-- a character for each group, first group first; the shot is the first, and any other gives the same (Theorems, table-any-shot)
unfoldable pub marks : Header → List Placed → SparsePauli → List Placed → List (List ℕ) → List ℕ
marks h before P after groups = map (λ (g : List ℕ). cond (flips h 0 before P after g) 49 48) groups

-- `line=L el=I groups=G`: the job's line, the element's number from 0
unfoldable pub row_text : ℕ → ℕ → List ℕ → List ℕ
row_text line e characters = line_text (bytes "line=N el=N groups=") (Value.number line ∷ Value.number e ∷ []) ++ characters

module _ (h : Header) (groups : List (List ℕ)) where
  -- so many elements of a distribution, from number e on
  unfoldable pub element_rows : ℕ → List Placed → Distribution → List Placed → ℕ → ℕ → List (List ℕ)
  element_rows line before d after zero e = []
  element_rows line before d after (suc left) e =
      row_text line e (marks h before (element_at d e) after groups) ∷ element_rows line before d after left (suc e)

  -- the rows of an instruction: a noise line has one for each element
  unfoldable pub rows_of : ℕ → List Placed → Instruction → List Placed → List (List ℕ)
  rows_of line before (Instruction.line l) after = []
  rows_of line before (Instruction.noise n) after = element_rows line before n.distribution after (size_of n.distribution) 0

  -- the rows of some instructions, behind those before them
  unfoldable pub rows_from : List Placed → List Placed → List (List ℕ)
  rows_from before [] = []
  rows_from before (i ∷ is) = rows_of i.line before i.instruction is ++ rows_from (before ++ i ∷ []) is

unfoldable pub table_text : Job → List (List ℕ) → List ℕ
table_text j groups = unlines (rows_from j.header groups [] j.instructions)

-- ---- the call

-- 24: d=2 over more than 4 qubits; the first such noise line
abbrev pub most_spread : ℕ
most_spread = 4

unfoldable pub is_wide : Distribution → Bool
is_wide (Distribution.single P) = Bool.false
is_wide (Distribution.depolarizing qs) = leb (suc most_spread) (length qs)
is_wide (Distribution.uniform Ps) = Bool.false
is_wide (Distribution.weighted es) = Bool.false

unfoldable pub wide_first : ℕ → Instruction → Option ℕ → Option ℕ
wide_first k (Instruction.line l) later = later
wide_first k (Instruction.noise n) later = cond (is_wide n.distribution) (some k) later

unfoldable pub first_wide : List Placed → Option ℕ
first_wide [] = none
first_wide (i ∷ is) = wide_first i.line i.instruction (first_wide is)

-- 15, with a figure of 0
unfoldable pub table_answer : List ℕ → Option ℕ → List ℕ → TextReply
table_answer text (some k) out = refused_text (answer 24 k) out
table_answer text none out = cond (text_fits_of text out) (written_text text out) (refused_text (answer 15 0) out)

-- 17 for all groups, then 24: their number, then the noise lines
unfoldable pub groups_answer : Job → Groups → List ℕ → TextReply
groups_answer j Groups.cut_short out = refused_text (answer 17 0) out
groups_answer j (Groups.whole groups) out =
    let answered = table_answer (table_text j groups) (first_wide j.instructions) out in
    let fitting = cond (groups_fit groups) answered (refused_text (answer 24 0) out) in
    cond (all_recorded (recorded_in j.instructions) groups) fitting (refused_text (answer 17 0) out)

-- The tests of a job, then 17, 24 and 15.
unfoldable pub table_reply : List ℕ → List ℕ → List ℕ → TextReply
table_reply job list out =
    let answered = groups_answer (job_of job) (groups_of list) out in
    cond (eqb (check_job job).number 0) answered (refused_text (check_job job) out)
