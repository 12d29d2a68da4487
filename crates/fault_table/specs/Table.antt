-- The table's bytes, and what its loops begin with. Definitions. Assumes nothing.
use Rattle.std.specs.Prelude.{ℕ, ◌+◌, ◌*◌, ◌≤◌, ◌≡◌, true, List, [], ◌∷◌, map, length, Result, Ok, Err}
use Rattle.std.proofs.Math.Option.{Option, none, some}
use Rattle.text.specs.Bytes.{lines}
use Rattle.job.specs.Line.{Instruction, Placed}
use Rattle.job.specs.Grammar.{Written}
use Rattle.job.specs.Job.{check_job, job_of, recorded_in}
use Rattle.single_faults.specs.Groups.{Groups, groups_of, all_recorded}
use Rattle.single_faults.specs.Table.{first_wide}
use Rattle.fault_table.specs.Lent.{all_carried, start_of}
use Rattle.fault_table.specs.Rows.{rows_bytes}
use Rattle.fault_table.specs.declared.WideLine.{WideLine}

-- ---- bytes

-- of an instruction's rows, for so many groups
unfoldable pub instruction_bytes : ℕ → ℕ → Instruction → ℕ
instruction_bytes groups line (Instruction.line l) = 0
instruction_bytes groups line (Instruction.noise n) = rows_bytes groups line n.size 0

unfoldable pub table_bytes : ℕ → List Placed → ℕ
table_bytes groups [] = 0
table_bytes groups (i ∷ is) = instruction_bytes groups i.line i.instruction + table_bytes groups is

-- the line that is too wide, if one was found
unfoldable pub wide_line : Result ℕ WideLine → Option ℕ
wide_line (Ok n) = none
wide_line (Err w) = some w.line

-- the first line that is too wide was found, or the bytes of the table counted
pub record Measures (job : List ℕ) (groups : ℕ) (r : Result ℕ WideLine) : Type 0 where
  pub wide : first_wide (job_of job).instructions ≡ wide_line r
  pub bytes : (n : ℕ) → r ≡ Ok n → n ≡ table_bytes groups (job_of job).instructions

-- ---- going back

-- how many elements stand behind a line and before the next instruction
unfoldable pub kept_after_of : Written → ℕ → ℕ
kept_after_of (Written.header h) n = n
kept_after_of (Written.line l) n = 0
kept_after_of (Written.noise m) n = 0
kept_after_of (Written.element v P) n = n + 1

-- a list of groups that passed 17 and 24, beside an accepted job
pub record Grouped (job : List ℕ) (count : ℕ) (list : List ℕ) (groups : ℕ) : Type 0 where
  pub passes : (check_job job).number ≡ 0
  pub lines_in : count ≡ length (lines job)
  pub are : List (List ℕ)
  pub listed : groups_of list ≡ Groups.whole are
  pub known : all_recorded (recorded_in (job_of job).instructions) are ≡ true
  pub many : groups ≡ length are
  pub few : groups ≤ 16

-- the words of the groups before any line, and as many bytes as the table has
pub record TableReady (job : List ℕ) (count : ℕ) (state : List ℕ) (groups : ℕ) (out : List ℕ) : Type 0 where
  pub passes : (check_job job).number ≡ 0
  pub lines_in : count ≡ length (lines job)
  pub are : List (List ℕ)
  pub many : groups ≡ length are
  pub few : groups ≤ 16
  pub words : length state ≡ groups * 24
  pub started : all_carried groups state ≡ map start_of are
  pub narrow : first_wide (job_of job).instructions ≡ none
  pub long : length out ≡ table_bytes groups (job_of job).instructions
