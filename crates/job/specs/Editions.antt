-- Definitions that the theorems on editions use: a reader of the first edition (document 02, note 9). Assumes nothing.
use Rattle.std.specs.Prelude.{ℕ, suc, cond, List, [], ◌∷◌, eqb, take}
use Rattle.text.specs.Bytes.{bytes, lines}
use Rattle.job.specs.declared.Answer.{Answer}
use Rattle.job.specs.Grammar.{Form, forms, read_by}
use Rattle.job.specs.Checks.{Context, no_context_of, refusal_of}
use Rattle.job.specs.Job.{answer, accepted, well_ended_of, is_last, next_of}

-- The forms of the first edition: the table without the rows that the second edition adds, which are its last two (`second_rows`). Every header that
-- they read is of edition 1, so code 15 and a reset of several qubits are refused by 2 as well (`second_forms_two`).
unfoldable pub first_forms : List Form
first_forms = take 19 forms

-- the header with the field `edition`
abbrev pub edition_template : List ℕ
edition_template = bytes "op=job edition=N qubits=N outcomes=N shots=N"

-- The tests of a job by a reader that knows only these forms. With all forms they are checkLines and checkJob (`checked_by_forms`).
unfoldable pub check_lines_by : List Form → ℕ → Context → List (List ℕ) → Answer
check_lines_by fs k c [] = accepted
check_lines_by fs k c (l ∷ ls) =
    let said = read_by fs l in
    let number = refusal_of c (is_last ls) said in
    let later = check_lines_by fs (suc k) (next_of c said) ls in
    cond (eqb number 0) later (answer number k)

unfoldable pub check_job_by : List Form → List ℕ → Answer
check_job_by fs job = let all = check_lines_by fs 1 no_context_of (lines job) in cond (well_ended_of job) all (answer 1 0)
