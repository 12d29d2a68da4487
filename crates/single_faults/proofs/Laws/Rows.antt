-- Laws: the rows of the table are those by what is carried back alone. Assumes nothing.
use Rattle.std.specs.Prelude.{◌≡◌, Bool, true, ◌&&◌}
use Rattle.std.proofs.Math.Path.{refl, sym, ap, ap₂}
use Rattle.std.proofs.Common.{◌∙◌}
use Rattle.std.proofs.Math.Bool.{cond}
use mathlib.Core.List.{List, [], ◌∷◌, ◌++◌}
use Prim.Native.Nat.{ℕ, zero, suc}
use Rattle.text.specs.Bytes.{unlines}
use Rattle.text.specs.List.{is_rising_of}
use Rattle.text.proofs.Laws.Values.{both}
use Rattle.job.specs.declared.Header.{Header}
use Rattle.job.specs.Line.{SparsePauli, Distribution, size_of, Instruction, Placed}
use Rattle.job.specs.Checks.{all_below}
use Rattle.job.specs.Job.{job_of, recorded_in, check_job}
use Rattle.draws.specs.Draws.{element_at}
use Rattle.single_faults.specs.Groups.{all_recorded}
use Rattle.single_faults.specs.Table.{marks, row_text, element_rows, rows_of, rows_from, table_text}
use Rattle.single_faults.specs.Carried.{rows_by, mark_by, carried_to, carried_marks, carried_rows_of, carried_rows}
use Rattle.single_faults.proofs.Laws.Quiet.{append_one}
use Rattle.single_faults.proofs.Theorems.{table_carried}

module _ (job : List ℕ) (accepted : (check_job job).number ≡ 0) where
  abbrev h : Header
  h = (job_of job).header

  abbrev r : ℕ
  r = recorded_in (job_of job).instructions

  module _ (before after : List Placed) (i : Placed) (cut : (job_of job).instructions ≡ before ++ i ∷ after) (P : SparsePauli) where
    same_marks : (groups : List (List ℕ)) → all_recorded r groups ≡ true → marks h before P after groups ≡ carried_marks h groups after P
    unfolding marks carried_marks mark_by carried_to all_recorded
    same_marks [] known = refl
    same_marks (g ∷ gs) known =
        let (first, rest) = both (is_rising_of g && all_below r g) (all_recorded r gs) known in
        let (rising, below) = both (is_rising_of g) (all_below r g) first in
        ap₂ (λ (b : Bool) (cs : List ℕ). cond b 49 48 ∷ cs) (table_carried job accepted before after i cut P g rising below 0) (same_marks gs rest)

  module _ (groups : List (List ℕ)) (known : all_recorded r groups ≡ true) where
    same_elements : (before after : List Placed) (i : Placed) → (job_of job).instructions ≡ before ++ i ∷ after → (line : ℕ) (d : Distribution) (left e : ℕ)
        → element_rows h groups line before d after left e ≡ rows_by line (λ (k : ℕ). carried_marks h groups after (element_at d k)) left e
    unfolding element_rows rows_by
    same_elements before after i cut line d zero e = refl
    same_elements before after i cut line d (suc left) e =
        ap₂ (λ (cs : List ℕ) (rows : List (List ℕ)). row_text line e cs ∷ rows) (same_marks before after i cut (element_at d e) groups known)
        (same_elements before after i cut line d left (suc e))

    same_rows : (before is : List Placed) → (job_of job).instructions ≡ before ++ is → rows_from h groups before is ≡ carried_rows h groups is
    unfolding rows_from carried_rows rows_of carried_rows_of
    same_rows before [] cut = refl
    same_rows before (i ∷ is) cut =
        ap₂ ◌++◌ (go i.instruction) (same_rows (before ++ i ∷ []) is (cut ∙ sym (append_one before i is)))
      where
        go : (j : Instruction) → rows_of h groups i.line before j is ≡ carried_rows_of h groups i.line j is
        go (Instruction.line l) = refl
        go (Instruction.noise n) = same_elements before is i cut i.line n.distribution (size_of n.distribution) 0

    -- The table is written by what is carried back alone.
    pub table_rows : table_text (job_of job) groups ≡ unlines (carried_rows h groups (job_of job).instructions)
    unfolding table_text
    table_rows = ap unlines (same_rows [] (job_of job).instructions refl)
