-- The bytes of the table, line after line. Laws. Assumes nothing.
use Rattle.std.specs.Prelude.{ℕ, suc, ◌+◌, ◌*◌, ◌≤◌, ◌≡◌, refl, Bool, true, false, length, drop, Ok, Err}
use Rattle.std.proofs.Common.{add-one, sym, ◌∙◌, true≢false, drop_of_length-le}
use native.Mathlib.Omega.{arith}
use Rattle.std.proofs.Math.Path.{ap, subst}
use mathlib.Core.List.{List, [], ◌++◌}
use Rattle.std.proofs.Math.Option.{Option, some}
use Rattle.text.specs.Bytes.{pieces, lines}
use Rattle.text.specs.Template.{Value}
use Rattle.job.specs.Line.{Placed}
use Rattle.job.specs.Grammar.{NoiseLine, Written}
use Rattle.job.specs.Job.{Gathered, gather, gathered, check_job, job_of, Job}
use Rattle.job.proofs.Laws.Begun.{job_begun}
use Rattle.reader.specs.declared.Form.{Form}
use Rattle.reader.specs.Parsed.{Said}
use Rattle.instructions.specs.declared.LineRead.{LineRead}
use Rattle.instructions.specs.Reading.{line_at, NextLine, noise_form}
use Rattle.instructions.specs.Ahead.{instructions_at}
use Rattle.instructions.specs.Lines.{Left}
use Rattle.instructions.specs.Laws.Meaning.{Meaning, meaning}
use Rattle.instructions.specs.Laws.Lines.{here, line_read, left_all, left_more}
use Rattle.lines_back.specs.Laws.Forms.{noise_written}
use Rattle.single_faults.specs.Table.{first_wide}
use Rattle.fault_table.specs.Rows.{rows_bytes}
use Rattle.fault_table.specs.Laws.Putting.{rows_small}
use Rattle.fault_table.specs.Said.{wide_said, size_said}
use Rattle.fault_table.specs.Table.{table_bytes, wide_line, Measures}
use Rattle.fault_table.specs.Laws.Lines.{said_bytes, said_wide, said_split, noise_small}

-- ---- one line's bytes

pub noise_bytes : {f : Form} {fields : List ℕ} (groups k : ℕ) {r : ℕ} → noise_form f ≡ true
    → ((vs : List Value) (n : NoiseLine) → Said f fields vs (Written.noise n) → r ≡ n.size)
    → (vs : List Value) (w : Written) → Said f fields vs w → rows_bytes groups k r 0 ≡ rows_bytes groups k (size_said w) 0
unfolding size_said
noise_bytes {f} groups k e h vs w s =
    let (n, is) = noise_written (meaning f vs w s.says) e in
    ap (λ (m : ℕ). rows_bytes groups k m 0) (h vs n (subst (Said f _ vs) is s) ∙ sym (ap size_said is))

pub noise_few : {f : Form} {fields : List ℕ} {r : ℕ} → noise_form f ≡ true → ((vs : List Value) (n : NoiseLine) → Said f fields vs (Written.noise n) → r ≡ n.size)
    → ((vs : List Value) × (w : Written) × Said f fields vs w × (size_said w ≤ 255)) → r ≤ 255
unfolding size_said
noise_few {f} {fields} e h (vs, w, s, few) =
    let (n, is) = noise_written (meaning f vs w s.says) e in
    omega (arith, h vs n (subst (Said f fields vs) is s), ap size_said is, few)

quiet_size : {f : Form} {w : Written} → noise_form f ≡ false → Meaning f w → size_said w ≡ 0
unfolding size_said noise_form
quiet_size q (Meaning.header h e) = refl
quiet_size q (Meaning.edition_header h e) = refl
quiet_size q (Meaning.plain l e k) = refl
quiet_size q (Meaning.measure l e) = refl
quiet_size q (Meaning.allocate l e) = refl
quiet_size q (Meaning.alone n e t k) = absurd (true≢false (sym k ∙ q))
quiet_size q (Meaning.uniform n e t) = absurd (true≢false (sym (ap noise_form e) ∙ q))
quiet_size q (Meaning.weighted n e t) = absurd (true≢false (sym (ap noise_form e) ∙ q))
quiet_size q (Meaning.element P e) = refl
quiet_size q (Meaning.weighted_element v P e) = refl

pub no_bytes : {f : Form} {fields : List ℕ} (groups k : ℕ) → noise_form f ≡ false → (vs : List Value) (w : Written) → Said f fields vs w
    → 0 ≡ rows_bytes groups k (size_said w) 0
unfolding rows_bytes
no_bytes {f} groups k e vs w s = sym (ap (λ (m : ℕ). rows_bytes groups k m 0) (quiet_size e (meaning f vs w s.says)))

-- ---- the loop

-- the lines before `at` are counted
pub record Measuring (job : List ℕ) (groups k at bytes : ℕ) : Type 0 where
  pub left : Left job k at
  pub before : List Placed
  pub split : (job_of job).instructions ≡ before ++ instructions_at job k at
  pub wide : first_wide (job_of job).instructions ≡ first_wide (instructions_at job k at)
  pub count : bytes + table_bytes groups (instructions_at job k at) ≡ table_bytes groups (job_of job).instructions
  pub small : bytes ≤ at * 18870

module _ (job : List ℕ) (passes : (check_job job).number ≡ 0) (groups : ℕ) where
  pub all_at : instructions_at job 1 0 ≡ (job_of job).instructions
  unfolding instructions_at gathered gather
  all_at =
      let b = job_begun job passes in
      ap (λ (ls : List (List ℕ)). (gathered 1 ls).instructions) b.split
      ∙ ap (λ (o : Option Written). (gather 1 b.text o (gathered 2 b.rest)).instructions) b.reads
      ∙ ap (λ (j : Job). j.instructions) (sym b.is)

  pub measure_none : Measuring job groups 1 0 0
  measure_none =
      record {
        left = left_all job passes;
        before = [];
        split = sym all_at;
        wide = ap first_wide (sym all_at);
        count = rw all_at (omega arith);
        small = omega arith;
      }

  pub measure_ends : {k at bytes : ℕ} → Measuring job groups k at bytes → length job ≤ at → Measures job groups (Ok bytes)
  unfolding instructions_at pieces gathered table_bytes first_wide wide_line
  measure_ends {k} {at} {bytes} g h =
      let none : lines (drop at job) ≡ [] = ap lines (drop_of_length-le job h) in
      record {
        wide = g.wide ∙ ap (λ (ls : List (List ℕ)). first_wide (gathered k ls).instructions) none;
        bytes = λ n z. let same : bytes ≡ n = cc in let c = subst (λ (ls : List (List ℕ)). bytes + table_bytes groups (gathered k ls).instructions ≡ table_bytes groups (job_of job).instructions) none g.count in omega (arith, c, same);
      }

  module _ {k at bytes : ℕ} (g : Measuring job groups k at bytes) {next : LineRead} {fields : List ℕ} (n : NextLine job at next fields) where
    abbrev text : List ℕ
    text = line_at job at next.end

    abbrev said : Written
    said = (here g.left n).written

    abbrev behind : Gathered
    behind = gathered (suc k) (lines (drop (next.end + 1) job))

    from_here : instructions_at job k at ≡ (gather k text (some said) behind).instructions
    unfolding instructions_at gathered
    from_here =
        ap (λ (ls : List (List ℕ)). (gathered k ls).instructions) n.place.cut
        ∙ ap (λ (o : Option Written). (gather k text o behind).instructions) (here g.left n).reads

    module _ {b : Bool} (is : (vs : List Value) (w : Written) → Said next.form fields vs w → b ≡ wide_said w) where
      pub measure_wide : b ≡ true → Measures job groups (Err (record { line = k }))
      unfolding wide_line
      measure_wide e =
          let wide : wide_said said ≡ true = sym (is _ said (line_read g.left n).said) ∙ e in
          record {
            wide = g.wide ∙ ap first_wide from_here ∙ said_wide k text behind said ∙ rw wide refl;
            bytes = λ n z. cc;
          }

      module _ (e : b ≡ false) where
        narrow : wide_said said ≡ false
        narrow = sym (is _ said (line_read g.left n).said) ∙ e

        -- it has few rows
        small_here : size_said said ≤ 255
        small_here = go said refl
          where
            go : (w : Written) → said ≡ w → size_said w ≤ 255
            go (Written.header h) q = unfold size_said in omega arith
            go (Written.line l) q = unfold size_said in omega arith
            go (Written.noise m) q =
                unfold size_said wide_said in
                noise_small job passes k text behind g.before m
                (g.split ∙ ap (λ (is : List Placed). g.before ++ is) from_here ∙ ap (λ (w : Written). g.before ++ (gather k text (some w) behind).instructions) q)
                (sym (ap wide_said q) ∙ narrow)
            go (Written.element v P) q = unfold size_said in omega arith

        pub said_small : (vs : List Value) × (w : Written) × Said next.form fields vs w × (size_said w ≤ 255)
        said_small = ((line_read g.left n).values, said, (line_read g.left n).said, small_here)

        pub measure_more : {r : ℕ} → ((vs : List Value) (w : Written) → Said next.form fields vs w → r ≡ rows_bytes groups k (size_said w) 0) → groups ≤ 16
            → Measuring job groups (k + 1) (next.end + 1) (bytes + r)
        unfolding instructions_at
        measure_more {r} counts few =
            let rows : r ≡ rows_bytes groups k (size_said said) 0 = counts _ said (line_read g.left n).said in
            let more = said_split k text behind g.before said in
            rw (add-one k)
            (record {
              left = rw (add-one k) at (left_more g.left n);
              before = more.0;
              split = g.split ∙ ap (λ (is : List Placed). g.before ++ is) from_here ∙ more.1;
              wide = g.wide ∙ ap first_wide from_here ∙ said_wide k text behind said ∙ rw narrow refl;
              count =
                  let c : bytes + table_bytes groups (gather k text (some said) behind).instructions ≡ table_bytes groups (job_of job).instructions = rw from_here at g.count in
                  omega (arith, c, rows, said_bytes k text behind groups said);
              small = omega (arith, g.small, rows, rows_small groups k (size_said said) 0 few, small_here, n.place.begins);
            })

        -- and so has the job
        pub bytes_small : {r : ℕ} → ((vs : List Value) (w : Written) → Said next.form fields vs w → r ≡ rows_bytes groups k (size_said w) 0) → groups ≤ 16
            → bytes + r ≤ (at + 1) * 18870
        bytes_small {r} counts few =
            let rows : r ≡ rows_bytes groups k (size_said said) 0 = counts _ said (line_read g.left n).said in
            omega (arith, g.small, rows, rows_small groups k (size_said said) 0 few, small_here)
