-- A header with the field `edition` has no form of the first edition: laws. Assumes nothing.
use Rattle.std.specs.Prelude.{ℕ, suc, Bool, true, false, cond, not, ◌&&◌, List, [], ◌∷◌, ◌++◌, eqb, leb, length, drop}
use Rattle.std.proofs.Common.{arith, sym, ap, subst, ◌∙◌, true≢false, take-append-drop}
use Rattle.std.proofs.Math.Path.{◌≡◌, refl}
use Rattle.std.proofs.Math.Option.{Option, none, some}
use Rattle.pauli.specs.Gate.{Gate}
use Rattle.text.specs.Bytes.{bytes, behind, lines}
use Rattle.text.proofs.Laws.Places.{literals}
use Rattle.text.specs.Template.{Value, values_of, number_at, list_at_of}
use Rattle.job.specs.declared.Header.{Header}
use Rattle.job.specs.declared.Answer.{Answer}
use Rattle.job.specs.Clifford.{max_clifford_qubits, table_words_of}
use Rattle.job.specs.Grammar.{Kind, Written, is_one, unitary_line, clifford_line, noise_line, Form, forms, said, or_later, read_by, read_line_of}
use Rattle.job.specs.Checks.{Context, no_context_of, refusal_of}
use Rattle.job.specs.Job.{answer, well_ended_of, is_last, next_of, check_lines_of, check_job, header_of, job_of_lines, job_of}
use Rattle.job.specs.Marks.{mark_of}
use Rattle.job.specs.Editions.{first_forms, edition_template, check_lines_by, check_job_by}
use Rattle.job.specs.Sound.{Every}
use Rattle.job.proofs.Laws.Dispatch.{has_mark, mark_same, without, marked, no_form}

-- ---- the field

edition_marked : has_mark edition_template ≡ true
unfolding has_mark behind literals bytes
edition_marked = refl

first_marked : marked first_forms ≡ true
unfolding marked without has_mark mark_of behind literals first_forms forms bytes
first_marked = refl

-- no form of the first edition has the mark of such a header
first_without : without (mark_of edition_template) first_forms ≡ true
unfolding without mark_of behind first_forms forms bytes
first_without = refl

pub field_unread : (l : List ℕ) (v : List Value) → values_of edition_template l ≡ some v → read_by first_forms l ≡ none
field_unread l v e =
    no_form first_forms l first_marked
    (subst (λ (k : ℕ). without k first_forms ≡ true) (sym (mark_same edition_template l v edition_marked e)) first_without)

pub field_refused : (job text : List ℕ) (rest : List (List ℕ)) (v : List Value) → well_ended_of job ≡ true → lines job ≡ text ∷ rest
    → values_of edition_template text ≡ some v → check_job_by first_forms job ≡ answer 2 1
unfolding check_job_by check_lines_by refusal_of
field_refused job text rest v ended split e = rw (ended, split, field_unread text v e) refl

-- ---- the edition

-- a line that says a header of the second edition
is_second_header : Option Written → Bool
is_second_header none = false
is_second_header (some (Written.header h)) = eqb h.edition 2
is_second_header (some (Written.line l)) = false
is_second_header (some (Written.noise n)) = false
is_second_header (some (Written.element w P)) = false

-- a form that says none
NoneSecond : Form → Type 0
NoneSecond f = (v : List Value) → is_second_header (f.says v) ≡ false

unless : (b : Bool) (w : Written) → is_second_header (some w) ≡ false → is_second_header (cond b none (some w)) ≡ false
unfolding is_second_header
unless true w e = refl
unless false w e = e

of_gate : (g : Option Gate) (qs : List ℕ) → is_second_header (unitary_line g qs) ≡ false
unfolding unitary_line is_second_header
of_gate none qs = refl
of_gate (some g) qs = refl

of_clifford : (qs ws : List ℕ) → is_second_header (clifford_line qs ws) ≡ false
unfolding clifford_line
of_clifford qs ws = unless (leb (length qs) max_clifford_qubits && not (eqb (length ws) (table_words_of (length qs)))) _ (unfold is_second_header in refl)

of_noise : (kind : Kind) (size : ℕ) (v : List Value) → is_second_header (noise_line kind size v) ≡ false
unfolding noise_line
of_noise kind size v = unless (eqb (length (list_at_of 1 v)) 0 && is_one (number_at 1 v)) _ (unfold is_second_header in refl)

also : {A B : Type 0} → A → B → A × B
also a b = (a, b)

-- no form of the first edition says a header of the second
none_second : Every NoneSecond first_forms
unfolding first_forms forms NoneSecond is_second_header bytes
none_second =
    also (λ v. refl)
    (also (λ v. of_gate _ (list_at_of 0 v))
    (also (λ v. of_clifford (list_at_of 0 v) (list_at_of 1 v))
    (also (λ v. refl)
    (also (λ v. refl)
    (also (λ v. refl)
    (also (λ v. refl)
    (also (λ v. refl)
    (also (λ v. refl)
    (also (λ v. refl)
    (also (λ v. refl)
    (also (λ v. refl)
    (also (λ v. refl)
    (also (λ v. of_noise _ _ v)
    (also (λ v. of_noise _ _ v)
    (also (λ v. of_noise _ _ v)
    (also (λ v. of_noise _ _ v)
    (also (λ v. refl)
    (also (λ v. refl) tt))))))))))))))))))

said_none : (f : Form) (o : Option (List Value)) → NoneSecond f → is_second_header (said f.says o) ≡ false
unfolding said NoneSecond is_second_header
said_none f none n = refl
said_none f (some v) n = n v

-- If a line says a header of the second edition by some forms, and the first of them say none, it has none of the first.
read_later : (fs gs : List Form) (l : List ℕ) → Every NoneSecond fs → is_second_header (read_by (fs ++ gs) l) ≡ true → read_by fs l ≡ none
unfolding read_by
read_later [] gs l n e = refl
read_later (f ∷ fs) gs l n e =
    go (said f.says (values_of f.template l)) (said_none f (values_of f.template l) n.0) (read_later fs gs l n.1) e
  where
    go : (o : Option Written) → is_second_header o ≡ false → (is_second_header (read_by (fs ++ gs) l) ≡ true → read_by fs l ≡ none)
        → is_second_header (or_later o (read_by (fs ++ gs) l)) ≡ true → or_later o (read_by fs l) ≡ none
    go none q later e = unfold or_later in later e
    go (some w) q later e = unfold or_later in absurd (true≢false (sym e ∙ q))

second_unread : (l : List ℕ) (h : Header) → read_line_of l ≡ some (Written.header h) → h.edition ≡ 2 → read_by first_forms l ≡ none
unfolding read_line_of first_forms is_second_header
second_unread l h reads two =
    read_later first_forms (drop 19 forms) l none_second
    (ap is_second_header (ap (λ (fs : List Form). read_by fs l) (take-append-drop 19 forms) ∙ reads) ∙ ap (λ (n : ℕ). eqb n 2) two)

-- the first line of a job of the second edition
first_unread : (l : List ℕ) → (header_of (read_line_of l)).edition ≡ 2 → read_by first_forms l ≡ none
first_unread l two = go (read_line_of l) refl two
  where
    go : (o : Option Written) → read_line_of l ≡ o → (header_of o).edition ≡ 2 → read_by first_forms l ≡ none
    go none e t = let no : ◌≡◌ {A = ℕ} 1 2 = unfold header_of in t in absurd (omega (arith, no))
    go (some (Written.header h)) e t = second_unread l h e (unfold header_of in t)
    go (some (Written.line i)) e t = let no : ◌≡◌ {A = ℕ} 1 2 = unfold header_of in t in absurd (omega (arith, no))
    go (some (Written.noise n)) e t = let no : ◌≡◌ {A = ℕ} 1 2 = unfold header_of in t in absurd (omega (arith, no))
    go (some (Written.element w P)) e t = let no : ◌≡◌ {A = ℕ} 1 2 = unfold header_of in t in absurd (omega (arith, no))

pub second_refused : (job : List ℕ) → well_ended_of job ≡ true → (job_of job).header.edition ≡ 2 → check_job_by first_forms job ≡ answer 2 1
unfolding check_job_by
second_refused job ended two = rw ended (go (lines job) two)
  where
    go : (ls : List (List ℕ)) → (job_of_lines ls).header.edition ≡ 2 → check_lines_by first_forms 1 no_context_of ls ≡ answer 2 1
    go [] e = let no : ◌≡◌ {A = ℕ} 1 2 = unfold job_of_lines header_of in e in absurd (omega (arith, no))
    go (l ∷ ls) e = unfold job_of_lines check_lines_by refusal_of in rw (first_unread l e) refl

-- ---- by all forms

lines_by_forms : (k : ℕ) (c : Context) (ls : List (List ℕ)) → check_lines_by forms k c ls ≡ check_lines_of k c ls
unfolding check_lines_by check_lines_of read_line_of
lines_by_forms k c [] = refl
lines_by_forms k c (l ∷ ls) =
    ap (λ (later : Answer). cond (eqb (refusal_of c (is_last ls) (read_by forms l)) 0) later (answer (refusal_of c (is_last ls) (read_by forms l)) k))
    (lines_by_forms (suc k) (next_of c (read_by forms l)) ls)

pub job_by_forms : (job : List ℕ) → check_job_by forms job ≡ check_job job
unfolding check_job_by check_job
job_by_forms job = ap (λ (all : Answer). cond (well_ended_of job) all (answer 1 0)) (lines_by_forms 1 no_context_of (lines job))
