-- Lines that are written by a form's template, and texts of lines as jobs. Laws. Assumes nothing.
use Rattle.std.specs.Prelude.{ℕ, zero, suc, ◌+◌, ◌-◌, ◌*◌, ◌^◌, ◌≤◌, ◌<◌, ◌≡◌, refl, true, false, List, [], ◌∷◌, ◌++◌, length, get_or}
use Rattle.std.proofs.Common.{arith, ap, ◌∙◌, lt-ltb, le-leb, eq-eqb, length-append, get_or-append-add}
use Rattle.std.proofs.Math.Option.{Option, none, some}
use Rattle.text.specs.Bytes.{bytes, LF, behind, unlines}
use Rattle.text.specs.List.{is_rising_of}
use Rattle.text.specs.Template.{Value, values_of, numbers_in, lists_in, line_text}
use Rattle.text.specs.Written.{AllSmall, FitL, FitQ, FitC, Suits, AllSuit, at_space, of_one_line, Free, AllFree}
use Rattle.text.proofs.Theorems.{written_reads, lines_unlines}
use Rattle.text.proofs.Laws.Places.{literals}
use Rattle.job.specs.declared.Header.{Header}
use Rattle.job.specs.Line.{SparsePauli, Line, Placed}
use Rattle.job.specs.Grammar.{Kind, NoiseLine, Written, Form, forms, inject_template, depolarizing_template, optional, noise_line, said, read_line_of}
use Rattle.job.specs.Checks.{all_below}
use Rattle.job.specs.Job.{accepted, well_ended_of, check_job, gather, gathered, header_of, job_of_lines, job_of}
use Rattle.job.specs.Marks.{mark_of, form_from, form_by_mark}
use Rattle.job.specs.Contexts.{between, Accepted}
use Rattle.job.specs.Sound.{Every, HeaderSound}
use Rattle.job.specs.Clifford.{table_words_of, words_of}
use Rattle.job.proofs.Laws.Lists.{below_first}
use Rattle.job.proofs.Laws.Table.{words_length, table_round, words_fit, right_words}
use Rattle.job.specs.Fits.{PauliFits}
use Rattle.job.proofs.Laws.Passes.{header_accepted}
use Rattle.job.proofs.Laws.Dispatch.{has_mark, mark_same, read_by_mark}

-- ---- lines by a form

-- the mark of its template leads back to the form, and its lines are one line each
pub record Marked (f : Form) : Type 0 where
  pub mark : has_mark f.template ≡ true
  pub back : form_by_mark (mark_of f.template) ≡ f
  pub one : of_one_line f.template ≡ true

-- what is written by the template says what the form says
pub form_written : (f : Form) → Marked f → (ds : List Value) → AllSuit f.template ds → read_line_of (line_text f.template ds) ≡ f.says ds
unfolding said
form_written f m ds s =
    let l = line_text f.template ds in
    let reads = written_reads f.template m.one ds s in
    read_by_mark l
    ∙ ap (λ (k : ℕ). said (form_by_mark k).says (values_of (form_by_mark k).template l)) (mark_same f.template l ds m.mark reads)
    ∙ ap (λ (g : Form). said g.says (values_of g.template l)) m.back
    ∙ ap (said f.says) reads

-- qubits can be written
pub small_below : (n : ℕ) (l : List ℕ) → n ≤ 256 → all_below n l ≡ true → AllSmall l
small_below n [] h b i = omega arith
small_below n (q ∷ l) h b zero = omega (arith, (below_first n q l b).0)
small_below n (q ∷ l) h b (suc i) = small_below n l h (below_first n q l b).1 i

-- an injection, and depolarizing noise without correlation and condition
abbrev pub inject_values : ℕ → SparsePauli → List Value
inject_values shot P = Value.number shot ∷ Value.list P.x ∷ Value.list P.z ∷ []

abbrev pub noise_values : ℕ → List ℕ → ℕ → List Value
noise_values p qs size = Value.number p ∷ Value.list [] ∷ Value.list [] ∷ Value.number 0 ∷ Value.list qs ∷ Value.number size ∷ []

abbrev pub depolarizing_line : ℕ → List ℕ → ℕ → NoiseLine
depolarizing_line p qs size =
    record { probability = p; correlation = none; condition = record { outcomes = []; parity = false }; kind = Kind.depolarizing qs; size = size }

-- opens what the marks compute with
marks : Unit {0}
unfolding form_from has_mark mark_of behind literals forms bytes of_one_line at_space
marks = tt

pub inject_one_line : of_one_line inject_template ≡ true
unfolding marks
inject_one_line = refl

pub noise_one_line : of_one_line depolarizing_template ≡ true
unfolding marks
noise_one_line = refl

pub inject_says : (shot : ℕ) (P : SparsePauli) → shot < 2 ^ 64 → PauliFits P
    → read_line_of (line_text inject_template (inject_values shot P)) ≡ some (Written.line (Line.inject shot P))
unfolding marks numbers_in lists_in
inject_says shot P h f =
    form_written (form_by_mark 105) record { mark = refl; back = refl; one = refl } (inject_values shot P) (Suits.N h, (Suits.L f.x, (Suits.L f.z, tt)))

pub depolarizing_says : (p : ℕ) (qs : List ℕ) (size : ℕ) → p < 2 ^ 64 → FitQ qs → size < 2 ^ 64
    → read_line_of (line_text depolarizing_template (noise_values p qs size)) ≡ some (Written.noise (depolarizing_line p qs size))
unfolding marks numbers_in lists_in noise_line optional is_rising_of
depolarizing_says p qs size h f s =
    form_written (form_by_mark 50) record { mark = refl; back = refl; one = refl } (noise_values p qs size)
    (Suits.H h, (Suits.C no_correlation, (Suits.L no_condition, (Suits.B (omega arith), (Suits.Q f, (Suits.N s, tt))))))
  where
    no_correlation : FitC []
    no_correlation = record { single = omega arith; small = λ i. omega arith }

    no_condition : FitL []
    no_condition = record { rising = refl; small = λ i. omega arith }

-- a Clifford by the words of its table
pub clifford_says : (qs : List ℕ) (t : ℕ) → FitQ qs → t < 2 ^ (4 * (length qs * length qs))
    → read_line_of (line_text (bytes "op=c q=Q t=T") (Value.list qs ∷ Value.list (words_of (table_words_of (length qs)) t) ∷ [])) ≡ some (Written.line (Line.clifford qs t))
unfolding marks numbers_in lists_in
clifford_says qs t f h =
    let k = length qs in
    let words = words_of (table_words_of k) t in
    form_written (form_by_mark 99) record { mark = refl; back = refl; one = refl } (Value.list qs ∷ Value.list words ∷ []) (Suits.Q f, (Suits.T (words_fit k t f.filled), tt))
    ∙ right_words qs words (words_length (table_words_of k) t)
    ∙ ap (λ (m : ℕ). some (Written.line (Line.clifford qs m))) (table_round k t h)

-- ---- texts of lines

unlines_last : (l : List ℕ) (ls : List (List ℕ)) → (0 < length (unlines (l ∷ ls))) × (get_or (unlines (l ∷ ls)) (length (unlines (l ∷ ls)) - 1) 0 ≡ LF)
unfolding unlines
unlines_last l [] =
    let n : length (l ++ LF ∷ []) - 1 ≡ length l + 0 = omega (arith, length-append l (LF ∷ [])) in
    (omega (arith, length-append l (LF ∷ [])), rw n (get_or-append-add l (LF ∷ []) 0 0))
unlines_last l (m ∷ ls) =
    let ih = unlines_last m ls in
    let rest = m ++ LF ∷ unlines ls in
    let n : length (l ++ LF ∷ rest) - 1 ≡ length l + suc (length rest - 1) = omega (arith, length-append l (LF ∷ rest), ih.0) in
    (omega (arith, length-append l (LF ∷ rest)), rw n (get_or-append-add l (LF ∷ rest) (suc (length rest - 1)) 0 ∙ ih.1))

-- test 1
pub unlines_ended : (l : List ℕ) (ls : List (List ℕ)) → length (unlines (l ∷ ls)) ≤ 1048576 → well_ended_of (unlines (l ∷ ls)) ≡ true
unfolding well_ended_of
unlines_ended l ls h = let e = unlines_last l ls in rw (lt-ltb _ _ e.0, le-leb _ _ h, eq-eqb _ _ e.1)

module _ (h : Header) (t : List ℕ) (ts : List (List ℕ)) (reads : read_line_of t ≡ some (Written.header h)) (free : AllFree LF (t ∷ ts)) where
  -- a header and accepted lines behind it make an accepted text
  pub text_accepted : HeaderSound h → Accepted 2 (between h 0) ts → length (unlines (t ∷ ts)) ≤ 1048576 → check_job (unlines (t ∷ ts)) ≡ accepted
  unfolding check_job
  text_accepted s a few = rw (unlines_ended t ts few, lines_unlines (t ∷ ts) free) (header_accepted h t ts reads s a)

  pub text_job : job_of (unlines (t ∷ ts)) ≡ record { header = h; text = t; instructions = (gathered 2 ts).instructions }
  unfolding job_of_lines header_of
  text_job = rw (lines_unlines (t ∷ ts) free, reads)

-- ---- instructions and their texts

-- a text of an instruction is one of the lines
pub gathered_free : (k : ℕ) (ls : List (List ℕ)) → AllFree LF ls → Every (λ (p : Placed). Free LF p.text) (gathered k ls).instructions
unfolding gathered
gathered_free k [] f = tt
gathered_free k (l ∷ ls) f = go (read_line_of l) (gathered_free (suc k) ls f.1)
  where
    go : (o : Option Written) → Every (λ (p : Placed). Free LF p.text) (gathered (suc k) ls).instructions
        → Every (λ (p : Placed). Free LF p.text) (gather k l o (gathered (suc k) ls)).instructions
    go none ih = unfold gather in ih
    go (some (Written.header h)) ih = unfold gather in ih
    go (some (Written.line i)) ih = unfold gather in (f.0, ih)
    go (some (Written.noise n)) ih = unfold gather in (f.0, ih)
    go (some (Written.element w P)) ih = unfold gather in ih
