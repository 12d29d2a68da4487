-- What is known of each line of an accepted job: it says something, and a plain line and an element's Pauli are sound. Laws. Assumes nothing.
use Rattle.std.specs.Prelude.{ℕ, suc, ◌≤◌, ◌≡◌, refl, true, List, [], ◌∷◌, ◌++◌}
use Rattle.std.proofs.Common.{arith, sym, ap, subst, ◌∙◌, true≢false}
use Rattle.std.proofs.Math.Option.{Option, some}
use Rattle.std.proofs.lemmas.Bool.{not-false}
use Rattle.text.specs.Bytes.{lines}
use Rattle.job.specs.declared.Header.{Header}
use Rattle.job.specs.Line.{SparsePauli, Line, Instruction}
use Rattle.job.specs.Grammar.{Written, read_line_of}
use Rattle.job.specs.Checks.{Context, records, next, header_fits_of, own_tests}
use Rattle.job.specs.Job.{check_job, recorded_by, Job, job_of}
use Rattle.job.specs.Sound.{PauliSound, LineSound, InstructionSound}
use Rattle.job.specs.Fits.{WrittenFits}
use Rattle.job.proofs.Laws.Lines.{pauli_sound, line_sound}
use Rattle.job.specs.Contexts.{between, Accepted}
use Rattle.job.proofs.Laws.Accepted.{Passing, accepted_first}
use Rattle.job.proofs.Laws.Begun.{Begun, job_begun}
use Rattle.job.proofs.Laws.Gather.{recorded_more}
use Rattle.job.proofs.Laws.Recorded.{instruction_within}
use Rattle.lines_from_last.specs.Line.{Known}

-- a line that passes
passed_sound : (c : Context) (ls : List (List ℕ)) (l : Line) → WrittenFits (Written.line l) → Passing c ls (Written.line l) → LineSound c.header c.recorded l
unfolding WrittenFits own_tests
passed_sound c ls l fits passing = line_sound c l fits passing.edition passing.own

passed_element : (c : Context) (ls : List (List ℕ)) (v : Option ℕ) (P : SparsePauli) → WrittenFits (Written.element v P) → Passing c ls (Written.element v P)
    → PauliSound c.header.qubits P
unfolding WrittenFits own_tests
passed_element c ls v P fits passing = pauli_sound _ P fits.1 (not-false _ passing.own.0) (not-false _ passing.own.1.0)

passed_known : (c : Context) (text : List ℕ) (ls : List (List ℕ)) (w : Written) → c.recorded ≤ c.header.outcomes → read_line_of text ≡ some w → WrittenFits w
    → Passing c ls w → Known c.header text
passed_known c text ls w within reads fits passing =
    record {
      written = w;
      reads = reads;
      sound = λ l e. (c.recorded, within, passed_sound c ls l (subst WrittenFits e fits) (subst (Passing c ls) e passing));
      element = λ v P e. passed_element c ls v P (subst WrittenFits e fits) (subst (Passing c ls) e passing);
    }

-- the context behind it: the same header, and no more outcomes than there are
next_within : (c : Context) (ls : List (List ℕ)) (w : Written) → c.begun ≡ true → c.recorded ≤ c.header.outcomes → WrittenFits w → Passing c ls w
    → ((next c w).header ≡ c.header) × ((next c w).recorded ≤ c.header.outcomes)
unfolding next header_fits_of InstructionSound recorded_by
next_within c ls (Written.header h) begun within fits passing = absurd (true≢false (sym passing.header ∙ rw begun))
next_within c ls (Written.line l) begun within fits passing =
    (refl, rw (recorded_more (records l) c.recorded) (instruction_within c.header c.recorded (Instruction.line l) (passed_sound c ls l fits passing) within))
next_within c ls (Written.noise n) begun within fits passing = (refl, within)
next_within c ls (Written.element v P) begun within fits passing = (refl, within)

-- a line somewhere among accepted lines
accepted_known : (k : ℕ) (c : Context) (front : List (List ℕ)) (text : List ℕ) (rest : List (List ℕ)) → c.recorded ≤ c.header.outcomes
    → Accepted k c (front ++ text ∷ rest) → Known c.header text
accepted_known k c [] text rest within a =
    let f = accepted_first a in passed_known c text rest f.says within f.reads f.fits f.passing
accepted_known k c (l ∷ front) text rest within a =
    let f = accepted_first a in
    let (header, recorded) = next_within c (front ++ text ∷ rest) f.says a.begun within f.fits f.passing in
    subst (λ (h : Header). Known h text) header
    (accepted_known (suc k) (next c f.says) front text rest (rw header recorded) f.rest)

first_of : {A : Type 0} {a b : A} {p q : List A} → a ∷ p ≡ b ∷ q → (a ≡ b) × (p ≡ q)
first_of e = (cc, cc)

no_line : {h : Header} {l : Line} → Written.header h ≡ Written.line l → ⊥
no_line e = let z : ◌≡◌ {A = ℕ} 0 1 = cc in omega arith

no_element_lem : {h : Header} {v : Option ℕ} {P : SparsePauli} → Written.header h ≡ Written.element v P → ⊥
no_element_lem e = let z : ◌≡◌ {A = ℕ} 0 1 = cc in omega arith

-- a line somewhere in an accepted job
pub job_known : (job : List ℕ) → (check_job job).number ≡ 0 → (front : List (List ℕ)) (text : List ℕ) (rest : List (List ℕ)) → lines job ≡ front ++ text ∷ rest
    → Known (job_of job).header text
job_known job passes front text rest e =
    let b = job_begun job passes in
    subst (λ (j : Job). Known j.header text) (sym b.is) (go b front (sym b.split ∙ e))
  where
    go : (b : Begun job) (front : List (List ℕ)) → b.text ∷ b.rest ≡ front ++ text ∷ rest → Known b.header text
    go b [] s = record { written = Written.header b.header; reads = ap read_line_of (sym (first_of s).0) ∙ b.reads; sound = λ l e. absurd (no_line e); element = λ v P e. absurd (no_element_lem e) }
    go b (l ∷ front) s =
        unfold between in
        accepted_known 2 (between b.header 0) front text rest (omega arith) (subst (Accepted 2 (between b.header 0)) (first_of s).1 b.passes)
