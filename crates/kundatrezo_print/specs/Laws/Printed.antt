-- What is printed of an input, by the way that the tests go. Laws. Assumes nothing.
use Rattle.std.specs.Prelude.{◌≡◌, refl, Bool, true, false, cond, ◌&&◌, List, [], ◌∷◌, ℕ, zero, suc, ◌+◌, ◌*◌, ◌/◌, ◌≤◌, ◌<◌, eqb, leb, length, take, replicate}
use Rattle.std.proofs.Common.{sym, ap, ◌∙◌, mul-le-mul_right, arith, leb-true, le-leb, eq-eqb, ne_eqb}
use Rattle.std.proofs.lemmas.Bool.{lt-leb}
use Rattle.std.proofs.lemmas.List.{length-replicate}
use Rattle.text.specs.Bytes.{unlines}
use Rattle.text.proofs.Laws.Values.{both}
use Rattle.job.specs.declared.Header.{Header}
use Rattle.job.specs.declared.Answer.{Answer}
use Rattle.job.specs.Job.{answer, check_job, job_of, recorded_in}
use Rattle.job.proofs.Theorems.{checked_sound}
use Rattle.rows.specs.Words.{words_per_row}
use Rattle.run.specs.Run.{Memory, RunReply, frame_words_of, outcome_words_of, run_reply}
use Rattle.session.specs.Session.{small_enough, lent_memory, refusal_lines, session_lines, delta_lines, reply_lines, printed}
use Rattle.checker.specs.declared.Examined.{Examined}
use Rattle.checker.specs.Examines.{Examines}
use Rattle.writer.specs.Placed.{Puts}
use Rattle.session_text.specs.Lines.{header_text}
use Rattle.kundatrezo_print.specs.Ran.{ran_text, RunsSmall, Lends}

-- ---- the tests

pub printed_long : (job : List ℕ) → 65536 < length job → printed job ≡ unlines (refusal_lines (answer 13 0))
unfolding printed
printed_long job h = rw (lt-leb (length job) 65536 h)

pub printed_refused : (job : List ℕ) → length job ≤ 65536 → ((check_job job).number ≡ 0 → ⊥) → printed job ≡ unlines (refusal_lines (check_job job))
unfolding printed
printed_refused job h e = rw (le-leb (length job) 65536 h, ne_eqb (check_job job).number 0 e)

pub printed_large : (job : List ℕ) → length job ≤ 65536 → (check_job job).number ≡ 0 → small_enough (job_of job).header ≡ false → printed job ≡ unlines (refusal_lines (answer 13 0))
unfolding printed
printed_large job h e s = rw (le-leb (length job) 65536 h, eq-eqb (check_job job).number 0 e, s)

pub printed_small : (job : List ℕ) → length job ≤ 65536 → (check_job job).number ≡ 0 → small_enough (job_of job).header ≡ true → printed job ≡ ran_text job
unfolding printed ran_text
printed_small job h e s = rw (le-leb (length job) 65536 h, eq-eqb (check_job job).number 0 e, s)

-- ---- the limits

pub record Small (h : Header) : Type 0 where
  pub qubits : h.qubits ≤ 64
  pub outcomes : h.outcomes ≤ 256
  pub shots : h.shots ≤ 64

three : (a b c : Bool) → (a && b && c) ≡ true → (a ≡ true) × (b ≡ true) × (c ≡ true)
three a b c e = let p = both (a && b) c e in let q = both a b p.0 in (q.0, q.1, p.1)

pub small_parts : (h : Header) → small_enough h ≡ true → Small h
small_parts h e =
    let p = three (leb h.qubits 64) (leb h.outcomes 256) (leb h.shots 64) e in
    record { qubits = leb-true h.qubits 64 p.0; outcomes = leb-true h.outcomes 256 p.1; shots = leb-true h.shots 64 p.2 }

-- a row has one word at most
pub few_words : (shots : ℕ) → shots ≤ 64 → words_per_row shots ≤ 1
few_words shots h = omega arith

pub few_rows : (rows shots most : ℕ) → rows ≤ most → shots ≤ 64 → rows * words_per_row shots ≤ most
few_rows rows shots most r h = go (words_per_row shots) (few_words shots h)
  where
    go : (w : ℕ) → w ≤ 1 → rows * w ≤ most
    go zero h = omega arith
    go (suc zero) h = omega arith
    go (suc (suc w)) h = absurd (omega arith)

pub zeros_taken : (n m : ℕ) → n ≤ m → take n (replicate m 0) ≡ replicate {A = ℕ} n 0
zeros_taken zero m h = refl
zeros_taken (suc n) zero h = absurd (omega arith)
zeros_taken (suc n) (suc m) h = ap (λ (l : List ℕ). 0 ∷ l) (zeros_taken n m (omega arith))

-- ---- the run

pub recorded_few : {job : List ℕ} {h : Header} {n : ℕ} → RunsSmall job h n → n ≤ h.outcomes
recorded_few {job} {h} {n} s =
    let few = (checked_sound job s.accepted).recorded in
    rw (s.header, s.recorded) few

pub ran_refused : (job : List ℕ) (r : RunReply) → run_reply job (lent_memory (job_of job).header) ≡ r → (r.answered.number ≡ 0 → ⊥) → ran_text job ≡ unlines (refusal_lines r.answered)
unfolding ran_text reply_lines
ran_refused job r e ne = rw (e, ne_eqb r.answered.number 0 ne)

pub ran_printed : (job : List ℕ) (r : RunReply) (h : Header) (n : ℕ) → RunsSmall job h n → run_reply job (lent_memory (job_of job).header) ≡ r → r.answered.number ≡ 0
    → ran_text job ≡ unlines (header_text h ∷ delta_lines h r.deltas n 0)
unfolding ran_text reply_lines session_lines header_text
ran_printed job r h n s e z = rw (e, eq-eqb r.answered.number 0 z, s.header, s.recorded)

abbrev lent_by : List ℕ → List ℕ → List ℕ → List ℕ → List ℕ → Memory
lent_by x z deltas totals noiseless =
    record { x = x; z = z; deltas = deltas; totals = totals; source = record { noiseless = noiseless; main = []; second = []; base = 0 } }

lent_zeros : {h : Header} {x z deltas totals noiseless : List ℕ} → Lends h x z deltas totals noiseless → lent_by x z deltas totals noiseless ≡ lent_memory h
unfolding lent_memory
lent_zeros l = rw (l.x_words, l.z_words, l.delta_words, l.of_totals, l.noiseless_words)

ran_lent : {job : List ℕ} {h : Header} {n : ℕ} {x z deltas totals noiseless : List ℕ} (r : RunReply) → RunsSmall job h n → Lends h x z deltas totals noiseless
    → run_reply job (lent_by x z deltas totals noiseless) ≡ r → run_reply job (lent_memory (job_of job).header) ≡ r
ran_lent {job} {h} r s l e =
    ap (λ (g : Header). run_reply job (lent_memory g)) (sym s.header) ∙ ap (run_reply job) (sym (lent_zeros l)) ∙ e

-- a run that refuses, and one that ends
pub run_refused : {job : List ℕ} {h : Header} {n : ℕ} {x z deltas totals noiseless : List ℕ} {a : Answer} {x₁ z₁ deltas₁ totals₁ out after : List ℕ} {next : ℕ}
    → RunsSmall job h n → Lends h x z deltas totals noiseless
    → run_reply job (lent_by x z deltas totals noiseless) ≡ record { answered = a; x = x₁; z = z₁; deltas = deltas₁; totals = totals₁ } → (a.number ≡ 0 → ⊥)
    → Puts 0 (unlines (refusal_lines a)) out after next → Puts 0 (ran_text job) out after next
run_refused {job} s l e ne p = rw (ran_refused job _ (ran_lent _ s l e) ne) p

pub run_ended : {job : List ℕ} {h : Header} {n : ℕ} {x z deltas totals noiseless : List ℕ} {a : Answer} {x₁ z₁ deltas₁ totals₁ out after : List ℕ} {next : ℕ}
    → RunsSmall job h n → Lends h x z deltas totals noiseless
    → run_reply job (lent_by x z deltas totals noiseless) ≡ record { answered = a; x = x₁; z = z₁; deltas = deltas₁; totals = totals₁ } → a.number ≡ 0
    → Puts 0 (unlines (header_text h ∷ delta_lines h deltas₁ n 0)) out after next → Puts 0 (ran_text job) out after next
run_ended {job} {h} {n} s l e z p = rw (ran_printed job _ h n s (ran_lent _ s l e) z) p

pub rows_ready : {job : List ℕ} {h : Header} {n : ℕ} {x z deltas totals noiseless : List ℕ} {k : ℕ} → RunsSmall job h n → Lends h x z deltas totals noiseless
    → k ≡ length deltas → (h.shots ≤ 64) × (n ≤ 256) × (n * words_per_row h.shots ≤ k)
rows_ready {job} {h} {n} {k = k} s l kept =
    let small = small_parts h s.small in
    let few = recorded_few s in
    let rows : n * words_per_row h.shots ≤ outcome_words_of h = mul-le-mul_right (words_per_row h.shots) few in
    let long : k ≡ outcome_words_of h = kept ∙ ap length l.delta_words ∙ length-replicate (outcome_words_of h) 0 in
    (small.shots, omega (arith, few, small.outcomes), omega (arith, rows, long))

pub shots_few : {job : List ℕ} {h : Header} {n : ℕ} → RunsSmall job h n → h.shots ≤ 64
shots_few {job} {h} s = (small_parts h s.small).shots

pub frame_few : {job : List ℕ} {h : Header} {n : ℕ} → RunsSmall job h n → frame_words_of h ≤ 64
frame_few {job} {h} s = let small = small_parts h s.small in few_rows h.qubits h.shots 64 small.qubits small.shots

pub outcomes_few : {job : List ℕ} {h : Header} {n : ℕ} → RunsSmall job h n → outcome_words_of h ≤ 256
outcomes_few {job} {h} s = let small = small_parts h s.small in few_rows h.outcomes h.shots 256 small.outcomes small.shots

pub totals_few : {job : List ℕ} {h : Header} {n : ℕ} → RunsSmall job h n → h.outcomes ≤ 256
totals_few {job} {h} s = (small_parts h s.small).outcomes

pub lends_zeros : {job : List ℕ} {h : Header} {n : ℕ} → RunsSmall job h n
    → Lends h (take (frame_words_of h) (replicate 64 0)) (take (frame_words_of h) (replicate 64 0)) (take (outcome_words_of h) (replicate 256 0)) (take h.outcomes (replicate 256 0)) (take (outcome_words_of h) (replicate 256 0))
lends_zeros {job} {h} s =
    let frame = zeros_taken (frame_words_of h) 64 (frame_few s) in
    let outcomes = zeros_taken (outcome_words_of h) 256 (outcomes_few s) in
    let totals = zeros_taken h.outcomes 256 (totals_few s) in
    record { x_words = frame; z_words = frame; delta_words = outcomes; of_totals = totals; noiseless_words = outcomes }

-- ---- the program

pub long_input : (job : List ℕ) {a : Answer} {out after : List ℕ} {next : ℕ} → 65536 < length job → a ≡ answer 13 0 → Puts 0 (unlines (refusal_lines a)) out after next
    → Puts 0 (printed job) out after next
long_input job h e p = rw (printed_long job h, sym e) p

pub refused_input : {job : List ℕ} {e : Examined} {out after : List ℕ} {next : ℕ} → Examines job e → length job ≤ 65536 → (e.answer.number ≡ 0 → ⊥)
    → Puts 0 (unlines (refusal_lines e.answer)) out after next → Puts 0 (printed job) out after next
refused_input {job} {e} x h ne p =
    let number : e.answer.number ≡ (check_job job).number = ap (λ (a : Answer). a.number) x.answers in
    rw (printed_refused job h (λ z. ne (number ∙ z)), sym x.answers) p

accepted_input : {job : List ℕ} {e : Examined} → Examines job e → e.answer.number ≡ 0 → (check_job job).number ≡ 0
accepted_input x z = sym (ap (λ (a : Answer). a.number) x.answers) ∙ z

same_size : {job : List ℕ} {e : Examined} {b : Bool} → Examines job e → e.answer.number ≡ 0 → small_enough e.header ≡ b → small_enough (job_of job).header ≡ b
same_size x z s = ap small_enough (sym (x.finds (accepted_input x z)).header) ∙ s

pub large_input : {job : List ℕ} {e : Examined} {a : Answer} {out after : List ℕ} {next : ℕ} → Examines job e → length job ≤ 65536 → e.answer.number ≡ 0
    → small_enough e.header ≡ false → a ≡ answer 13 0 → Puts 0 (unlines (refusal_lines a)) out after next → Puts 0 (printed job) out after next
large_input {job} x h z s e p = rw (printed_large job h (accepted_input x z) (same_size x z s), sym e) p

pub small_input : {job : List ℕ} {e : Examined} → Examines job e → e.answer.number ≡ 0 → small_enough e.header ≡ true → RunsSmall job e.header e.recorded
small_input x z s =
    let finds = x.finds (accepted_input x z) in
    record { accepted = accepted_input x z; header = finds.header; recorded = finds.recorded; small = s }

pub run_input : {job : List ℕ} {e : Examined} {out after : List ℕ} {next : ℕ} → Examines job e → length job ≤ 65536 → e.answer.number ≡ 0 → small_enough e.header ≡ true
    → Puts 0 (ran_text job) out after next → Puts 0 (printed job) out after next
run_input {job} x h z s p = rw (printed_small job h (accepted_input x z) (same_size x z s)) p
