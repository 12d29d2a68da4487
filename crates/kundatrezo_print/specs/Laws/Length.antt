-- How long a printed session is at most. Laws. Assumes nothing.
use Rattle.std.specs.Prelude.{◌≡◌, refl, Bool, true, false, List, [], ◌∷◌, ◌++◌, ℕ, zero, suc, ◌+◌, ◌*◌, ◌≤◌, eqb, leb, length}
use Rattle.std.proofs.Common.{ap, arith, leb-true, leb-false, eqb-true, length-append}
use Rattle.std.proofs.lemmas.Bool.{eqb-false}
use Rattle.text.specs.Bytes.{LF, unlines}
use Rattle.job.specs.declared.Header.{Header}
use Rattle.job.specs.declared.Answer.{Answer}
use Rattle.job.specs.Job.{answer, check_job, job_of}
use Rattle.run.specs.Run.{RunReply, run_reply}
use Rattle.session.specs.Session.{small_enough, lent_memory, refusal_lines, delta_lines, printed}
use Rattle.writer.specs.Placed.{Puts}
use Rattle.session_text.specs.Lines.{header_text, delta_text}
use Rattle.kundatrezo_print.specs.Ran.{ran_text, RunsSmall}
use Rattle.session_text.specs.Laws.Lines.{refusal_length, refusal_line, header_length, delta_length}
use Rattle.kundatrezo_print.specs.Laws.Printed.{printed_long, printed_refused, printed_large, printed_small, small_parts, recorded_few, ran_refused, ran_printed}

refusal_short : (a : Answer) → length (unlines (refusal_lines a)) ≤ 24410
refusal_short a =
    let long = simp length-append at (ap length (refusal_line a)) in
    omega (arith, long, refusal_length a)

line_length : (l more : List ℕ) → length (l ++ LF ∷ more) ≡ length (l ++ LF ∷ []) + length more
line_length l more = omega (arith, length-append l (LF ∷ more), length-append l (LF ∷ []))

deltas_short : (h : Header) (deltas : List ℕ) (n id : ℕ) → h.shots ≤ 64 → length (unlines (delta_lines h deltas n id)) ≤ 95 * n
unfolding delta_lines unlines delta_text
deltas_short h deltas zero id few = omega arith
deltas_short h deltas (suc n) id few =
    omega (arith, line_length (delta_text h.shots deltas id) (unlines (delta_lines h deltas n (suc id))), delta_length h.shots deltas id, deltas_short h deltas n (suc id) few, few)

session_short : (h : Header) (deltas : List ℕ) (n : ℕ) → h.shots ≤ 64 → n ≤ 256 → length (unlines (header_text h ∷ delta_lines h deltas n 0)) ≤ 24410
unfolding unlines
session_short h deltas n few rows =
    omega (arith, line_length (header_text h) (unlines (delta_lines h deltas n 0)), header_length h, deltas_short h deltas n 0 few, rows)

ran_short : {job : List ℕ} {h : Header} {n : ℕ} → RunsSmall job h n → length (ran_text job) ≤ 24410
ran_short {job} {h} {n} s = go (run_reply job (lent_memory (job_of job).header)) refl
  where
    by : (r : RunReply) (b : Bool) → eqb r.answered.number 0 ≡ b → run_reply job (lent_memory (job_of job).header) ≡ r → length (ran_text job) ≤ 24410
    by r true q e =
        let small = small_parts h s.small in
        rw (ran_printed job r h n s e (eqb-true r.answered.number 0 q)) (session_short h r.deltas n small.shots (omega (arith, recorded_few s, small.outcomes)))
    by r false q e = rw (ran_refused job r e (eqb-false r.answered.number 0 q)) (refusal_short r.answered)

    go : (r : RunReply) → run_reply job (lent_memory (job_of job).header) ≡ r → length (ran_text job) ≤ 24410
    go r e = by r (eqb r.answered.number 0) refl e

-- a first line of at most 90 bytes, and 256 lines of at most 95
pub printed_short : (job : List ℕ) → length (printed job) ≤ 24410
printed_short job = by_length (leb (length job) 65536) refl
  where
    by_size : length job ≤ 65536 → (check_job job).number ≡ 0 → (b : Bool) → small_enough (job_of job).header ≡ b → length (printed job) ≤ 24410
    by_size few e true q = rw (printed_small job few e q) (ran_short (record { accepted = e; header = refl; recorded = refl; small = q }))
    by_size few e false q = rw (printed_large job few e q) (refusal_short (answer 13 0))

    by_check : length job ≤ 65536 → (b : Bool) → eqb (check_job job).number 0 ≡ b → length (printed job) ≤ 24410
    by_check few true q = by_size few (eqb-true (check_job job).number 0 q) (small_enough (job_of job).header) refl
    by_check few false q = rw (printed_refused job few (eqb-false (check_job job).number 0 q)) (refusal_short (check_job job))

    by_length : (b : Bool) → leb (length job) 65536 ≡ b → length (printed job) ≤ 24410
    by_length true q = by_check (leb-true (length job) 65536 q) (eqb (check_job job).number 0) refl
    by_length false q = rw (printed_long job (leb-false (length job) 65536 q)) (refusal_short (answer 13 0))

pub printed_next : (job : List ℕ) {out after : List ℕ} {next : ℕ} → Puts 0 (printed job) out after next → next ≤ 24410
printed_next job p = omega (arith, p.place, printed_short job)
