-- Definitions. The whole replies of annotation, of the location count and of the correlation check. Assumes nothing.
use Rattle.std.specs.Prelude.{cond, List, [], ℕ, eqb}
use Rattle.std.proofs.Math.Option.{Option, none, some}
use Rattle.text.specs.Bytes.{lines}
use Rattle.job.specs.declared.Answer.{Answer}
use Rattle.job.specs.Float.{float, is_probability}
use Rattle.job.specs.Job.{answer, accepted, job_of, check_job}
use Rattle.job.specs.declared.CountReply.{CountReply}
use Rattle.job.specs.Reply.{TextReply, refused_text, text_fits_of, written_text, refused_count}
use Rattle.circuit.specs.Annotate.{annotated_text, first_unfit, locations}
use Rattle.circuit.specs.Correlation.{first_differing_of}

-- 18, then 15, whose figure is 0
unfoldable pub annotate_answer : List ℕ → ℕ → List ℕ → Option ℕ → TextReply
annotate_answer job p out (some k) = refused_text (answer 18 k) out
annotate_answer job p out none =
    let text = annotated_text p job in
    cond (text_fits_of text out) (written_text text out) (refused_text (answer 15 0) out)

-- The tests of a job, annotation's own p last (11, line 0), then 18 and 15. p is given by its bits.
unfoldable pub annotate_reply : List ℕ → ℕ → List ℕ → TextReply
annotate_reply job p out =
    let annotated = annotate_answer job p out (first_unfit 1 (lines job)) in
    let fitting = cond (is_probability (float p)) annotated (refused_text (answer 11 0) out) in
    cond (eqb (check_job job).number 0) fitting (refused_text (check_job job) out)

-- The tests of a job.
unfoldable pub locations_reply : List ℕ → CountReply
locations_reply job =
    let counted : CountReply = record { answered = accepted; count = locations (lines job) } in
    cond (eqb (check_job job).number 0) counted (refused_count (check_job job))

unfoldable pub correlation_answer : Option ℕ → Answer
correlation_answer none = accepted
correlation_answer (some k) = answer 19 k

-- The tests of a job, then 19.
unfoldable pub correlation_reply : List ℕ → Answer
correlation_reply job =
    let compared = correlation_answer (first_differing_of [] (job_of job).instructions) in
    cond (eqb (check_job job).number 0) compared (check_job job)
