-- The whole reply of a run, of settling and of a walk on the settled text, and their comparison. Assumes nothing.
use Rattle.std.specs.Prelude.{false, cond, List, ℕ, ◌%◌, eqb}
use Rattle.job.specs.declared.Answer.{Answer}
use Rattle.job.specs.Job.{job_of}
use Rattle.job.specs.Reply.{TextReply, written_by}
use Rattle.job.specs.declared.CountReply.{CountReply}
use Rattle.rows.specs.Words.{words_per_row}
use Rattle.totals.specs.Sum.{delta_sum_of}
use Rattle.run.specs.Run.{Memory, RunReply, run_reply}
use Rattle.backward.specs.Settling.{settle_reply}
use Rattle.backward.specs.Walking.{walk_reply}
use Rattle.agreement.specs.declared.Call.{Call}
use Rattle.agreement.specs.declared.Call.TheVariants.{Run, Settle, Walk}
use Rattle.agreement.specs.declared.Agreement.{Agreement}

-- A call that refuses is the last one. Nothing is compared.
abbrev pub refused_by : Call → Answer → ℕ → Agreement
refused_by call a figure = record { call = call; answer = a; figure = figure; sum = 0; count = 0; agrees = false }

-- No call refused.
abbrev pub compared : CountReply → ℕ → ℕ → Agreement
compared walked figure sum =
    record { call = Walk; answer = walked.answered; figure = figure; sum = sum; count = walked.count; agrees = eqb sum (walked.count % 2) }

-- What is said of a run, of settling and of a walk, with the sum of the deltas.
unfoldable pub agreement_of : RunReply → TextReply → CountReply → ℕ → Agreement
agreement_of ran settled walked sum =
    let walk = cond (eqb walked.answered.number 0) (compared walked settled.figure sum) (refused_by Walk walked.answered settled.figure) in
    let settling = cond (eqb settled.answered.number 0) walk (refused_by Settle settled.answered settled.figure) in
    cond (eqb ran.answered.number 0) settling (refused_by Run ran.answered 0)

-- what is said, and the lent words and bytes after the call
pub record AgreeReply : Type 0 where
  pub agreement : Agreement
  pub x : List ℕ
  pub z : List ℕ
  pub deltas : List ℕ
  pub totals : List ℕ
  pub out : List ℕ

-- The words are as the run leaves them. The bytes are as settling leaves them; after a run that refuses it is not called.
unfoldable pub agree_reply : List ℕ → Memory → List ℕ → ℕ → List ℕ → AgreeReply
agree_reply job m out shot set =
    let ran = run_reply job m in
    let settled = settle_reply job m.source out in
    let walked = walk_reply (written_by settled) shot set in
    let sum = delta_sum_of (words_per_row (job_of job).header.shots) ran.deltas shot set in
    record {
      agreement = agreement_of ran settled walked sum;
      x = ran.x;
      z = ran.z;
      deltas = ran.deltas;
      totals = ran.totals;
      out = cond (eqb ran.answered.number 0) settled.out out;
    }
