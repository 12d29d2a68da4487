-- A run, settling and a walk on the settled text agree wherever none of them refuses. Assumes nothing.
use Rattle.std.specs.Prelude.{◌≡◌, Bool, true, cond, List, ℕ}
use Rattle.std.proofs.Common.{ap, ◌∙◌}
use Rattle.job.specs.Job.{job_of}
use Rattle.job.specs.Reply.{written_by}
use Rattle.rows.specs.Words.{words_per_row}
use Rattle.rows.specs.Column.{column}
use Rattle.run.specs.Run.{Memory, run_reply}
use Rattle.backward.specs.Settling.{settle_reply}
use Rattle.backward.specs.Walking.{walk_reply}
use Rattle.backward.proofs.CallTheorems.{deltas_walked}
use Rattle.totals.specs.Sum.{delta_sum_of}
use Rattle.agreement.specs.Agree.{agree_reply}
use Rattle.agreement.specs.Laws.Parity.{odd_mod}
use Rattle.agreement.specs.Laws.Cases.{compared_agrees}

-- Demand 3, of this reply: where the answer is 0, the sum and the count are equal modulo 2.
pub calls_agree : (job : List ℕ) (m : Memory) (out : List ℕ) (shot : ℕ) (set : List ℕ) → (agree_reply job m out shot set).agreement.answer.number ≡ 0
    → (agree_reply job m out shot set).agreement.agrees ≡ true
unfolding agree_reply delta_sum_of column
calls_agree job m out shot set =
    compared_agrees (run_reply job m) (settle_reply job m.source out) (walk_reply (written_by (settle_reply job m.source out)) shot set)
    (delta_sum_of (words_per_row (job_of job).header.shots) (run_reply job m).deltas shot set)
    (λ ran settled walked. ap (λ (b : Bool). cond b 1 0) (deltas_walked job m out shot set ran settled walked) ∙ odd_mod (walk_reply (written_by (settle_reply job m.source out)) shot set).count)
