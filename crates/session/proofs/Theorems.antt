-- Theorems about the printed session: a line for each recorded outcome, and the shots of a line in order. Assumes nothing.
use Rattle.std.specs.Prelude.{◌≡◌, refl, Bool, cond, List, ℕ, zero, suc, ◌+◌, ◌<◌, length, get_or}
use Rattle.std.proofs.Common.{ap, ◌∙◌, add-zero, arith}
use Rattle.job.specs.declared.Header.{Header}
use Rattle.job.specs.Job.{Job, recorded_in}
use Rattle.session.specs.Session.{bit_text, delta_lines, session_lines}

delta_lines_lem : (h : Header) (deltas : List ℕ) (n id : ℕ) → length (delta_lines h deltas n id) ≡ n
unfolding delta_lines
delta_lines_lem h deltas zero id = refl
delta_lines_lem h deltas (suc n) id = ap suc (delta_lines_lem h deltas n (suc id))

-- Behind the line of the header's numbers there are as many as the job records outcomes.
pub session_length : (j : Job) (deltas : List ℕ) → length (session_lines j deltas) ≡ suc (recorded_in j.instructions)
unfolding session_lines
session_length j deltas = ap suc (delta_lines_lem j.header deltas (recorded_in j.instructions) 0)

-- The characters of a line are those of the shots in rising order.
pub bit_text_at : (b : ℕ → Bool) (n s i : ℕ) → i < n → get_or (bit_text b n s) i 0 ≡ cond (b (s + i)) 49 48
unfolding bit_text
bit_text_at b zero s i h = absurd (omega arith)
bit_text_at b (suc n) s zero h = rw (add-zero s)
bit_text_at b (suc n) s (suc i) h =
    let next : suc s + i ≡ s + suc i = omega arith in
    bit_text_at b n (suc s) i (omega arith) ∙ ap (λ (k : ℕ). cond (b k) 49 48) next
