-- Definitions. What the printing program prints of a job on its standard input, as in document 01, "Printed session". Assumes nothing.
use Rattle.std.specs.Prelude.{Bool, cond, ◌&&◌, List, [], ◌∷◌, ◌++◌, ℕ, zero, suc, eqb, leb, length, replicate}
use Rattle.text.specs.Bytes.{bytes, unlines}
use Rattle.text.specs.Template.{Value, line_text}
use Rattle.job.specs.declared.Header.{Header}
use Rattle.job.specs.declared.Answer.{Answer}
use Rattle.job.specs.Job.{answer, Job, job_of, recorded_in, check_job}
use Rattle.rows.specs.Words.{words_per_row, bit_in}
use Rattle.run.specs.Run.{Memory, RunReply, frame_words_of, outcome_words_of, run_reply}

-- 65,536 bytes, 64 qubits, 256 outcomes, 64 shots at most
abbrev pub most_bytes : ℕ
most_bytes = 65536

abbrev pub most_qubits : ℕ
most_qubits = 64

abbrev pub most_outcomes : ℕ
most_outcomes = 256

abbrev pub most_shots : ℕ
most_shots = 64

abbrev pub small_enough : Header → Bool
small_enough h = leb h.qubits most_qubits && leb h.outcomes most_outcomes && leb h.shots most_shots

-- empty draws and zero noiseless bits, and as many words and totals as the header needs
unfoldable pub lent_memory : Header → Memory
lent_memory h =
    record {
      x = replicate (frame_words_of h) 0;
      z = replicate (frame_words_of h) 0;
      deltas = replicate (outcome_words_of h) 0;
      totals = replicate h.outcomes 0;
      source = record { noiseless = replicate (outcome_words_of h) 0; main = []; second = []; base = 0 };
    }

-- a refusal
unfoldable pub refusal_lines : Answer → List (List ℕ)
refusal_lines a = line_text (bytes "ok=0 refusal=N line=N") (Value.number a.number ∷ Value.number a.line ∷ []) ∷ []

-- so many bits as 0 and 1, from shot s on
unfoldable pub bit_text : (ℕ → Bool) → ℕ → ℕ → List ℕ
bit_text b zero s = []
bit_text b (suc left) s = cond (b s) 49 48 ∷ bit_text b left (suc s)

-- so many recorded outcomes, from an id on: deltas with shot 0 first
unfoldable pub delta_lines : Header → List ℕ → ℕ → ℕ → List (List ℕ)
delta_lines h deltas zero id = []
delta_lines h deltas (suc left) id =
    (line_text (bytes "id=N delta=") (Value.number id ∷ []) ++ bit_text (bit_in (words_per_row h.shots) deltas id) h.shots 0)
    ∷ delta_lines h deltas left (suc id)

-- the header's numbers, and the recorded outcomes
unfoldable pub session_lines : Job → List ℕ → List (List ℕ)
session_lines j deltas =
    let h = j.header in
    line_text (bytes "ok=1 qubits=N outcomes=N shots=N") (Value.number h.qubits ∷ Value.number h.outcomes ∷ Value.number h.shots ∷ [])
    ∷ delta_lines h deltas (recorded_in j.instructions) 0

unfoldable pub reply_lines : Job → RunReply → List (List ℕ)
reply_lines j r = let lines = session_lines j r.deltas in cond (eqb r.answered.number 0) lines (refusal_lines r.answered)

-- A longer input is refused before any check, a larger header after the tests of a job.
unfoldable pub printed : List ℕ → List ℕ
printed job =
    let j = job_of job in
    let ran = reply_lines j (run_reply job (lent_memory j.header)) in
    let sized = cond (small_enough j.header) ran (refusal_lines (answer 13 0)) in
    let checked = cond (eqb (check_job job).number 0) sized (refusal_lines (check_job job)) in
    unlines (cond (leb (length job) most_bytes) checked (refusal_lines (answer 13 0)))
