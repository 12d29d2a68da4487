-- Theorems: the tests refuse no made job; it has what was asked for; up to 1,000 lines fit; every kind of line comes up. That the same call gives the same
-- text each time is no theorem: the text is a function of the call's numbers. Their proofs stand in Laws. Assumes nothing.
use Rattle.std.specs.Prelude.{◌≡◌, true, List, ℕ, ◌≤◌, length}
use Rattle.std.proofs.Math.Path.{ap}
use Rattle.std.proofs.Common.{◌∙◌}
use Rattle.job.specs.declared.Header.{Header}
use Rattle.job.specs.declared.Answer.{Answer}
use Rattle.job.specs.Grammar.{header_with}
use Rattle.job.specs.Checks.{in_range}
use Rattle.job.specs.Job.{accepted, check_job, job_of}
use Rattle.job.specs.Reply.{written_text, written_by}
use Rattle.job.specs.Sound.{instructions_of}
use Rattle.job.proofs.Theorems.{checked_sound}
use Rattle.job.proofs.Laws.Said.{placed_list}
use Rattle.made.specs.Made.{made_header, made_text, make_reply}
use Rattle.made.specs.Kinds.{LineKind, Among, StandsAt, OfKind, Allowed, kind_seed, place_of}
use Rattle.made.proofs.Laws.Replies.{MakesTo, make_writes, make_fits, known, text_passes, text_header, text_instructions}
use Rattle.made.proofs.Laws.Come.{kind_comes}
use Rattle.made.proofs.Laws.Allowed.{list_allowed}

-- Where the call answers 0, whatever its numbers and its seed are:
module _ (qubits outcomes shots lines seed : ℕ) (out : List ℕ) (done : (make_reply qubits outcomes shots lines seed out).answered.number ≡ 0) where
  writes : MakesTo qubits outcomes shots lines seed out
  writes = make_writes qubits outcomes shots lines seed out done

  -- It wrote the made text (`written_by` gives the first bytes of its output, as many as its figure says), and no other byte.
  pub made_written : make_reply qubits outcomes shots lines seed out ≡ written_text (made_text qubits outcomes shots lines seed) out
  made_written = writes.reply

  -- The tests of a job accept it.
  pub made_accepted : check_job (written_by (make_reply qubits outcomes shots lines seed out)) ≡ accepted
  made_accepted = rw writes.written (text_passes qubits outcomes shots seed writes.range lines writes.few)

  -- Its header has the asked numbers, and its instructions are as many as the asked lines. The element lines of noise are not counted.
  pub made_header_lem : (job_of (written_by (make_reply qubits outcomes shots lines seed out))).header ≡ made_header qubits outcomes shots seed
  made_header_lem = rw writes.written (text_header qubits outcomes shots seed writes.range lines)

  pub made_qubits : (job_of (written_by (make_reply qubits outcomes shots lines seed out))).header.qubits ≡ qubits
  unfolding made_header
  made_qubits = ap (λ (h : Header). h.qubits) made_header_lem

  pub made_outcomes : (job_of (written_by (make_reply qubits outcomes shots lines seed out))).header.outcomes ≡ outcomes
  unfolding made_header
  made_outcomes = ap (λ (h : Header). h.outcomes) made_header_lem

  pub made_shots : (job_of (written_by (make_reply qubits outcomes shots lines seed out))).header.shots ≡ shots
  unfolding made_header
  made_shots = ap (λ (h : Header). h.shots) made_header_lem

  pub made_lines : length (instructions_of (job_of (written_by (make_reply qubits outcomes shots lines seed out))).instructions) ≡ lines
  made_lines =
      let k = known qubits outcomes shots seed writes.range lines in
      rw writes.written (ap length (text_instructions qubits outcomes shots seed writes.range lines k) ∙ k.count)

-- Up to 1,000 lines fit 1,048,576 bytes, for every seed but zero.
pub made_fits : (qubits outcomes shots lines seed : ℕ) (out : List ℕ) → in_range (header_with 1 qubits outcomes shots) ≡ true → (seed ≡ 0 → ⊥) → lines ≤ 1000
    → 1048576 ≤ length out → (make_reply qubits outcomes shots lines seed out).answered ≡ accepted
made_fits qubits outcomes shots lines seed out = make_fits qubits outcomes shots lines seed out

-- ---- every kind of line comes up

-- For a header in range, up to 1,000 lines and 1,048,576 lent bytes, every kind of line that the header and the number of lines allow comes up for the
-- seed that `kind_seed` names: each gate, ControlledY among them, c, p, e, k, m, f, resets of one qubit and of several, i, noise with d=1 to d=4, t, o, r and b.
module _ (qubits outcomes shots lines : ℕ) (out : List ℕ) (range : in_range (header_with 1 qubits outcomes shots) ≡ true) (few_lines : lines ≤ 1000)
    (room : 1048576 ≤ length out)
  where
    -- from this seed the call answers 0, and the first line of the job that it writes (for t the second) is of this kind
    pub record Comes (seed : ℕ) (kind : LineKind) : Type 0 where
      pub answered : (make_reply qubits outcomes shots lines seed out).answered ≡ accepted
      pub stands : StandsAt (place_of kind) (OfKind kind) (instructions_of (job_of (written_by (make_reply qubits outcomes shots lines seed out))).instructions)

    pub kinds_come : (kind : LineKind) → Allowed qubits outcomes lines kind → Comes (kind_seed kind) kind
    kinds_come kind allowed =
        let seed = kind_seed kind in
        let c = kind_comes qubits outcomes shots range lines kind allowed in
        let zero = make_fits qubits outcomes shots lines seed out range c.seeded few_lines room in
        let w = make_writes qubits outcomes shots lines seed out (ap (λ (r : Answer). r.number) zero) in
        record { answered = zero; stands = rw w.written c.stands }

-- `Allowed` leaves nothing out: if an accepted job has a line of a kind, whatever made it, its header and number of lines allow that kind.
pub accepted_allowed : (job : List ℕ) → (check_job job).number ≡ 0 → (kind : LineKind) → Among (OfKind kind) (instructions_of (job_of job).instructions)
    → Allowed (job_of job).header.qubits (job_of job).header.outcomes (length (instructions_of (job_of job).instructions)) kind
accepted_allowed job e kind a =
    let sound = checked_sound job e in
    list_allowed (job_of job).header sound.header kind _ (placed_list (job_of job).header 0 (job_of job).instructions sound.instructions) a
