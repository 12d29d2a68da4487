-- The replies of the calls, one after the other, and what the later calls need. Laws. Assumes nothing.
use Rattle.std.specs.Prelude.{◌≡◌, refl, Bool, true, false, ◌&&◌, List, ℕ, ◌+◌, ◌/◌, ◌≤◌, ◌<◌, leb, length, get_or, take, drop}
use Rattle.std.proofs.Common.{sym, ap, ◌∙◌, arith, length-append}
use borrow.Author.Tests.{eq-eqb, ne_eqb, leb-true}
use Rattle.text.proofs.Laws.Values.{both}
use Rattle.job.specs.declared.Header.{Header}
use Rattle.job.specs.Job.{answer, job_of, recorded_in, check_job}
use Rattle.job.specs.Reply.{TextReply, written_by}
use Rattle.job.specs.declared.CountReply.{CountReply}
use Rattle.job.proofs.Theorems.{checked_sound}
use Rattle.job.proofs.Laws.Lists.{below_more, below_at}
use Rattle.draws.specs.Settle.{settled_text}
use Rattle.rows.specs.Words.{words_per_row}
use Rattle.rows.specs.Listed.{RowsIn}
use Rattle.rows.proofs.Laws.Overwrite.{before_row}
use Rattle.run.specs.Run.{Source, Memory, RunReply, frame_words_of, outcome_words_of, enough_words, run_reply}
use Rattle.writer.specs.declared.TextAnswer.{TextAnswer}
use Rattle.writer.specs.Reply.{text_reply}
use Rattle.backward.specs.Settling.{settle_reply}
use Rattle.backward.specs.Walking.{walkable, walk_reply}
use Rattle.backward.proofs.CallTheorems.{written_walked}
use Rattle.backward.proofs.Laws.Replies.{run_ends, settle_writes}
use Rattle.backward.proofs.Laws.CallsAgree.{Walkable, walkable_parts}
use Rattle.agreement.specs.declared.Call.TheVariants.{Run, Settle, Walk}
use Rattle.agreement.specs.declared.Agreement.{Agreement}
use Rattle.totals.specs.Sum.{delta_sum_of}
use Rattle.agreement.specs.Agree.{refused_by, compared, AgreeReply, agree_reply}
use Rattle.agreement.specs.Laws.Cases.{said_run, said_settle, said_walk, said_compared}
use Rattle.agreement.specs.Theorems.{calls_agree}

-- ---- what the later calls need

-- a job that was run passes the tests
pub run_accepted : (job : List ℕ) (m : Memory) {ran : RunReply} → run_reply job m ≡ ran → ran.answered.number ≡ 0 → (check_job job).number ≡ 0
run_accepted job m runs done = (run_ends job m (ap (λ (r : RunReply). r.answered.number) runs ∙ done)).passes

-- the text that settling wrote lies in the lent bytes
pub text_within : (job : List ℕ) (source : Source) (out : List ℕ) {s : TextAnswer} {after : List ℕ} → text_reply s after ≡ settle_reply job source out
    → s.answer.number ≡ 0 → s.figure ≤ length after
text_within job source out {s} {after} settles settled =
    let (ls, to) = settle_writes job source out (sym (ap (λ (r : TextReply). r.answered.number) settles) ∙ settled) in
    let text = settled_text (job_of job).text ls in
    let figure : s.figure ≡ length text = ap (λ (r : TextReply). r.figure) (settles ∙ to.reply) in
    let bytes : length after ≡ length text + length (drop (length text) out) =
    ap (λ (r : TextReply). length r.out) (settles ∙ to.reply) ∙ length-append text (drop (length text) out) in
    omega arith

-- a walk on it takes a shot of the job, and a set of its recorded outcomes
walk_taken : (job : List ℕ) (source : Source) (out : List ℕ) (shot : ℕ) (set : List ℕ) {s : TextAnswer} {after : List ℕ} {w : CountReply}
    → text_reply s after ≡ settle_reply job source out → s.answer.number ≡ 0 → w ≡ walk_reply (take s.figure after) shot set → w.answered.number ≡ 0
    → Walkable (job_of job) shot set
walk_taken job source out shot set settles settled walks walked = go (walkable (job_of job) shot set) refl
  where
    written : (settle_reply job source out).answered.number ≡ 0
    written = sym (ap (λ (r : TextReply). r.answered.number) settles) ∙ settled

    counted : (walk_reply (written_by (settle_reply job source out)) shot set).answered.number ≡ 0
    counted =
        ap (λ (r : TextReply). (walk_reply (written_by r) shot set).answered.number) (sym settles) ∙ sym (ap (λ (r : CountReply). r.answered.number) walks) ∙ walked

    go : (b : Bool) → walkable (job_of job) shot set ≡ b → Walkable (job_of job) shot set
    go true e = walkable_parts (job_of job) shot set e
    go false e =
        let (ls, to) = settle_writes job source out written in
        let refuses = written_walked job source out written ls to.settles shot set in
        let no : ◌≡◌ {A = ℕ} 0 17 = sym counted ∙ ap (λ (r : CountReply). r.answered.number) (rw e at refuses) in
        absurd (omega arith)

delta_words : (h : Header) (m : Memory) → enough_words h m ≡ true → outcome_words_of h ≤ length m.deltas
unfolding enough_words
delta_words h m e =
    let four = both (leb (frame_words_of h) (length m.x) && leb (frame_words_of h) (length m.z) && leb (outcome_words_of h) (length m.deltas) && leb h.outcomes (length m.totals)) _ e in
    let three = both (leb (frame_words_of h) (length m.x) && leb (frame_words_of h) (length m.z) && leb (outcome_words_of h) (length m.deltas)) _ four.0 in
    leb-true _ _ (both (leb (frame_words_of h) (length m.x) && leb (frame_words_of h) (length m.z)) _ three.0).1

-- so the rows of the set, and the shot in them, lie in the words of a run of the job
rows_within : (job : List ℕ) (m : Memory) (shot : ℕ) (set : List ℕ) {ran : RunReply} {deltas : List ℕ} {words : ℕ} → run_reply job m ≡ ran
    → ran.answered.number ≡ 0 → Walkable (job_of job) shot set → words ≡ words_per_row (job_of job).header.shots → length deltas ≡ length m.deltas
    → RowsIn words set deltas × (shot / 64 < words)
rows_within job m shot set runs done taken row kept =
    let ends = run_ends job m (ap (λ (r : RunReply). r.answered.number) runs ∙ done) in
    let h = (job_of job).header in
    let recorded = below_more (recorded_in (job_of job).instructions) h.outcomes set (checked_sound job ends.passes).recorded taken.recorded in
    let below = taken.below in
    let lent = delta_words h m ends.enough in
    rw row
    (record { fits = λ i k. omega (arith, before_row (words_per_row h.shots) (get_or set i 0) h.outcomes (below_at h.outcomes set recorded i k)) }, omega arith)

-- ---- the replies

-- what is said, the words that a run left, and the bytes
abbrev reply_of : Agreement → RunReply → List ℕ → AgreeReply
reply_of a ran after = record { agreement = a; x = ran.x; z = ran.z; deltas = ran.deltas; totals = ran.totals; out = after }

module _ (job : List ℕ) (m : Memory) (out : List ℕ) (shot : ℕ) (set : List ℕ) where
  -- a reply, and that the calls agree
  abbrev Replies : AgreeReply → Type 0
  Replies r = (agree_reply job m out shot set ≡ r) × (r.agreement.answer.number ≡ 0 → r.agreement.agrees ≡ true)

  replies : {r : AgreeReply} → agree_reply job m out shot set ≡ r → Replies r
  replies e =
      (e, λ z. sym (ap (λ (r : AgreeReply). r.agreement.agrees) e) ∙ calls_agree job m out shot set (ap (λ (r : AgreeReply). r.agreement.answer.number) e ∙ z))

  module _ {ran : RunReply} (runs : run_reply job m ≡ ran) where
    pub run_refused : {a : Agreement} → (ran.answered.number ≡ 0 → ⊥) → a ≡ refused_by Run ran.answered 0 → Replies (reply_of a ran out)
    unfolding agree_reply
    run_refused ne says = replies (rw (runs, said_run ran _ _ _ ne, ne_eqb ran.answered.number 0 ne, says))

    module _ (done : ran.answered.number ≡ 0) {s : TextAnswer} {after : List ℕ} (settles : text_reply s after ≡ settle_reply job m.source out) where
      pub settle_refused : {a : Agreement} → (s.answer.number ≡ 0 → ⊥) → a ≡ refused_by Settle s.answer s.figure → Replies (reply_of a ran after)
      unfolding agree_reply
      settle_refused ne says = replies (rw (runs, ← settles, said_settle ran (text_reply s after) _ _ done ne, eq-eqb ran.answered.number 0 done, says))

      module _ (settled : s.answer.number ≡ 0) {w : CountReply} (walks : w ≡ walk_reply (take s.figure after) shot set) where
        pub walk_refused : {a : Agreement} → (w.answered.number ≡ 0 → ⊥) → a ≡ refused_by Walk w.answered s.figure → Replies (reply_of a ran after)
        unfolding agree_reply
        walk_refused ne says =
            replies (rw (runs, ← settles, ← walks, said_walk ran (text_reply s after) w _ done settled ne, eq-eqb ran.answered.number 0 done, says))

        module _ (walked : w.answered.number ≡ 0) {words : ℕ} (row : words ≡ words_per_row (job_of job).header.shots) where
          pub rows_ready : {deltas : List ℕ} → length deltas ≡ length m.deltas → RowsIn words set deltas × (shot / 64 < words)
          rows_ready kept = rows_within job m shot set runs done (walk_taken job m.source out shot set settles settled walks walked) row kept

          pub none_refused : {sum : ℕ} → sum ≡ delta_sum_of words ran.deltas shot set → Replies (reply_of (compared w s.figure sum) ran after)
          unfolding agree_reply
          none_refused is =
              replies
              (rw (runs, ← settles, ← walks, ← row, ← is, said_compared ran (text_reply s after) w _ done settled walked, eq-eqb ran.answered.number 0 done))
