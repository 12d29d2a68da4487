-- Theorems on callers with shares of the main list: a call with a share is the plain call on the words available; no word is handed out twice, and none is
-- lost; and demand 3 job by job. Their proofs stand in Laws. Assumes nothing.
use Rattle.std.specs.Prelude.{◌≡◌, refl, ◌⊎◌, List, [], ◌∷◌, ◌++◌, map, ℕ, ◌+◌, ◌≤◌, ◌<◌, leb, length, get_or, take}
use Rattle.std.proofs.Common.{sym, ap, subst, ◌∙◌, arith, eq-eqb, leb-true}
use Rattle.std.proofs.Math.Option.{none}
use Rattle.text.proofs.Laws.Values.{both}
use Rattle.job.specs.Line.{Placed}
use Rattle.job.specs.Job.{answer, accepted, max_bytes, Job, job_of}
use Rattle.job.specs.Reply.{TextReply, refused_text}
use Rattle.draws.specs.Draws.{Lent}
use Rattle.draws.specs.Settle.{settle}
use Rattle.draws.specs.Known.{SpentAt, main_left}
use Rattle.draws.specs.Left.{spent_on, left_after}
use Rattle.draws.proofs.Laws.Spent.{spent_at_lem}
use Rattle.draws.proofs.Laws.Left.{left_spent_lem, taken_enough, taken_needed}
use Rattle.run.specs.Run.{Source, Memory, RunReply, outcome_words_of, enough_words, lent_of, untouched, run_reply, with_source}
use Rattle.backward.specs.Settling.{settle_reply}
use Rattle.backward.proofs.SizeTheorems.{figure_enough}
use Rattle.backward.proofs.CallTheorems.{Demand3, demand_3_calls}
use Rattle.shares.specs.Shares.{Share, sum, stretch_from, own_left, common_left, available, marks_fit, marks_after}
use Rattle.shares.specs.Replies.{shared, taken_by, takes_words, tested, shared_reply, shared_run_reply, shared_settle_reply}
use Rattle.shares.specs.Account.{times, words_at, available_places, Passes, with_main, Call, caller_of, room_emptied, written, job_in, calls_of, reply_to, handed, handed_by, marks_through, handed_through, StaysOwn, TakeAlike, AllRunOrStay, nothing_taken, Within, left_in_stretches, left_in_common}
use Rattle.shares.proofs.Laws.Places.{marked, marked_once, marked_behind, marked_none, left_none}
use Rattle.shares.proofs.Laws.Words.{map_take, available_words, taken_left}
use Rattle.shares.proofs.Laws.Moves.{takes_zero, takes_none, takes_by, kept, moves}
use Rattle.shares.proofs.Laws.Sequences.{nothing_taken_lem, through_within, through_marked, through_left, common_none, others_none}
use Rattle.shares.proofs.Laws.Alike.{SettlesAlike, run_alike}
use Rattle.shares.proofs.Laws.Alone.{call_same, agree_through, alike_through}
use Rattle.shares.proofs.Laws.Behaviours.{both_same}
use Rattle.shares.proofs.Laws.Room.{both_written}
use Rattle.shares.proofs.Laws.Spent.{run_passed, run_settles, settling_passed, short_passed, settling_settles}

-- ---- the plain call on the words available

pub shared_run_is_plain : (job : List ℕ) (m : Memory) (s : Share) → Passes job (enough_words (job_of job).header m) s m.source.main
    → (shared_run_reply job m s).reply ≡ run_reply job (with_source m (shared s m.source))
unfolding shared_run_reply shared_reply tested
shared_run_is_plain job m s p = rw (eq-eqb _ _ p.tests, p.lent, p.shares, p.caller) refl

pub shared_settle_is_plain : (job : List ℕ) (from : Source) (out : List ℕ) (s : Share)
    → Passes job (leb (outcome_words_of (job_of job).header) (length from.noiseless)) s from.main
    → (shared_settle_reply job from out s).reply ≡ settle_reply job (shared s from) out
unfolding shared_settle_reply shared_reply tested
shared_settle_is_plain job from out s p = rw (eq-eqb _ _ p.tests, p.lent, p.shares, p.caller) refl

-- So a call without shares is one of a single caller who has no stretch: all words are common.
pub plain_is_one_caller : (main : List ℕ) → available (record { shares = 0 ∷ []; marks = 0 ∷ 0 ∷ []; caller = 0 }) main ≡ main
unfolding available own_left common_left sum
plain_is_one_caller main = refl

-- ---- the words that a job takes

module _ (j : Job) (s : Share) (from : Source) where
  abbrev lent : Lent
  lent = lent_of j.header from

  abbrev words : List ℕ
  words = available s from.main

  -- What a job takes is enough for it: of these words alone it makes what it makes of all that are available.
  pub taken_suffice : settle lent j.instructions (take (taken_by j (shared s from)) words) ≡ settle lent j.instructions words
  unfolding taken_by
  taken_suffice = taken_enough lent j.instructions words

  -- And each of them is needed: of fewer words a noise line needs one of the main list past their end.
  pub taken_all_needed : (n : ℕ) → n < taken_by j (shared s from)
      → (k : ℕ) × (spent : SpentAt lent (take n words) j.instructions k) × (spent.noise.correlation ≡ none)
  unfolding taken_by
  taken_all_needed n few = taken_needed lent j.instructions words n few

-- A job that succeeds takes them, and so does one that is refused by 14, for either list: they are marked as taken.
pub run_marks : (job : List ℕ) (m : Memory) (s : Share)
    → ((shared_run_reply job m s).reply.answered.number ≡ 0 ⊎ (shared_run_reply job m s).reply.answered.number ≡ 14)
    → (shared_run_reply job m s).marks ≡ marks_after s m.source.main (taken_by (job_of job) (shared s m.source))
unfolding shared_run_reply
run_marks job m s by = moves (λ (r : RunReply). r.answered) (λ a. untouched a m) (λ a. refl) job _ s m.source _ (takes_by _ by)

pub settling_marks : (job : List ℕ) (from : Source) (out : List ℕ) (s : Share)
    → ((shared_settle_reply job from out s).reply.answered.number ≡ 0 ⊎ (shared_settle_reply job from out s).reply.answered.number ≡ 14)
    → (shared_settle_reply job from out s).marks ≡ marks_after s from.main (taken_by (job_of job) (shared s from))
unfolding shared_settle_reply
settling_marks job from out s by = moves (λ (r : TextReply). r.answered) (λ a. refused_text a out) (λ a. refl) job _ s from _ (takes_by _ by)

-- A job that is refused by any other number takes no word.
pub refused_run_takes_none : (job : List ℕ) (m : Memory) (s : Share)
    → ((shared_run_reply job m s).reply.answered.number ≡ 0 → ⊥) → ((shared_run_reply job m s).reply.answered.number ≡ 14 → ⊥)
    → (shared_run_reply job m s).marks ≡ s.marks
unfolding shared_run_reply
refused_run_takes_none job m s zero spent =
    kept (λ (r : RunReply). r.answered) (λ a. untouched a m) (λ a. refl) job _ s m.source _ (takes_none _ zero spent)

pub refused_settling_takes_none : (job : List ℕ) (from : Source) (out : List ℕ) (s : Share)
    → ((shared_settle_reply job from out s).reply.answered.number ≡ 0 → ⊥) → ((shared_settle_reply job from out s).reply.answered.number ≡ 14 → ⊥)
    → (shared_settle_reply job from out s).marks ≡ s.marks
unfolding shared_settle_reply
refused_settling_takes_none job from out s zero spent =
    kept (λ (r : TextReply). r.answered) (λ a. refused_text a out) (λ a. refl) job _ s from _ (takes_none _ zero spent)

-- ---- the account

-- Take any list, any shares, and any sequence of runs and settlings by any callers, from nothing taken, each with the marks that the last one left. The list
-- of marks may be longer than the parts are many.
module _ (main shares beyond : List ℕ) (calls : List Call) where
  abbrev final : List ℕ
  final = marks_through main shares calls (nothing_taken shares beyond)

  abbrev out : List ℕ
  out = handed_through main shares calls (nothing_taken shares beyond)

  start : Within main shares (nothing_taken shares beyond)
  start = nothing_taken_lem main shares beyond

  handed_marked : (p : ℕ) → times p out ≡ marked p 0 shares final
  handed_marked p =
      let e = through_marked main shares calls (nothing_taken shares beyond) start p in
      omega (arith, e, marked_none p 0 shares beyond)

  -- No word of the list is handed out twice.
  pub never_twice : (p : ℕ) → times p out ≤ 1
  never_twice p =
      subst (λ (n : ℕ). n ≤ 1) (sym (handed_marked p)) (marked_once p 0 shares final (through_within main shares calls (nothing_taken shares beyond) start).each)

  -- What is handed out are words of the list, where the shares fit it; else every call is refused.
  pub handed_below : sum shares ≤ length main → (p : ℕ) → length main ≤ p → times p out ≡ 0
  handed_below fits p far =
      let w = through_within main shares calls (nothing_taken shares beyond) start in
      handed_marked p ∙ marked_behind p 0 shares final w.each (omega (arith, w.common, fits, far))

  -- The words handed out, plus those left in stretches and in the common part, make the list's length.
  pub all_accounted : sum shares ≤ length main → length out + left_in_stretches shares final + left_in_common main shares final ≡ length main
  all_accounted fits =
      let e = through_left main shares calls (nothing_taken shares beyond) start in
      omega (arith, e, fits, left_none shares beyond, common_none shares beyond)

-- ---- each caller's own

-- A call is handed no word of another's stretch: of the places before the common part, those of its caller's stretch alone.
pub others_untouched : (main shares marks : List ℕ) (c : Call) (p : ℕ) → p < sum shares
    → (p < stretch_from shares (caller_of c) ⊎ stretch_from shares (caller_of c) + get_or shares (caller_of c) 0 ≤ p)
    → times p (handed_by main shares c marks) ≡ 0
others_untouched main shares marks c p below apart = others_none main shares marks c p below apart

first_words : (j : Job) (s : Share) (from : Source)
    → words_at from.main (take (taken_by j (shared s from)) (available_places s from.main)) ≡ take (taken_by j (shared s from)) (available s from.main)
first_words j s from =
    map_take (λ (p : ℕ). get_or from.main p 0) (taken_by j (shared s from)) (available_places s from.main)
    ∙ ap (take (taken_by j (shared s from))) (available_words s from.main)

-- The words at the places that a call is handed are the first of those available, and what is left are the others.
pub handed_words : (j : Job) (s : Share) (from : Source)
    → words_at from.main (take (taken_by j (shared s from)) (available_places s from.main))
    ++ left_after (lent_of j.header from) j.instructions (available s from.main)
    ≡ available s from.main
unfolding taken_by
handed_words j s from =
    ap (λ (l : List ℕ). l ++ left_after (lent_of j.header from) j.instructions (available s from.main)) (first_words j s from)
    ∙ taken_left (lent_of j.header from) j.instructions (available s from.main)

module _ (main shares start : List ℕ) (caller : ℕ) where
  -- the marks after a sequence of calls
  abbrev after : List Call → List ℕ
  after calls = marks_through main shares calls start

  -- A caller whose job stays within the own stretch gets the same deltas for every behaviour of the others. Take two sequences of calls from the
  -- same start, list and shares, in which the caller's own calls are the same: jobs, bases, bits and lent room. The contents of the room may differ.
  -- If a further call of the caller stays within the own stretch after both, its answer, its figure and all that it writes are the same after both.
  pub own_alone_both : (ks ls : List Call) → map room_emptied (calls_of caller ks) ≡ map room_emptied (calls_of caller ls)
      → (last also : Call) → caller_of last ≡ caller → room_emptied last ≡ room_emptied also
      → StaysOwn main shares last (after ks) → StaysOwn main shares also (after ls)
      → written (job_in last) (reply_to main shares last (after ks)) ≡ written (job_in also) (reply_to main shares also (after ls))
  own_alone_both = both_written main shares start caller

  -- If the lent room holds the same too, the whole reply is the same.
  pub own_alone_whole : (ks ls : List Call) → calls_of caller ks ≡ calls_of caller ls → (last : Call) → caller_of last ≡ caller
      → StaysOwn main shares last (after ks) → StaysOwn main shares last (after ls)
      → reply_to main shares last (after ks) ≡ reply_to main shares last (after ls)
  own_alone_whole = both_same main shares start caller

  -- What carries over from one behaviour to another. Take a last call that stays within the own stretch if no one else calls.
  module _ (w : Within main shares start) (below : caller < length shares) (calls : List Call) where
    abbrev alone : List ℕ
    alone = after (calls_of caller calls)

    -- Among the calls of others it gets the same reply if each earlier call of the caller takes its words in both cases or in neither.
    pub own_alone : TakeAlike main shares caller calls start start → (last : Call) → caller_of last ≡ caller → StaysOwn main shares last alone
        → reply_to main shares last alone ≡ reply_to main shares last (after calls)
    own_alone alike =
        call_same main shares caller (agree_through main shares caller start start record { within = w; also = w; own = refl } below calls alike)

    -- This holds if each earlier call is a run or stays within the own stretch.
    pub own_alone_always : AllRunOrStay main shares (calls_of caller calls) start → (last : Call) → caller_of last ≡ caller
        → StaysOwn main shares last alone → reply_to main shares last alone ≡ reply_to main shares last (after calls)
    own_alone_always kept = own_alone (alike_through main shares caller start start record { within = w; also = w; own = refl } below calls kept)

-- ---- number 14

-- The job is spent at a line: of a word of the main list, and then the own stretch and the common part are used up at the word needed; or of one of the second
-- list, and then the words that the lines before took stay taken.
pub spent_both : (lent : Lent) (is : List Placed) (words : List ℕ) (k : ℕ) (s : SpentAt lent words is k)
    → left_after lent is words ≡ spent_on s.noise.correlation (main_left lent words s.before)
spent_both lent is words k s = left_spent_lem s

-- A run with a share that answers 14 is spent at its line, of the words available.
pub run_spent : (job : List ℕ) (m : Memory) (s : Share) (k : ℕ) → (shared_run_reply job m s).reply.answered ≡ answer 14 k
    → SpentAt (lent_of (job_of job).header m.source) (available s m.source.main) (job_of job).instructions k
unfolding takes_words enough_words
run_spent job m s k e =
    let p = run_passed job m s (ap takes_words e) in
    spent_at_lem _ _ _ k (run_settles job (with_source m (shared s m.source)) p.tests (both (enough_words (job_of job).header m) (marks_fit s) p.lent).0 k
    (ap (λ (r : RunReply). r.answered) (sym (shared_run_is_plain job m s p)) ∙ e))

-- So is settling.
pub settling_spent : (job : List ℕ) (from : Source) (out : List ℕ) (s : Share) (k : ℕ) → (shared_settle_reply job from out s).reply.answered ≡ answer 14 k
    → SpentAt (lent_of (job_of job).header from) (available s from.main) (job_of job).instructions k
unfolding takes_words
settling_spent job from out s k e =
    let p = settling_passed job from out s (ap takes_words e) in
    let enough = leb-true _ _ (both (leb (outcome_words_of (job_of job).header) (length from.noiseless)) (marks_fit s) p.lent).0 in
    spent_at_lem _ _ _ k (settling_settles job (shared s from) out p.tests enough k
    (ap (λ (r : TextReply). r.answered) (sym (shared_settle_is_plain job from out s p)) ∙ e))

-- ---- number 15

-- Where settling with a share answers 15 and its text is within the limit, the same call with as many bytes as its figure says, or more, and with the marks
-- that it left succeeds with that figure.
pub figure_enough_shared : (job : List ℕ) (from : Source) (out : List ℕ) (s : Share) → (shared_settle_reply job from out s).reply.answered.number ≡ 15
    → (shared_settle_reply job from out s).reply.figure ≤ max_bytes → (other : List ℕ) → (shared_settle_reply job from out s).reply.figure ≤ length other
    → let again = (shared_settle_reply job from other (record { shares = s.shares; marks = (shared_settle_reply job from out s).marks; caller = s.caller })).reply in
    (again.answered ≡ accepted) × (again.figure ≡ (shared_settle_reply job from out s).reply.figure)
figure_enough_shared job from out s short within other lent =
    let p = short_passed job from out s short in
    let plain = shared_settle_is_plain job from out s p in
    let again = shared_settle_is_plain job from other s p in
    let same : (shared_settle_reply job from out s).reply.figure ≡ (settle_reply job (shared s from) out).figure = ap (λ (r : TextReply). r.figure) plain in
    let kept : (shared_settle_reply job from out s).marks ≡ s.marks =
    refused_settling_takes_none job from out s (λ zero. absurd (omega (arith, zero, short))) (λ spent. absurd (omega (arith, spent, short))) in
    let enough = figure_enough job (shared s from) out (sym (ap (λ (r : TextReply). r.answered.number) plain) ∙ short) other (omega (arith, same, within)) (omega (arith, same, lent)) in
    rw kept (ap (λ (r : TextReply). r.answered) again ∙ enough.0, ap (λ (r : TextReply). r.figure) again ∙ enough.1 ∙ sym same)

-- ---- demand 3

-- Job by job: a run with a share that answers 0 is a run of the words available, and demand 3 holds of that run.
pub demand_3_shared : (job : List ℕ) (m : Memory) (s : Share) → (shared_run_reply job m s).reply.answered.number ≡ 0
    → ((shared_run_reply job m s).reply ≡ run_reply job (with_source m (shared s m.source))) × Demand3 job (with_source m (shared s m.source))
demand_3_shared job m s zero =
    let same = shared_run_is_plain job m s (run_passed job m s (takes_zero (shared_run_reply job m s).reply.answered zero)) in
    (same, demand_3_calls job (with_source m (shared s m.source)) (ap (λ (r : RunReply). r.answered.number) (sym same) ∙ zero))

-- from the words that a run is handed the job settles as from all that are available
handed_settle : (job : List ℕ) (m : Memory) (s : Share) → (shared_run_reply job m s).reply.answered.number ≡ 0
    → let words = words_at m.source.main (handed (job_of job) s m.source (shared_run_reply job m s).reply.answered) in
    SettlesAlike job m.source words (available s m.source.main)
unfolding handed
handed_settle job m s zero =
    let j = job_of job in
    let from = m.source in
    rw (takes_zero (shared_run_reply job m s).reply.answered zero)
    (ap (settle (lent_of j.header from) j.instructions) (first_words j s from) ∙ taken_suffice j s from)

-- With the draws taken as handed out: a run with a share that answers 0 is the plain run whose main list is exactly the words that it was handed, in
-- their order, and demand 3 holds of that run.
pub demand_3_of_handed : (job : List ℕ) (m : Memory) (s : Share) → (shared_run_reply job m s).reply.answered.number ≡ 0
    → let words = words_at m.source.main (handed (job_of job) s m.source (shared_run_reply job m s).reply.answered) in
    ((shared_run_reply job m s).reply ≡ run_reply job (with_main words m)) × Demand3 job (with_main words m)
demand_3_of_handed job m s zero =
    let (plain, d) = demand_3_shared job m s zero in
    let words = words_at m.source.main (handed (job_of job) s m.source (shared_run_reply job m s).reply.answered) in
    let same : (shared_run_reply job m s).reply ≡ run_reply job (with_main words m) =
    plain ∙ run_alike job m (available s m.source.main) words (λ p l. sym (handed_settle job m s zero)) in
    (same, demand_3_calls job (with_main words m) (ap (λ (r : RunReply). r.answered.number) (sym same) ∙ zero))
