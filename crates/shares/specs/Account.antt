-- Definitions that the theorems on shares use: sequences of calls, and the places of the main list whose words they are handed. Assumes nothing.
use Rattle.std.specs.Prelude.{◌≡◌, Bool, true, false, cond, ◌&&◌, List, [], ◌∷◌, ◌++◌, map, ℕ, zero, suc, ◌+◌, ◌-◌, ◌≤◌, ◌<◌, eqb, leb, length, get_or, take, replicate}
use Rattle.std.proofs.Math.Option.{none}
use Rattle.job.specs.declared.Answer.{Answer}
use Rattle.job.specs.Line.{Placed}
use Rattle.job.specs.Job.{Job, job_of, check_job}
use Rattle.job.specs.Reply.{TextReply}
use Rattle.draws.specs.Draws.{Lent}
use Rattle.draws.specs.Known.{SpentAt}
use Rattle.run.specs.Run.{Source, Memory, RunReply, frame_words_of, outcome_words_of, enough_words, lent_of, with_source}
use Rattle.shares.specs.Shares.{Share, sum, stretch_from, own_left, common_left, marks_fit, each_within_of, shares_fit_of, caller_fits}
use Rattle.shares.specs.Replies.{shared, taken_by, takes_words, Shared, shared_run_reply, shared_settle_reply}

-- ---- places

-- so many places from one on
unfoldable pub places : ℕ → ℕ → List ℕ
places at zero = []
places at (suc n) = at ∷ places (suc at) n

-- the words of a list at some places
abbrev pub words_at : List ℕ → List ℕ → List ℕ
words_at main = map (λ (p : ℕ). get_or main p 0)

-- how often a place stands in a list
unfoldable pub times : ℕ → List ℕ → ℕ
times p [] = 0
times p (q ∷ qs) = cond (eqb p q) (suc (times p qs)) (times p qs)

-- the places of the words that are available to a caller, in the order in which they are read
unfoldable pub available_places : Share → List ℕ → List ℕ
available_places s main =
    places (stretch_from s.shares s.caller + get_or s.marks s.caller 0) (length (own_left s.shares s.marks s.caller main))
    ++ places (sum s.shares + get_or s.marks (length s.shares) 0) (length (common_left s.shares s.marks main))

-- the places whose words a call is handed: the first of those available, as many as its job takes
unfoldable pub handed : Job → Share → Source → Answer → List ℕ
handed j s from a = cond (takes_words a) (take (taken_by j (shared s from)) (available_places s from.main)) []

-- ---- what passes the tests

-- the tests of the job, the lent words, the shares and the caller's number
pub record Passes (job : List ℕ) (enough : Bool) (s : Share) (main : List ℕ) : Type 0 where
  pub tests : (check_job job).number ≡ 0
  pub lent : (enough && marks_fit s) ≡ true
  pub shares : shares_fit_of s main ≡ true
  pub caller : caller_fits s ≡ true

-- ---- calls

-- a run or a settling: the caller's number, the job, and what is lent beside the main list and the marks
pub data Call : Type 0 where
  run : ℕ → List ℕ → Memory → Call
  settle : ℕ → List ℕ → Source → List ℕ → Call

-- the whole reply of a call
pub data Reply : Type 0 where
  ran : RunReply → Reply
  wrote : TextReply → Reply

unfoldable pub caller_of : Call → ℕ
caller_of (Call.run c job m) = c
caller_of (Call.settle c job s out) = c

-- ---- lent room

-- the lent room with 0 in place of what it holds before the call: its lengths alone
abbrev pub zeros : List ℕ → List ℕ
zeros room = replicate (length room) 0

abbrev pub emptied : Memory → Memory
emptied m = record { x = zeros m.x; z = zeros m.z; deltas = zeros m.deltas; totals = zeros m.totals; source = m.source }

unfoldable pub room_emptied : Call → Call
room_emptied (Call.run c job m) = Call.run c job (emptied m)
room_emptied (Call.settle c job s out) = Call.settle c job s (zeros out)

-- Of a reply the answer, the figure, and what the call wrote: the words and totals that the header needs if a run answers 0 or 14, the text if
-- settling answers 0, else nothing.
unfoldable pub written_words : List ℕ → RunReply → RunReply
written_words job r =
    let h = (job_of job).header in
    let wrote = takes_words r.answered in
    record {
      answered = r.answered;
      x = take (cond wrote (frame_words_of h) 0) r.x;
      z = take (cond wrote (frame_words_of h) 0) r.z;
      deltas = take (cond wrote (outcome_words_of h) 0) r.deltas;
      totals = take (cond wrote h.outcomes 0) r.totals;
    }

unfoldable pub written_bytes : TextReply → TextReply
written_bytes r = record { answered = r.answered; figure = r.figure; out = take (cond (eqb r.answered.number 0) r.figure 0) r.out }

unfoldable pub written : List ℕ → Reply → Reply
written job (Reply.ran r) = Reply.ran (written_words job r)
written job (Reply.wrote r) = Reply.wrote (written_bytes r)

unfoldable pub job_in : Call → List ℕ
job_in (Call.run c job m) = job
job_in (Call.settle c job s out) = job

-- ---- from the same list, under the same shares

-- what is lent, with this main list
abbrev pub from : List ℕ → Source → Source
from main s = record { noiseless = s.noiseless; main = main; second = s.second; base = s.base }

abbrev pub with_main : List ℕ → Memory → Memory
with_main main m = with_source m (from main m.source)

-- A job stays within a list: drawn from that list alone, no noise line needs a word of the main list past its end.
unfoldable pub StaysWithin : Lent → List Placed → List ℕ → Type 0
StaysWithin lent is words = (k : ℕ) (s : SpentAt lent words is k) → s.noise.correlation ≡ none → ⊥

-- of the caller's own call, and what follows it; or of what follows another's
unfoldable pub TakesAlike : Bool → Type 0 → Type 0 → Type 0 → Type 0
TakesAlike true own later others = own × later
TakesAlike false own later others = others

module _ (main shares : List ℕ) where
  -- a caller's share, with the marks that the last call left
  abbrev pub share_of : ℕ → List ℕ → Share
  share_of caller marks = record { shares = shares; marks = marks; caller = caller }

  abbrev pub ran_by : ℕ → List ℕ → Memory → List ℕ → Shared RunReply
  ran_by c job m marks = shared_run_reply job (with_main main m) (share_of c marks)

  abbrev pub settled_by : ℕ → List ℕ → Source → List ℕ → List ℕ → Shared TextReply
  settled_by c job s out marks = shared_settle_reply job (from main s) out (share_of c marks)

  -- a call's reply, the marks that it leaves, and the places that it is handed
  unfoldable pub reply_to : Call → List ℕ → Reply
  reply_to (Call.run c job m) marks = Reply.ran (ran_by c job m marks).reply
  reply_to (Call.settle c job s out) marks = Reply.wrote (settled_by c job s out marks).reply

  unfoldable pub marks_by : Call → List ℕ → List ℕ
  marks_by (Call.run c job m) marks = (ran_by c job m marks).marks
  marks_by (Call.settle c job s out) marks = (settled_by c job s out marks).marks

  unfoldable pub handed_by : Call → List ℕ → List ℕ
  handed_by (Call.run c job m) marks = handed (job_of job) (share_of c marks) (from main m.source) (ran_by c job m marks).reply.answered
  handed_by (Call.settle c job s out) marks = handed (job_of job) (share_of c marks) (from main s) (settled_by c job s out marks).reply.answered

  -- a sequence of calls, each with the marks that the last one left
  unfoldable pub marks_through : List Call → List ℕ → List ℕ
  marks_through [] marks = marks
  marks_through (c ∷ cs) marks = marks_through cs (marks_by c marks)

  unfoldable pub handed_through : List Call → List ℕ → List ℕ
  handed_through [] marks = []
  handed_through (c ∷ cs) marks = handed_by c marks ++ handed_through cs (marks_by c marks)

  -- A call whose job stays within the caller's own stretch. One that the tests of the job or 13 refuse reads no word; nor does one that 25 or 26
  -- refuse, of which the same is asked all the same.
  unfoldable pub StaysOwn : Call → List ℕ → Type 0
  StaysOwn (Call.run c job m) marks =
      (check_job job).number ≡ 0 → enough_words (job_of job).header m ≡ true
      → StaysWithin (lent_of (job_of job).header m.source) (job_of job).instructions (own_left shares marks c main)
  StaysOwn (Call.settle c job s out) marks =
      (check_job job).number ≡ 0 → leb (outcome_words_of (job_of job).header) (length s.noiseless) ≡ true
      → StaysWithin (lent_of (job_of job).header s) (job_of job).instructions (own_left shares marks c main)

  -- whether a call takes the words that it reads
  unfoldable pub takes : Call → List ℕ → Bool
  takes (Call.run c job m) marks = takes_words (ran_by c job m marks).reply.answered
  takes (Call.settle c job s out) marks = takes_words (settled_by c job s out marks).reply.answered

  -- Each of a caller's calls takes its words where no one else calls and among the calls of others, or in neither case.
  unfoldable pub TakeAlike : ℕ → List Call → List ℕ → List ℕ → Type 0
  TakeAlike caller [] marks among = Unit {0}
  TakeAlike caller (c ∷ cs) marks among =
      TakesAlike (eqb (caller_of c) caller) (takes c marks ≡ takes c among) (TakeAlike caller cs (marks_by c marks) (marks_by c among))
      (TakeAlike caller cs marks (marks_by c among))

  -- A call that stays within the caller's own stretch, or is a run. A run takes words wherever it reads them; settling takes none where its text finds no
  -- room, and how long the text is hangs on the words of the common part, if the job gets that far.
  unfoldable pub RunOrStays : Call → List ℕ → Type 0
  RunOrStays (Call.run c job m) marks = Unit {0}
  RunOrStays (Call.settle c job s out) marks = StaysOwn (Call.settle c job s out) marks

  -- each of a sequence of calls
  unfoldable pub AllRunOrStay : List Call → List ℕ → Type 0
  AllRunOrStay [] marks = Unit {0}
  AllRunOrStay (c ∷ cs) marks = RunOrStays c marks × AllRunOrStay cs (marks_by c marks)

-- a caller's calls among those of all
unfoldable pub calls_of : ℕ → List Call → List Call
calls_of caller [] = []
calls_of caller (c ∷ cs) = cond (eqb (caller_of c) caller) (c ∷ calls_of caller cs) (calls_of caller cs)

-- nothing taken: a mark of zero for each caller, and for the common part; a list of marks may be longer
abbrev pub nothing_taken : List ℕ → List ℕ → List ℕ
nothing_taken shares beyond = replicate (suc (length shares)) 0 ++ beyond

-- no more is marked taken than the parts hold
pub record Within (main shares marks : List ℕ) : Type 0 where
  pub marked_all : length shares < length marks
  pub each : each_within_of shares marks ≡ true
  pub common : get_or marks (length shares) 0 ≤ length main - sum shares

-- what is left of all stretches
unfoldable pub left_in_stretches : List ℕ → List ℕ → ℕ
left_in_stretches [] marks = 0
left_in_stretches (n ∷ shares) [] = n + left_in_stretches shares []
left_in_stretches (n ∷ shares) (k ∷ marks) = (n - k) + left_in_stretches shares marks

-- and of the common part
abbrev pub left_in_common : List ℕ → List ℕ → List ℕ → ℕ
left_in_common main shares marks = length main - sum shares - get_or marks (length shares) 0
