-- Laws: the deltas that a run leaves, and the walk on a settled text. Assumes nothing.
use Rattle.std.proofs.Math.Path.{◌≡◌, refl, sym, ap}
use Rattle.std.proofs.Common.{ap₂, ◌∙◌, mul-le-mul_right, arith, le-leb, ltb-true, lt-ltb}
use Rattle.std.specs.Prelude.{Bool, true, cond, ◌&&◌, List, [], ◌∷◌, ℕ, suc, ◌+◌, ◌*◌, ◌/◌, ◌<◌, ◌≤◌, leb, ltb, length, drop}
use Rattle.std.proofs.Math.Bool.{false}
use Rattle.std.proofs.Math.Option.{none}
use Rattle.text.proofs.Laws.Values.{both}
use Rattle.std.proofs.Math.ListN.{get_or-append}
use Rattle.pauli.specs.Bits.{Bits, ◌⊕◌, members, sum_over}
use Rattle.text.specs.List.{is_rising_of}
use Rattle.job.specs.declared.Header.{Header}
use Rattle.job.specs.declared.Answer.{Answer}
use Rattle.job.specs.Checks.{all_below}
use Rattle.job.specs.Job.{answer, accepted, Job, job_of, recorded_in, check_job}
use Rattle.job.specs.Reply.{over, TextReply, refused_text, text_fits_of, written_text, refused_count}
use Rattle.job.proofs.Theorems.{checked_sound}
use Rattle.job.proofs.Laws.Lists.{below_first, below_more}
use Rattle.frames.specs.Forward.{setting_of, run, start}
use Rattle.draws.specs.Settle.{SettledLine, Settled, settled_list, settled_text, placed_from}
use Rattle.draws.specs.Execute.{States, starts}
use Rattle.draws.proofs.Theorems.{executed_spent, executed_ended}
use Rattle.draws.proofs.SettledTheorems.{settled_accepted, settled_job, settled_recorded, settled_again}
use Rattle.rows.specs.Words.{words_per_row, bit_in, pack}
use Rattle.rows.proofs.Laws.Pack.{length_pack, pack_bit}
use Rattle.run.specs.Run.{Source, Memory, frame_words_of, outcome_words_of, enough_words, lent_of, RunReply, spent_reply, finished_reply, ended_reply, run_reply, with_source}
use Rattle.run.proofs.Theorems.{short_refused}
use Rattle.backward.specs.Walk.{walk}
use Rattle.backward.specs.Settling.{settled_answer, settle_reply}
use Rattle.backward.specs.Calls.{settling_of}
use Rattle.backward.proofs.Laws.Replies.{settle_reply_lem, settle_refused, settled_fits, run_reply_lem, Ran, run_cases, RunsTo, run_ends}
use Rattle.backward.specs.Walking.{noise_first, first_noise, line_first, plain_lines, walkable, walk_answer, walk_reply}

-- ---- deltas

-- bits of rows that were packed over others
pub over_bit : (rows shots : ℕ) (bits : ℕ → ℕ → Bool) (old : List ℕ) (r s : ℕ) → r < rows → s < shots
    → bit_in (words_per_row shots) (over (pack rows shots bits) old) r s ≡ bits r s
unfolding bit_in
over_bit rows shots bits old r s hr hs =
    let w = words_per_row shots in
    let rest : suc r * w ≤ rows * w = mul-le-mul_right w hr in
    let inside : r * w + s / 64 < length (pack rows shots bits) = omega (arith, length_pack rows shots bits) in
    rw (get_or-append (pack rows shots bits) (drop (length (pack rows shots bits)) old) 0 (r * w + s / 64) inside) (pack_bit rows shots bits r s hr hs)

-- the deltas of a run that came to its end
pub finished_delta : (h : Header) (m : Memory) (states : States) (id shot : ℕ) → id < h.outcomes → shot < h.shots
    → bit_in (words_per_row h.shots) (finished_reply h m states).deltas id shot ≡ (states shot).deltas id
unfolding finished_reply
finished_delta h m states id shot a b = over_bit h.outcomes h.shots (λ i s. (states s).deltas i) m.deltas id shot a b

pub sum_same : (n : ℕ) (ids : List ℕ) (s t : Bits) → all_below n ids ≡ true → ((i : ℕ) → i < n → s i ≡ t i) → sum_over ids s ≡ sum_over ids t
unfolding sum_over
sum_same n [] s t b e = refl
sum_same n (i ∷ ids) s t b e = let parts = below_first n i ids b in ap₂ ◌⊕◌ (e i parts.0) (sum_same n ids s t parts.1 e)

-- ---- the walk

pub placed_quiet : (k : ℕ) (ls : List SettledLine) → first_noise (placed_from k ls) ≡ none
unfolding first_noise noise_first placed_from
placed_quiet k [] = refl
placed_quiet k (l ∷ ls) = placed_quiet (suc k) ls

pub placed_lines : (k : ℕ) (ls : List SettledLine) → plain_lines (placed_from k ls) ≡ settled_list ls
unfolding plain_lines line_first placed_from
placed_lines k [] = refl
placed_lines k (l ∷ ls) = ap (l.line ∷◌) (placed_lines (suc k) ls)

-- a job of settled lines
abbrev pub job_of_settled : Header → List ℕ → List SettledLine → Job
job_of_settled h t ls = record { header = h; text = t; instructions = placed_from 2 ls }

-- the walk of an accepted text by its job
walk_accepted : (text : List ℕ) (j : Job) (shot : ℕ) (set : List ℕ) → check_job text ≡ accepted → job_of text ≡ j
    → walk_reply text shot set ≡ cond (walkable j shot set) (walk_answer j shot set (first_noise j.instructions)) (refused_count (answer 17 0))
unfolding walk_reply
walk_accepted text j shot set passes is =
    rw passes
    (ap (λ (k : Job). cond (walkable k shot set) (walk_answer k shot set (first_noise k.instructions)) (refused_count (answer 17 0))) is)

-- it goes by the header's shots and by the outcomes that are recorded
walkable_same : (j k : Job) (shot : ℕ) (set : List ℕ) → j.header ≡ k.header → recorded_in j.instructions ≡ recorded_in k.instructions
    → walkable j shot set ≡ walkable k shot set
unfolding walkable
walkable_same j k shot set e f = rw (e, f)

-- on a job of settled lines there is no noise
pub walk_numbered : (text : List ℕ) (j : Job) (ls : List SettledLine) (shot : ℕ) (set : List ℕ) → check_job text ≡ accepted
    → job_of text ≡ job_of_settled j.header j.text ls → recorded_in (placed_from 2 ls) ≡ recorded_in j.instructions
    → walk_reply text shot set
    ≡ cond (walkable j shot set) (record { answered = accepted; count = (walk (setting_of j.header shot) (settled_list ls) (members set)).count })
    (refused_count (answer 17 0))
unfolding walk_answer
walk_numbered text j ls shot set passes is recorded =
    walk_accepted text (job_of_settled j.header j.text ls) shot set passes is
    ∙ rw (walkable_same (job_of_settled j.header j.text ls) j shot set refl recorded, placed_quiet 2 ls, placed_lines 2 ls)

-- ---- the text of the lines to which an accepted job settles

module _ (job : List ℕ) (passes : (check_job job).number ≡ 0) (s : Source) (ls : List SettledLine) (settles : settling_of job s ≡ Settled.settled ls)
    (few : length (settled_text (job_of job).text ls) ≤ 1048576)
  where
    abbrev h : Header
    h = (job_of job).header

    abbrev text : List ℕ
    text = settled_text (job_of job).text ls

    pub text_accepted : check_job text ≡ accepted
    text_accepted = settled_accepted job passes (lent_of h s) refl s.main ls settles few

    pub text_job : job_of text ≡ job_of_settled h (job_of job).text ls
    text_job = settled_job job passes (lent_of h s) refl s.main ls settles

    -- its number of words is the job's, and so is its text
    pub same_header : (job_of text).header ≡ h
    same_header = ap (λ (j : Job). j.header) text_job

    same_text : (job_of text).text ≡ (job_of job).text
    same_text = ap (λ (j : Job). j.text) text_job

    pub again : (other : Source) → settling_of text other ≡ Settled.settled ls
    again other = settled_again job passes (lent_of h s) refl s.main ls settles (lent_of (job_of text).header other) other.main

    pub text_again : (other : Source) (lent : List ℕ) → outcome_words_of h ≤ length other.noiseless → length text ≤ length lent
        → settle_reply text other lent ≡ written_text text lent
    text_again other lent enough fits =
        settle_reply_lem text other lent (ap (λ (a : Answer). a.number) text_accepted) (rw same_header enough)
        ∙ ap (λ (o : Settled). settled_answer (job_of text) o lent) (again other)
        ∙ settled_fits (job_of text) ls lent (rw same_text fits) (rw same_text few)
        ∙ ap (λ (t : List ℕ). written_text (settled_text t ls) lent) same_text

    pub text_walked : (shot : ℕ) (set : List ℕ)
        → walk_reply text shot set
        ≡ cond (walkable (job_of job) shot set) (record { answered = accepted; count = (walk (setting_of h shot) (settled_list ls) (members set)).count })
        (refused_count (answer 17 0))
    text_walked shot set =
        walk_numbered text (job_of job) ls shot set text_accepted text_job
        (sym (ap (λ (j : Job). recorded_in j.instructions) text_job) ∙ settled_recorded job passes (lent_of h s) refl s.main ls settles)

-- ---- runs

-- the states to which settled lines bring all shots
abbrev pub states_of : Header → List SettledLine → States
states_of h ls shot = run (setting_of h shot) (settled_list ls) start

pub settled_run : (job : List ℕ) (m : Memory) (ls : List SettledLine) → (check_job job).number ≡ 0 → enough_words (job_of job).header m ≡ true
    → settling_of job m.source ≡ Settled.settled ls → run_reply job m ≡ finished_reply (job_of job).header m (states_of (job_of job).header ls)
unfolding ended_reply
settled_run job m ls passes enough settles =
    run_reply_lem job m passes enough
    ∙ ap (ended_reply (job_of job).header m) (executed_ended (job_of job).header (lent_of (job_of job).header m.source) (job_of job).instructions m.source.main starts ls settles)

-- with another source that has as many noiseless words as are needed
enough_other : (h : Header) (m : Memory) (other : Source) → enough_words h m ≡ true → outcome_words_of h ≤ length other.noiseless
    → enough_words h (with_source m other) ≡ true
unfolding enough_words
enough_other h m other e enough =
    let parts = both (leb (frame_words_of h) (length m.x) && leb (frame_words_of h) (length m.z) && leb (outcome_words_of h) (length m.deltas) && leb h.outcomes (length m.totals)) _ e in
    rw (parts.0, le-leb _ _ enough)

finished_same : (h g : Header) (m : Memory) (other : Source) (ls : List SettledLine) → g ≡ h
    → finished_reply g (with_source m other) (states_of g ls) ≡ finished_reply h m (states_of h ls)
unfolding finished_reply
finished_same h g m other ls e = ap (λ (k : Header). finished_reply k (with_source m other) (states_of k ls)) e

-- a run of the text leaves what a run of the job leaves
pub text_run : (job : List ℕ) (m : Memory) (ls : List SettledLine) → (check_job job).number ≡ 0 → enough_words (job_of job).header m ≡ true
    → settling_of job m.source ≡ Settled.settled ls → length (settled_text (job_of job).text ls) ≤ 1048576
    → (other : Source) → outcome_words_of (job_of job).header ≤ length other.noiseless
    → run_reply (settled_text (job_of job).text ls) (with_source m other) ≡ run_reply job m
text_run job m ls passes enough settles few other words =
    let text = settled_text (job_of job).text ls in
    let same = same_header job passes m.source ls settles few in
    settled_run text (with_source m other) ls (ap (λ (a : Answer). a.number) (text_accepted job passes m.source ls settles few))
    (rw same (enough_other (job_of job).header m other enough words)) (again job passes m.source ls settles few other)
    ∙ finished_same (job_of job).header (job_of text).header m other ls same
    ∙ sym (settled_run job m ls passes enough settles)

-- ---- a run and settling go by one settling

-- 0, or 15
pub settled_number : (j : Job) (ls : List SettledLine) (out : List ℕ)
    → (settled_answer j (Settled.settled ls) out).answered ≡ cond (text_fits_of (settled_text j.text ls) out) accepted (answer 15 0)
unfolding settled_answer
settled_number j ls out = go (text_fits_of (settled_text j.text ls) out) _ _
  where
    go : (b : Bool) (written short : TextReply) → (cond b written short).answered ≡ cond b written.answered short.answered
    go true written short = refl
    go false written short = refl

module _ (job : List ℕ) (m : Memory) where
  -- settling where there is enough for a run
  settled_with : (o : Settled) → (check_job job).number ≡ 0 → enough_words (job_of job).header m ≡ true → settling_of job m.source ≡ o → (out : List ℕ)
      → settle_reply job m.source out ≡ settled_answer (job_of job) o out
  settled_with o passes enough e out =
      settle_reply_lem job m.source out passes (short_refused (job_of job).header m enough).noiseless ∙ ap (λ (p : Settled). settled_answer (job_of job) p out) e

  spent_run : (k : ℕ) → (check_job job).number ≡ 0 → enough_words (job_of job).header m ≡ true → settling_of job m.source ≡ Settled.spent_at k
      → run_reply job m ≡ spent_reply (job_of job).header m k
  unfolding ended_reply
  spent_run k passes enough e =
      run_reply_lem job m passes enough
      ∙ ap (ended_reply (job_of job).header m) (executed_spent (job_of job).header (lent_of (job_of job).header m.source) (job_of job).instructions m.source.main starts k e)

  pub ran_settles : (run_reply job m).answered.number ≡ 0
      → (ls : List SettledLine)
      × (settling_of job m.source ≡ Settled.settled ls)
      × ((out : List ℕ) → settle_reply job m.source out ≡ settled_answer (job_of job) (Settled.settled ls) out)
  ran_settles ran = let r = run_ends job m ran in go (settling_of job m.source) refl r.passes r.enough
    where
      go : (o : Settled) → settling_of job m.source ≡ o → (check_job job).number ≡ 0 → enough_words (job_of job).header m ≡ true
          → (ls : List SettledLine)
          × (settling_of job m.source ≡ Settled.settled ls)
          × ((out : List ℕ) → settle_reply job m.source out ≡ settled_answer (job_of job) (Settled.settled ls) out)
      go (Settled.spent_at k) e passes enough =
          unfold spent_reply in
          (let no : ◌≡◌ {A = ℕ} 14 0 = sym (ap (λ (r : RunReply). r.answered.number) (spent_run k passes enough e)) ∙ ran in absurd (omega arith))
      go (Settled.settled ls) e passes enough = (ls, e, settled_with (Settled.settled ls) passes enough e)

  pub ran_spent : (k : ℕ) → (run_reply job m).answered ≡ answer 14 k → (out : List ℕ) → settle_reply job m.source out ≡ refused_text (answer 14 k) out
  ran_spent k ran out = by (run_cases job m)
    where
      go : (o : Settled) → settling_of job m.source ≡ o → (check_job job).number ≡ 0 → enough_words (job_of job).header m ≡ true
          → settle_reply job m.source out ≡ refused_text (answer 14 k) out
      go (Settled.spent_at n) e passes enough =
          settled_with (Settled.spent_at n) passes enough e out
          ∙ (unfold settled_answer spent_reply in ap (λ (a : Answer). refused_text a out) (sym (ap (λ (r : RunReply). r.answered) (spent_run n passes enough e)) ∙ ran))
      go (Settled.settled ls) e passes enough =
          unfold finished_reply in
          (let no : accepted ≡ answer 14 k = sym (ap (λ (r : RunReply). r.answered) (settled_run job m ls passes enough e)) ∙ ran in
          absurd (let fourteen : ◌≡◌ {A = ℕ} 0 14 = ap (λ (a : Answer). a.number) no in omega arith))

      by : Ran job m → settle_reply job m.source out ≡ refused_text (answer 14 k) out
      by (Ran.refused no-pass e) =
          settle_refused job m.source out no-pass ∙ ap (λ (a : Answer). refused_text a out) (sym (ap (λ (r : RunReply). r.answered) e) ∙ ran)
      by (Ran.short e) =
          let no : answer 13 0 ≡ answer 14 k = sym (ap (λ (r : RunReply). r.answered) e) ∙ ran in
          absurd (let fourteen : ◌≡◌ {A = ℕ} 13 14 = ap (λ (a : Answer). a.number) no in omega arith)
      by (Ran.ran passes enough) = go (settling_of job m.source) refl passes enough

  pub settling_spent : (k : ℕ) (out : List ℕ) → (check_job job).number ≡ 0 → enough_words (job_of job).header m ≡ true
      → (settle_reply job m.source out).answered ≡ answer 14 k → run_reply job m ≡ spent_reply (job_of job).header m k
  settling_spent k out passes enough spent = go (settling_of job m.source) refl
    where
      answered : (o : Settled) → settling_of job m.source ≡ o → (settled_answer (job_of job) o out).answered ≡ answer 14 k
      answered o e = sym (ap (λ (r : TextReply). r.answered) (settled_with o passes enough e out)) ∙ spent

      written : (ls : List SettledLine) (b : Bool) → text_fits_of (settled_text (job_of job).text ls) out ≡ b
          → (settled_answer (job_of job) (Settled.settled ls) out).answered.number ≡ 14 → ⊥
      written ls true f q = unfold settled_answer in (let no : ◌≡◌ {A = ℕ} 0 14 = rw f at q in omega arith)
      written ls false f q = unfold settled_answer in (let no : ◌≡◌ {A = ℕ} 15 14 = rw f at q in omega arith)

      go : (o : Settled) → settling_of job m.source ≡ o → run_reply job m ≡ spent_reply (job_of job).header m k
      go (Settled.spent_at n) e =
          spent_run n passes enough e
          ∙ (unfold settled_answer in ap (λ (a : Answer). spent_reply (job_of job).header m a.line) (answered (Settled.spent_at n) e))
      go (Settled.settled ls) e = absurd (written ls _ refl (ap (λ (a : Answer). a.number) (answered (Settled.settled ls) e)))

-- ---- sums of the deltas that a run left

pub reply_sum : (job : List ℕ) (m : Memory) (r : RunsTo job m) (set : List ℕ) → all_below (recorded_in (job_of job).instructions) set ≡ true → (shot : ℕ)
    → shot < (job_of job).header.shots
    → sum_over set (λ id. bit_in (words_per_row (job_of job).header.shots) (run_reply job m).deltas id shot) ≡ sum_over set (r.states shot).deltas
reply_sum job m r set recorded shot below =
    let h = (job_of job).header in
    let inside : all_below h.outcomes set ≡ true = below_more _ _ set (checked_sound job r.passes).recorded recorded in
    ap (λ (q : RunReply). sum_over set (λ id. bit_in (words_per_row h.shots) q.deltas id shot)) r.reply
    ∙ sum_same h.outcomes set _ _ inside (λ id k. finished_delta h m r.states id shot k below)

-- the conditions of a walk
pub walkable_true : (j : Job) (shot : ℕ) (set : List ℕ) → shot < j.header.shots → is_rising_of set ≡ true → all_below (recorded_in j.instructions) set ≡ true
    → walkable j shot set ≡ true
unfolding walkable
walkable_true j shot set a b c = rw (lt-ltb _ _ a, b, c)

pub record Walkable (j : Job) (shot : ℕ) (set : List ℕ) : Type 0 where
  pub below : shot < j.header.shots
  pub rising : is_rising_of set ≡ true
  pub recorded : all_below (recorded_in j.instructions) set ≡ true

pub walkable_parts : (j : Job) (shot : ℕ) (set : List ℕ) → walkable j shot set ≡ true → Walkable j shot set
unfolding walkable
walkable_parts j shot set e =
    let a = both (ltb shot j.header.shots && is_rising_of set) (all_below (recorded_in j.instructions) set) e in
    let b = both (ltb shot j.header.shots) (is_rising_of set) a.0 in
    record { below = ltb-true _ _ b.0; rising = b.1; recorded = a.1 }
