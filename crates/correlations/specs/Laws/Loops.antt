-- The loops over a job's lines. Laws. Assumes nothing.
use Rattle.std.specs.Prelude.{ℕ, suc, ◌+◌, ◌≤◌, ◌<◌, ◌≡◌, Bool, true, false, eqb, length, get_or, set, take, drop, Option as Maybe, Some, None, Ok, Err}
use Rattle.std.proofs.Math.Numerals.{add-one}
use Rattle.std.proofs.Common.{arith, ◌∙◌}
use Rattle.std.proofs.Math.Path.{refl, sym, ap, subst}
use Rattle.std.proofs.Math.Bool.{cond}
use mathlib.Core.List.{List, [], ◌∷◌}
use Rattle.std.proofs.Math.Option.{Option, none, some}
use borrow.Author.Tests.{eqb-true, eqb-false, eq-eqb, ne_eqb}
use Rattle.text.specs.Bytes.{until, lines}
use Rattle.text.specs.Template.{Value}
use Rattle.template.specs.Values.{held_member}
use Rattle.job.specs.Line.{Placed}
use Rattle.job.specs.Grammar.{NoiseLine, Written, read_line_of}
use Rattle.job.specs.declared.Answer.{Answer}
use Rattle.job.specs.Job.{answer, accepted, noise_of, gather, gathered, Job, check_job, job_of}
use Rattle.job.proofs.Laws.Begun.{job_begun}
use Rattle.reader.specs.declared.Form.{Form}
use Rattle.reader.specs.Parsed.{Said}
use Rattle.instructions.specs.declared.LineRead.{LineRead}
use Rattle.instructions.specs.Reading.{line_at, NextLine}
use Rattle.instructions.specs.Ahead.{instructions_at}
use Rattle.instructions.specs.Lines.{Left}
use Rattle.instructions.specs.Laws.Steps.{none_left}
use Rattle.instructions.specs.Laws.Lines.{here, line_read, left_all, left_more}
use Rattle.circuit.specs.Correlation.{Seen, size_fits, seen_after, correlation_of, said_size, first_differing_by, first_differing_of}
use Rattle.circuit.specs.Replies.{correlation_answer, correlation_reply}
use Rattle.correlations.specs.declared.Correlated.{Correlated}
use Rattle.correlations.specs.declared.Differing.{Differing}
use Rattle.correlations.specs.declared.Collected.{Collected}
use Rattle.correlations.specs.declared.Found.{Found}
use Rattle.correlations.specs.Sizes.{correlation_in, size_in, present, table_of, size_for, Looked, look_for, look_of, fitting, new_in, grown, line_in}
use Rattle.correlations.specs.Rounds.{unlike, earliest, full_of, RoomFor, Looks, Remembers, Collecting, Collects, RoundOf}
use Rattle.correlations.specs.Links.{Unseen, remainder_of, Table}
use Rattle.correlations.specs.Laws.Links.{table_one}
use Rattle.correlations.specs.Laws.Sizes.{NoiseWith, correlated, absent, noise_size}
use Rattle.correlations.specs.Laws.Tables.{size_unseen, size_seen, table_more}
use Rattle.correlations.specs.Laws.Rounds.{look_fits, look_grown, gathered_from, round_parts, earliest_none, earliest_assoc}

-- ---- one line

-- what a check of instructions comes to at a line with a correlation and a size
module _ (k : ℕ) (l : List ℕ) (ls : List (List ℕ)) (w : Written) (reads : read_line_of l ≡ some w) (seen : List Seen) where
  abbrev behind : List Placed
  behind = (gathered (suc k) ls).instructions

  gathered_differing : first_differing_of seen (gathered k (l ∷ ls)).instructions
      ≡ cond (size_fits seen (correlation_in w) (size_in w)) (first_differing_of (seen_after seen (correlation_in w) (size_in w)) behind) (some k)
  unfolding gathered
  gathered_differing = rw reads (go w)
    where
      go : (w : Written) → first_differing_of seen (gather k l (some w) (gathered (suc k) ls)).instructions
          ≡ cond (size_fits seen (correlation_in w) (size_in w)) (first_differing_of (seen_after seen (correlation_in w) (size_in w)) behind) (some k)
      go (Written.header h) = unfold gather correlation_in size_in size_fits seen_after in refl
      go (Written.line i) = unfold gather correlation_in size_in first_differing_by correlation_of said_size in refl
      go (Written.noise n) = unfold gather correlation_in size_in first_differing_by correlation_of said_size noise_of in refl
      go (Written.element v P) = unfold gather correlation_in size_in size_fits seen_after in refl

  gathered_unlike : unlike seen (gathered k (l ∷ ls)).instructions ≡ cond (size_fits seen (correlation_in w) (size_in w)) (unlike seen behind) (some k)
  unfolding gathered
  gathered_unlike = rw reads (go w)
    where
      go : (w : Written) → unlike seen (gather k l (some w) (gathered (suc k) ls)).instructions ≡ cond (size_fits seen (correlation_in w) (size_in w)) (unlike seen behind) (some k)
      go (Written.header h) = unfold gather correlation_in size_in size_fits in refl
      go (Written.line i) = unfold gather correlation_in size_in unlike correlation_of said_size in refl
      go (Written.noise n) = unfold gather correlation_in size_in unlike correlation_of said_size noise_of in refl
      go (Written.element v P) = unfold gather correlation_in size_in size_fits in refl

-- ---- a line that was read

module _ {job : List ℕ} {k at : ℕ} (a : Left job k at) {next : LineRead} {fields : List ℕ} (n : NextLine job at next fields) where
  abbrev said : Written
  said = (here a n).written

  -- what the code found of the line beside a table
  module _ (seen : List Seen) {l : Looked} (looks : (vs : List Value) (w : Written) → Said next.form fields vs w → l ≡ look_of k seen (correlation_in w) (size_in w)) where
    look : l ≡ look_of k seen (correlation_in said) (size_in said)
    look = looks (line_read a n).values said (line_read a n).said

    pub differing_line : first_differing_of seen (instructions_at job k at)
        ≡ cond (fitting l) (first_differing_of (grown seen (new_in l)) (instructions_at job (k + 1) (next.end + 1))) (some k)
    unfolding instructions_at
    differing_line =
        ap (λ (ls : List (List ℕ)). first_differing_of seen (gathered k ls).instructions) n.place.cut
        ∙ gathered_differing k (line_at job at next.end) (lines (drop (next.end + 1) job)) said (here a n).reads seen
        ∙ rw (look, add-one k, look_fits k seen (size_in said) (correlation_in said), look_grown k seen (size_in said) (gathered (suc k) (lines (drop (next.end + 1) job))).instructions (correlation_in said))

    pub unlike_line : unlike seen (instructions_at job k at) ≡ cond (fitting l) (unlike seen (instructions_at job (k + 1) (next.end + 1))) (some k)
    unfolding instructions_at
    unlike_line =
        ap (λ (ls : List (List ℕ)). unlike seen (gathered k ls).instructions) n.place.cut
        ∙ gathered_unlike k (line_at job at next.end) (lines (drop (next.end + 1) job)) said (here a n).reads seen
        ∙ rw (look, add-one k, look_fits k seen (size_in said) (correlation_in said))

-- ---- the table

-- a line that differs is the one that was looked at
looked_line : (line : ℕ) (seen : List Seen) (o : Option ℕ) (size : ℕ) {d : Differing} → Err d ≡ look_of line seen o size → d.line ≡ line
unfolding look_of look_for
looked_line line seen none size e = cc
looked_line line seen (some c) size {d} e = by (size_for seen c) e
  where
    cased : (b : Bool) → ◌≡◌ {A = Looked} (Err d) (cond b (Ok None) (Err (record { line = line }))) → d.line ≡ line
    cased true e = cc
    cased false e = let same : d ≡ record { line = line } = cc in ap (λ (x : Differing). x.line) same

    by : (u : Option ℕ) → Err d ≡ look_for line c size u → d.line ≡ line
    by none e = cc
    by (some t) e = cased (eqb t size) e

module _ {f : Form} {fields : List ℕ} {vs : List Value} {w : Written} (s : Said f fields vs w) where
  pub look_absent : (line : ℕ) (seen : List Seen) → present (correlation_in w) ≡ false → Ok None ≡ look_of line seen (correlation_in w) (size_in w)
  unfolding look_of
  look_absent line seen h = rw (absent (correlation_in w) h)

  module _ (line : ℕ) (seen sizes : List ℕ) {size : ℕ} (h : present (correlation_in w) ≡ true)
      (e : (vs : List Value) (n : NoiseLine) → Said f fields vs (Written.noise n) → size ≡ n.size) where
    corr : NoiseWith (held_member fields 0 0) w
    corr = correlated s h

    pub look_new : Unseen (held_member fields 0 0) seen
        → Ok (Some (record { correlation = held_member fields 0 0; size = size })) ≡ look_of line (table_of seen sizes) (correlation_in w) (size_in w)
    unfolding look_of look_for
    look_new q = rw (corr.correlation, ← noise_size s corr e, size_unseen (held_member fields 0 0) seen sizes q)

    module _ {i : ℕ} (p : i ≡ until (held_member fields 0 0) seen) (l : length seen ≡ length sizes) (q : i < length seen) where
      known : look_of line (table_of seen sizes) (correlation_in w) (size_in w) ≡ look_for line (held_member fields 0 0) size (some (get_or sizes i 0))
      unfolding look_of
      known = rw (corr.correlation, ← noise_size s corr e, size_seen (held_member fields 0 0) seen sizes l (λ z. omega arith), ← p)

      pub look_same : get_or sizes i 0 ≡ size → Ok None ≡ look_of line (table_of seen sizes) (correlation_in w) (size_in w)
      unfolding look_for
      look_same g = rw (known, eq-eqb (get_or sizes i 0) size g)

      pub look_other : (get_or sizes i 0 ≡ size → ⊥) → Err (record { line = line }) ≡ look_of line (table_of seen sizes) (correlation_in w) (size_in w)
      unfolding look_for
      look_other g = rw (known, ne_eqb (get_or sizes i 0) size g)

-- a correlation that a line has, if it is new, isn't in the table
pub new_fresh : {new : Correlated} (seen : List ℕ) → Unseen new.correlation seen → (l : Correlated) → ◌≡◌ {A = Looked} (Ok (Some new)) (Ok (Some l)) → Unseen l.correlation seen
new_fresh {new} seen u l e = let same : new ≡ l = cc in subst (λ (x : Correlated). Unseen x.correlation seen) same u

pub full : (new : Maybe Correlated) (n room : ℕ) → full_of new n room ≡ true → n ≡ room
unfolding full_of
full None n room e = cc
full (Some l) n room e = eqb-true n room e

not_full : (new : Maybe Correlated) (n room : ℕ) → n ≤ room → full_of new n room ≡ false → (l : Correlated) → new ≡ Some l → n < room
unfolding full_of
not_full new n room h e l q = let other : eqb n room ≡ false = rw q at e in omega (arith, eqb-false n room other)

-- room for what a line has that is new
pub room_for : {f : Form} {fields : List ℕ} {line n : ℕ} {seen sizes : List ℕ} {new : Maybe Correlated} → Looks f fields line (take n seen) sizes (Ok new)
    → n ≤ length seen → full_of new n (length seen) ≡ false → RoomFor new n seen
room_for {n = n} {seen = seen} {new = new} looks h e =
    record { room = not_full new n (length seen) h e; fresh = λ l q. looks.fresh l (ap Ok q) }

module _ {n : ℕ} {seen sizes links : List ℕ} (t : Table n seen sizes links) where
  pub remember_none : {l : Maybe Correlated} → l ≡ None → Remembers l n seen sizes n seen sizes links
  unfolding grown
  remember_none e = record { few = omega arith; holds = t; table = rw e }

  pub remember_one : {new : Maybe Correlated} (l : Correlated) → new ≡ Some l → n < length seen → Unseen l.correlation (take n seen)
      → Remembers new n seen sizes (n + 1) (set seen n l.correlation) (set sizes n l.size)
      (set (set links (4093 + n) (get_or links (remainder_of l.correlation) 0)) (remainder_of l.correlation) (n + 1))
  unfolding grown
  remember_one l e h new =
      record {
        few = omega arith;
        holds = table_one l.correlation l.size t h new;
        table = table_more n l.correlation l.size seen sizes h t.beside ∙ rw e;
      }

pub collect_none : {job : List ℕ} {number from : ℕ} {seen sizes links : List ℕ} → Left job number from → Table 0 seen sizes links
    → Collecting job number from number from 0 seen sizes links
unfolding table_of
collect_none a t = record { left = a; holds = t; onward = omega arith; same = refl }

module _ {job : List ℕ} {number from k at n : ℕ} {seen sizes links : List ℕ} (c : Collecting job number from k at n seen sizes links) where
  module _ {next : LineRead} {fields : List ℕ} (line : NextLine job at next fields) where
    pub collect_stops : {d : Differing} → Looks next.form fields k (take n seen) (take n sizes) (Err d) → Collects job number from (Err d) seen sizes links
    unfolding fitting
    collect_stops {d} looks =
        record {
          differs = λ e q. let same : d ≡ e = cc in c.same ∙ differing_line c.left line (table_of (take n seen) (take n sizes)) looks.is ∙ ap some (sym (looked_line k _ _ _ (looks.is _ _ (line_read c.left line).said)) ∙ ap (λ (x : Differing). x.line) same);
          goes_on = λ e q. cc;
        }

    pub collect_more : {r : ℕ} {more sizes-more links-more : List ℕ} {l : Maybe Correlated} → Looks next.form fields k (take n seen) (take n sizes) (Ok l) → Remembers l n seen sizes r more sizes-more links-more
        → Collecting job number from (k + 1) (next.end + 1) r more sizes-more links-more
    unfolding fitting new_in
    collect_more looks m =
        record {
          left = left_more c.left line;
          holds = m.holds;
          onward = omega (arith, c.onward, m.few, line.place.begins);
          same = c.same ∙ differing_line c.left line (table_of (take n seen) (take n sizes)) looks.is ∙ rw (← m.table);
        }

  -- no room, or the job's end
  pub collect_ends : from < at → Collects job number from (Ok (record { n = n; at = at; number = k })) seen sizes links
  collect_ends h = record { differs = λ d e. cc; goes_on = λ r e. let same : record { n = n; at = at; number = k } ≡ r = cc in subst (λ (x : Collected). Collecting job number from x.number x.at x.n seen sizes links × (from < x.at)) same (c, h) }

-- ---- what differs from the table

pub record Comparing (job : List ℕ) (number from k at : ℕ) (seen : List Seen) : Type 0 where
  pub left : Left job k at
  pub same : unlike seen (instructions_at job number from) ≡ unlike seen (instructions_at job k at)

pub compare_none : {job : List ℕ} {number from : ℕ} {seen : List Seen} → Left job number from → Comparing job number from number from seen
compare_none a = record { left = a; same = refl }

module _ {job : List ℕ} {number from k at : ℕ} {seen : List Seen} (c : Comparing job number from k at seen) where
  module _ {next : LineRead} {fields : List ℕ} (line : NextLine job at next fields) {l : Looked}
      (looks : (vs : List Value) (w : Written) → Said next.form fields vs w → l ≡ look_of k seen (correlation_in w) (size_in w)) where
    pub compare_stops : {d : Differing} → l ≡ Err d → line_in (Some d.line) ≡ unlike seen (instructions_at job number from)
    unfolding line_in fitting
    compare_stops {d} h =
        let here : d.line ≡ k = looked_line k _ _ _ (sym h ∙ looks _ _ (line_read c.left line).said) in
        ap some here ∙ sym (c.same ∙ unlike_line c.left line seen looks ∙ rw h refl)

    pub compare_more : {o : Maybe Correlated} → l ≡ Ok o → Comparing job number from (k + 1) (next.end + 1) seen
    unfolding fitting
    compare_more h = record { left = left_more c.left line; same = c.same ∙ unlike_line c.left line seen looks ∙ rw h }

  pub compare_ends : length job ≤ at → line_in None ≡ unlike seen (instructions_at job number from)
  unfolding line_in unlike
  compare_ends h = sym (c.same ∙ ap (unlike seen) (none_left job k at h))

-- ---- rounds

module _ {job : List ℕ} {number from : ℕ} {seen sizes links : List ℕ} where
  pub round_stops : {d : Differing} → Collects job number from (Err d) seen sizes links → from < length job
      → RoundOf job number from (record { differing = Some d.line; at = length job; number = 0 })
  unfolding first_differing_by line_in
  round_stops {d} c h =
      record {
        onward = h;
        left = λ k. absurd (omega arith);
        same = c.differs d refl ∙ sym (rw (none_left job 0 (length job) (omega arith)) (earliest_none (some d.line)));
      }

  pub round_goes_on : {r : Collected} {d : Maybe ℕ} → Collects job number from (Ok r) seen sizes links
      → line_in d ≡ unlike (table_of (take r.n seen) (take r.n sizes)) (instructions_at job r.number r.at)
      → RoundOf job number from (record { differing = d; at = r.at; number = r.number })
  unfolding instructions_at
  round_goes_on {r} {d} c e =
      let (g, onward) = c.goes_on r refl in
      record {
        onward = onward;
        left = λ h. g.left;
        same =
            g.same
            ∙ round_parts (table_of (take r.n seen) (take r.n sizes)) r.number (instructions_at job r.number r.at) (gathered_from r.number (lines (drop r.at job)))
            ∙ ap (λ (o : Option ℕ). earliest o (first_differing_of [] (instructions_at job r.number r.at))) (sym e);
      }

-- the rounds so far found `differing`, and the next begins at `at`
pub record Searching (job : List ℕ) (k at : ℕ) (differing : Maybe ℕ) : Type 0 where
  pub left : at < length job → Left job k at
  pub same : first_differing_of [] (job_of job).instructions ≡ earliest (line_in differing) (first_differing_of [] (instructions_at job k at))

pub search_none : {job : List ℕ} → (check_job job).number ≡ 0 → Searching job 1 0 None
unfolding instructions_at gathered gather line_in earliest
search_none {job} e =
    let b = job_begun job e in
    record {
      left = λ h. left_all job e;
      same =
          ap (λ (j : Job). first_differing_of [] j.instructions) b.is
          ∙ sym (ap (λ (ls : List (List ℕ)). first_differing_of [] (gathered 1 ls).instructions) b.split ∙ rw b.reads);
    }

pub search_more : {job : List ℕ} {k at : ℕ} {differing : Maybe ℕ} {r : Found} {d : Maybe ℕ} → Searching job k at differing → RoundOf job k at r
    → line_in d ≡ earliest (line_in differing) (line_in r.differing) → Searching job r.number r.at d
search_more {job} {k} {at} {differing} {r} {d} s q e =
    record {
      left = q.left;
      same =
          s.same ∙ ap (earliest (line_in differing)) q.same
          ∙ sym (earliest_assoc (line_in differing) (line_in r.differing) (first_differing_of [] (instructions_at job r.number r.at)))
          ∙ ap (λ (o : Option ℕ). earliest o (first_differing_of [] (instructions_at job r.number r.at))) (sym e);
    }

pub search_ends : {job : List ℕ} {k at : ℕ} {differing : Maybe ℕ} → Searching job k at differing → length job ≤ at → line_in differing ≡ first_differing_of [] (job_of job).instructions
unfolding first_differing_by
search_ends {job} {k} {at} {differing} s h = sym (s.same ∙ rw (none_left job k at h) (earliest_none (line_in differing)))

-- ---- the call

module _ (job : List ℕ) where
  pub refused_reply : {a : Answer} → a ≡ check_job job → (a.number ≡ 0 → ⊥) → a ≡ correlation_reply job
  unfolding correlation_reply
  refused_reply e h = rw (← e, ne_eqb _ 0 h)

  module _ {differing : Maybe ℕ} (passes : (check_job job).number ≡ 0) (found : line_in differing ≡ first_differing_of [] (job_of job).instructions) where
    pub agreed_reply : differing ≡ None → accepted ≡ correlation_reply job
    unfolding correlation_reply correlation_answer line_in
    agreed_reply e = rw (eq-eqb (check_job job).number 0 passes, ← found, e)

    pub differing_reply : {line : ℕ} → differing ≡ Some line → answer 19 line ≡ correlation_reply job
    unfolding correlation_reply correlation_answer line_in
    differing_reply e = rw (eq-eqb (check_job job).number 0 passes, ← found, e)
