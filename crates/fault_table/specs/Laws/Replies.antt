-- The replies of the call. Laws. Assumes nothing.
use Rattle.std.specs.Prelude.{ℕ, suc, ◌+◌, ◌-◌, ◌*◌, ◌≤◌, ◌<◌, ◌≡◌, Bool, ◌&&◌, leb, take, drop, replicate, Option, Some, None, Ok, Err}
use Rattle.std.proofs.Common.{zero-add, ◌∙◌, take_at, length-take-le}
use native.Mathlib.Omega.{arith}
use Rattle.std.proofs.Math.Path.{refl, sym, ap}
use Rattle.std.proofs.Math.Bool.{true, false, cond, and-false}
use mathlib.Core.List.{List, [], ◌∷◌, ◌++◌, map}
use Rattle.std.proofs.Math.Option.{none}
use borrow.Author.Tests.{le-leb, lt-leb, eq-eqb, ne_eqb}
use Rattle.std.proofs.Math.ListN.{length, length-append}
use Rattle.std.proofs.lemmas.List.{length-replicate, replicate-append-replicate}
use Rattle.text.specs.Bytes.{unlines}
use Rattle.text.proofs.Laws.Written.{unlines_append}
use Rattle.job.specs.declared.Header.{Header}
use Rattle.job.specs.declared.Answer.{Answer}
use Rattle.job.specs.Line.{pauli_of, size_of, Instruction, Placed}
use Rattle.job.specs.Job.{max_bytes, answer, accepted, check_job, job_of, recorded_in}
use Rattle.job.specs.Reply.{TextReply, refused_text, text_fits_of}
use Rattle.job.specs.Sound.{Every, SizeSaid}
use Rattle.job.proofs.Theorems.{checked_sound}
use Rattle.job.proofs.Laws.Gather.{sizes_said}
use Rattle.writer.specs.Laws.Fits.{room_for}
use Rattle.checker.specs.declared.Examined.{Examined}
use Rattle.checker.specs.Examines.{Finds, Examines}
use Rattle.draws.specs.Draws.{element_at}
use Rattle.single_faults.specs.Groups.{Groups, groups_of, all_recorded}
use Rattle.single_faults.specs.Table.{first_wide, table_text, table_answer, groups_answer, table_reply}
use Rattle.single_faults.proofs.Laws.Rows.{table_rows}
use Rattle.single_faults.specs.Carried.{mark_by, carried_to, carried_marks, carried_rows_of, carried_rows}
use Rattle.fault_table.specs.Lent.{grouping_of, all_carried, start_of, Startable}
use Rattle.fault_table.specs.Rows.{rows_bytes}
use Rattle.fault_table.specs.Laws.Putting.{rows_length}
use Rattle.fault_table.specs.declared.WideLine.{WideLine}
use Rattle.fault_table.specs.Table.{instruction_bytes, table_bytes, wide_line, Measures, Grouped, TableReady}

-- ---- the table's bytes

map_long : {A B : Type 0} (f : A → B) (l : List A) → length (map f l) ≡ length l
map_long f [] = refl
map_long f (a ∷ l) = ap suc (map_long f l)

module _ (h : Header) (gs : List (List ℕ)) where
  instruction_length : (line : ℕ) (j : Instruction) (is : List Placed) → SizeSaid j
      → length (unlines (carried_rows_of h gs line j is)) ≡ instruction_bytes (length gs) line j
  unfolding carried_rows_of instruction_bytes unlines SizeSaid
  instruction_length line (Instruction.line l) is said = refl
  instruction_length line (Instruction.noise n) is said =
      rows_length (length gs) line (λ (e : ℕ). carried_marks h gs is (element_at n.distribution e)) (size_of n.distribution) 0 (λ e a b. marks_length e)
      ∙ ap (λ (m : ℕ). rows_bytes (length gs) line m 0) (sym said)
    where
      marks_length : (e : ℕ) → length (carried_marks h gs is (element_at n.distribution e)) ≡ length gs
      marks_length e =
          unfold carried_marks in map_long (mark_by h.qubits (pauli_of (element_at n.distribution e))) (map (carried_to h is) gs) ∙ map_long (carried_to h is) gs

  rows_bytes_lem : (is : List Placed) → Every (λ (p : Placed). SizeSaid p.instruction) is → length (unlines (carried_rows h gs is)) ≡ table_bytes (length gs) is
  unfolding carried_rows table_bytes unlines
  rows_bytes_lem [] said = refl
  rows_bytes_lem (i ∷ is) said =
      let own = carried_rows_of h gs i.line i.instruction is in
      let rest = carried_rows h gs is in
      omega (
        arith,
        ap length (unlines_append own rest),
        length-append (unlines own) (unlines rest),
        instruction_length i.line i.instruction is said.0,
        rows_bytes_lem is said.1,
      )

-- ---- groups that passed, beside an accepted job

module _ {job : List ℕ} {count : ℕ} {list : List ℕ} {groups : ℕ} (q : Grouped job count list groups) where
  abbrev instructions : List Placed
  instructions = (job_of job).instructions

  abbrev text : List ℕ
  text = table_text (job_of job) q.are

  text_is : text ≡ unlines (carried_rows (job_of job).header q.are instructions)
  text_is = table_rows job q.passes q.are q.known

  text_length : length text ≡ table_bytes groups instructions
  text_length =
      ap length text_is
      ∙ rows_bytes_lem (job_of job).header q.are instructions (sizes_said _ 0 instructions (checked_sound job q.passes).instructions)
      ∙ ap (λ (n : ℕ). table_bytes n instructions) (sym q.many)

  pub wide_reply : {w : WideLine} → Measures job groups (Err w) → (out : List ℕ) → refused_text (answer 24 w.line) out ≡ table_answer text (first_wide instructions) out
  unfolding table_answer wide_line
  wide_reply x out = rw x.wide

  module _ {bytes : ℕ} (x : Measures job groups (Ok bytes)) (out : List ℕ) where
    pub none_wide : first_wide instructions ≡ none
    unfolding wide_line
    none_wide = x.wide

    pub size : bytes ≡ table_bytes groups instructions
    size = x.bytes bytes refl

    fits_same : leb bytes (length out) && leb bytes max_bytes ≡ text_fits_of text out
    fits_same = rw (size ∙ sym text_length)

    pub long_reply : leb bytes (length out) && leb bytes max_bytes ≡ false → refused_text (answer 15 0) out ≡ table_answer text (first_wide instructions) out
    unfolding table_answer
    long_reply long = rw (none_wide, sym fits_same ∙ long)

    pub whole_reply : (part : List ℕ) → part ≡ unlines (carried_rows (job_of job).header q.are instructions) → leb bytes (length out) && leb bytes max_bytes ≡ true
        → record { answered = accepted; figure = bytes; out = part ++ drop bytes out } ≡ table_answer text (first_wide instructions) out
    unfolding table_answer
    whole_reply part is fits = rw (none_wide, sym fits_same ∙ fits, size ∙ sym text_length, is ∙ sym text_is)

  -- the words of the groups
  pub zeros_taken : (n : ℕ) → n ≤ 384 → take n (replicate {A = ℕ} 384 0) ≡ replicate n 0
  zeros_taken n h =
      let split : n + (384 - n) ≡ 384 = omega arith in
      ap (λ (k : ℕ). take n (replicate {A = ℕ} k 0)) (sym split)
      ∙ ap (take n) (sym (replicate-append-replicate n (384 - n) 0))
      ∙ take_at (replicate n 0) (replicate (384 - n) 0) n (length-replicate n 0)

  pub startable : (state : List ℕ) → state ≡ replicate (groups * 24) 0 → Startable list state
  startable state zeros =
      let s = checked_sound job q.passes in
      record {
        recorded = recorded_in instructions;
        few = omega (arith, s.recorded, s.header.few_outcomes);
        groups = q.are;
        are = q.listed;
        known = q.known;
        zeros = zeros ∙ ap (λ (n : ℕ). replicate (n * 24) 0) q.many;
      }

  pub ready : {bytes : ℕ} (x : Measures job groups (Ok bytes)) → (state out : List ℕ) → length state ≡ groups * 24 → length out ≡ bytes
      → all_carried (length q.are) state ≡ map start_of q.are → TableReady job count state groups out
  ready x state out wide long started =
      record {
        passes = q.passes;
        lines_in = q.lines_in;
        are = q.are;
        many = q.many;
        few = q.few;
        words = wide;
        started = rw q.many started;
        narrow = none_wide x out;
        long = long ∙ size x out;
      }

  -- ---- by what the functions say

  module _ {bytes : ℕ} (x : Measures job groups (Ok bytes)) (out zeros L rest : List ℕ) (none_yet : zeros ≡ replicate (groups * 24) 0)
      (starts : (y : Startable list zeros) → all_carried (length y.groups) L ≡ map start_of y.groups) (long : length L ≡ length zeros)
      (fits : leb bytes (length out) && leb bytes max_bytes ≡ true) where
    wide : length L ≡ groups * 24
    wide = long ∙ ap length none_yet ∙ length-replicate (groups * 24) 0

    pub started_length : length (take (groups * 24) (L ++ rest)) ≡ groups * 24
    started_length = ap length (take_at L rest (groups * 24) wide) ∙ wide

    pub started_ready : TableReady job count (take (groups * 24) (L ++ rest)) groups (take bytes out)
    unfolding startable
    started_ready =
        ready x (take (groups * 24) (L ++ rest)) (take bytes out) started_length (length-take-le bytes out (room_for bytes (length out) fits))
        (rw (take_at L rest (groups * 24) wide) (starts (startable zeros none_yet)))

    pub done_reply : (part : List ℕ)
        → ((y : TableReady job count (take (groups * 24) (L ++ rest)) groups (take bytes out)) → part ≡ unlines (carried_rows (job_of job).header y.are instructions))
        → record { answered = accepted; figure = bytes; out = part ++ drop bytes out } ≡ table_answer text (first_wide instructions) out
    unfolding started_ready ready
    done_reply part is = whole_reply x out part (is started_ready) fits

-- ---- the call

no_refusal : {n : ℕ} → ◌≡◌ {A = Option ℕ} None (Some n) → ⊥
no_refusal e = let z : ◌≡◌ {A = ℕ} 0 1 = cc in omega arith

count_same : {n m : ℕ} → ◌≡◌ {A = Option ℕ} (Some n) (Some m) → n ≡ m
count_same e = cc

module _ (job list out : List ℕ) {r : Examined} (x : Examines job r) where
  pub refused_reply : (r.answer.number ≡ 0 → ⊥) → refused_text r.answer out ≡ table_reply job list out
  unfolding table_reply
  refused_reply h =
      ap (λ (a : Answer). refused_text a out) x.answers
      ∙ rw (ne_eqb (check_job job).number 0 (λ z. h (ap (λ (a : Answer). a.number) x.answers ∙ z)))

  module _ (ok : r.answer.number ≡ 0) where
    passes : (check_job job).number ≡ 0
    passes = sym (ap (λ (a : Answer). a.number) x.answers) ∙ ok

    found : Finds job r
    found = x.finds passes

    answered : groups_answer (job_of job) (groups_of list) out ≡ table_reply job list out
    unfolding table_reply
    answered = rw (eq-eqb (check_job job).number 0 passes)

    -- 17
    pub groups_reply : None ≡ grouping_of r.recorded 0 (groups_of list) → refused_text (answer 17 0) out ≡ table_reply job list out
    groups_reply e = go (groups_of list) (rw found.recorded at e) ∙ answered
      where
        by : (b : Bool) (n : ℕ) (t : TextReply) → None ≡ cond b (Some n) None → refused_text (answer 17 0) out ≡ cond b t (refused_text (answer 17 0) out)
        by true n t e = absurd (no_refusal e)
        by false n t e = refl

        go : (G : Groups) → None ≡ grouping_of (recorded_in (job_of job).instructions) 0 G → refused_text (answer 17 0) out ≡ groups_answer (job_of job) G out
        go Groups.cut_short e = unfold groups_answer in refl
        go (Groups.whole gs) e = unfold groups_answer grouping_of in by (all_recorded (recorded_in (job_of job).instructions) gs) (0 + length gs) _ e

    -- groups that passed 17
    record Whole (n : ℕ) : Type 0 where
      are : List (List ℕ)
      listed : groups_of list ≡ Groups.whole are
      known : all_recorded (recorded_in (job_of job).instructions) are ≡ true
      many : n ≡ length are

    whole : (n : ℕ) → Some n ≡ grouping_of r.recorded 0 (groups_of list) → Whole n
    unfolding grouping_of
    whole n e = go (groups_of list) refl (rw found.recorded at e)
      where
        by : (b : Bool) (k : ℕ) → Some n ≡ cond b (Some k) None → (b ≡ true) × (n ≡ k)
        by true k e = (refl, count_same e)
        by false k e = absurd (no_refusal (sym e))

        go : (G : Groups) → groups_of list ≡ G → Some n ≡ grouping_of (recorded_in (job_of job).instructions) 0 G → Whole n
        go Groups.cut_short p e = absurd (no_refusal (sym e))
        go (Groups.whole gs) p e =
            let (known, many) = by (all_recorded (recorded_in (job_of job).instructions) gs) (0 + length gs) e in
            record { are = gs; listed = p; known = known; many = many ∙ zero-add (length gs) }

    module _ (n : ℕ) (counts : Some n ≡ grouping_of r.recorded 0 (groups_of list)) where
      w : Whole n
      w = whole n counts

      -- 24, for the number of groups
      pub none_reply : n ≡ 0 → refused_text (answer 24 0) out ≡ table_reply job list out
      unfolding groups_answer
      none_reply z =
          let few : length w.are < 1 = omega (arith, w.many) in
          (rw (w.listed, w.known, lt-leb 1 (length w.are) few)) ∙ answered

      pub many_reply : 16 < n → refused_text (answer 24 0) out ≡ table_reply job list out
      unfolding groups_answer
      many_reply h =
          let many : 16 < length w.are = omega (arith, w.many) in
          (rw (w.listed, w.known, lt-leb (length w.are) 16 many, and-false)) ∙ answered

      module _ (some-groups : n ≡ 0 → ⊥) (few : n ≤ 16) where
        pub grouped : Grouped job r.lines list n
        grouped = record { passes = passes; lines_in = found.lines_in; are = w.are; listed = w.listed; known = w.known; many = w.many; few = few }

        pub table_reply_lem : {t : TextReply} → ((q : Grouped job r.lines list n) → t ≡ table_answer (table_text (job_of job) q.are) (first_wide (job_of job).instructions) out)
            → t ≡ table_reply job list out
        unfolding groups_answer grouped
        table_reply_lem e =
            let one : 1 ≤ length w.are = omega (arith, w.many, some-groups) in
            let most : length w.are ≤ 16 = omega (arith, w.many) in
            e grouped ∙ rw (w.listed, w.known, le-leb 1 (length w.are) one, le-leb (length w.are) 16 most) refl ∙ answered
