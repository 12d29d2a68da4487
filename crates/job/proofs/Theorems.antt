-- Theorems about the tests of a job. Assumes nothing.
use Rattle.std.specs.Prelude.{ℕ, ◌+◌, ◌*◌, ◌/◌, ◌%◌, ◌^◌, ◌≤◌, ◌<◌, ◌≡◌, refl, Bool, true, ◌⊎◌, List, [], ◌∷◌, ◌++◌, map, length, get_or, drop}
use Rattle.std.proofs.Common.{zero-add, arith, sym, ap, subst, ◌∙◌}
use Rattle.std.proofs.Math.Decide.{ℕ_discrete}
use Rattle.std.proofs.Math.Option.{none, some}
use Rattle.pauli.specs.Bits.{bit}
use Rattle.pauli.specs.Gate.{Gate, gates, gate_from, gate_of}
use Rattle.text.specs.Bytes.{bytes, until, extend, pieces, lines}
use Rattle.text.specs.List.{with_first, pieces_of, list_Q}
use Rattle.text.specs.Number.{all_decimal, decimal_from, number_of}
use Rattle.text.specs.Template.{Value, a_number, a_list, value_of, and_then, same_byte, at_end, values_of, numbers_in, lists_in, line_text}
use Rattle.text.specs.Written.{AllSmall, FitQ}
use Rattle.job.specs.declared.Header.{Header}
use Rattle.job.specs.Line.{Instruction, Placed, Line}
use Rattle.job.specs.Clifford.{table_words_of, table_of, words_of}
use Rattle.job.specs.Grammar.{Written, unitary_line, Form, forms, said, or_later, read_by, read_line_of}
use Rattle.job.specs.Checks.{Context, no_context_of, next, is_second_of, tests, refusal_of}
use Rattle.job.specs.Job.{answer, accepted, well_ended_of, check_job, gathered, Job, job_of_lines, job_of, recorded_by, recorded_in}
use Rattle.job.specs.Marks.{mark_of, read_as, form_by_mark}
use Rattle.job.specs.Contexts.{Lowest, RefusedAt, context_after, between}
use Rattle.job.specs.Editions.{first_forms, edition_template, check_job_by}
use Rattle.job.specs.Sound.{Every, LineSound, InstructionSound, SizeSaid, InstructionsSound, instructions_of, ListSound, SaidAs, HeaderSound, FirstEdition, JobSound}
use Rattle.job.proofs.Laws.Lines.{header_sound}
use Rattle.job.proofs.Laws.Begun.{ended_parts, job_passes, Begun, job_begun}
use Rattle.job.proofs.Laws.Gather.{gathered_sound, gathered_said, sizes_said}
use Rattle.job.proofs.Laws.Recorded.{recorded_within, ids_count, after_first, recorded_after, header_after_lem}
use Rattle.job.proofs.Laws.Tests.{tests_rise, lowest_is}
use Rattle.job.proofs.Laws.Editions.{field_unread, field_refused, second_refused, job_by_forms}
use Rattle.job.proofs.Laws.Second.{second_two, job_refused}
use Rattle.job.proofs.Laws.Passes.{header_accepted}
use Rattle.job.proofs.Laws.Said.{instructions_accepted}
use Rattle.job.proofs.Laws.SaidGathered.{said_gathers}
use Rattle.job.proofs.Laws.Dispatch.{read_by_mark}
use Rattle.job.proofs.Laws.Table as Table
use Rattle.job.proofs.Laws.Texts.{clifford_says}

-- what stands behind the header is sound
behind_header : {job : List ℕ} (b : Begun job) → InstructionsSound b.header 0 (gathered 2 b.rest).instructions
unfolding between
behind_header b = (gathered_sound 2 (between b.header 0) b.rest b.passes).instructions

-- What the tests let pass meets the hypotheses of the theorems. A job that the tests of a job accept ends in LF and holds at most 1,048,576 bytes; its first
-- line is a header in range; and every instruction, in order, has what documents 01 and 02 ask of it, where the outcomes recorded are those of the
-- lines before it: operands as many as the gate takes, distinct and below qubits; Cliffords; permutations; Paulis of rising lists below qubits;
-- controls that commute with their targets; the next id, below outcomes; ids that are recorded; shots below shots; and noise whose probability,
-- elements, weights, total and size are as they must be.
pub checked_sound : (job : List ℕ) → (check_job job).number ≡ 0 → JobSound job (job_of job)
checked_sound job e =
    let b = job_begun job e in
    let ended = (job_passes job e).0 in
    let sound = behind_header b in
    subst (JobSound job) (sym b.is) record {
      ended = ended;
      few_bytes = (ended_parts job ended).1;
      rest = b.rest;
      split = b.split;
      reads = b.reads;
      gathers = refl;
      header = header_sound b.header b.range b.edition;
      instructions = sound;
      texts = gathered_said 2 (between b.header 0) b.rest b.passes;
      ids = ids_count b.header 0 _ sound;
      recorded = rw zero-add at (recorded_within b.header 0 _ sound (omega arith));
    }

-- In an accepted job the size that a noise line says is its distribution's.
pub size_said : (job : List ℕ) → (check_job job).number ≡ 0 → Every (λ (p : Placed). SizeSaid p.instruction) (job_of job).instructions
size_said job e = sizes_said (job_of job).header 0 (job_of job).instructions (checked_sound job e).instructions

-- The tests refuse no job of sound instructions: a header in range and, behind it, texts of instructions that are sound in their order, noise with its
-- element lines among them, pass the tests of a job where the bytes pass test 1; and they are the job's instructions.
module _ (job text : List ℕ) (texts : List (List ℕ)) (h : Header) (is : List Instruction) (split : lines job ≡ text ∷ texts)
    (reads : read_line_of text ≡ some (Written.header h)) (said : SaidAs texts is)
  where
    pub sound_checked : well_ended_of job ≡ true → HeaderSound h → ListSound h 0 is → check_job job ≡ accepted
    unfolding check_job
    sound_checked ended range sound = rw (ended, split) (header_accepted h text texts reads range (instructions_accepted h 0 2 texts is said sound))

    pub said_instructions : instructions_of (job_of job).instructions ≡ is
    unfolding job_of_lines
    said_instructions = rw split ((said_gathers texts is said).instructions 2)

-- A sound instruction of a job of the first edition has none of the forms that the second adds,
first_edition : (h : Header) (r : ℕ) (i : Instruction) → InstructionSound h r i → h.edition ≡ 1 → FirstEdition i
unfolding InstructionSound LineSound
first_edition h r i s one =
    record {
      no_controlled_Y = λ qs e. let t = subst (InstructionSound h r) e s in omega (arith, one, t.known refl);
      one_reset = λ qs e. let t = subst (InstructionSound h r) e s in single qs t.operands.filled t.several;
      no_barrier = λ qs e. let t = subst (InstructionSound h r) e s in omega (arith, one, t.second);
    }
  where
    single : (qs : List ℕ) → 1 ≤ length qs → (2 ≤ length qs → h.edition ≡ 2) → length qs ≡ 1
    single qs filled several = go (ℕ_discrete (length qs) 1)
      where
        go : Dec (length qs ≡ 1) → length qs ≡ 1
        go (yes e) = e
        go (no e) = absurd (omega (arith, one, several (omega (arith, filled, e))))

first_editions : (h : Header) (r : ℕ) (is : List Placed) → InstructionsSound h r is → h.edition ≡ 1 → Every (λ (p : Placed). FirstEdition p.instruction) is
unfolding InstructionsSound
first_editions h r [] s one = tt
first_editions h r (i ∷ is) s one =
    (first_edition h r i.instruction s.0 one, first_editions h (r + recorded_by i.instruction) is s.1 one)

-- so that an accepted job of the first edition has no ControlledY, no reset of several qubits and no barrier.
pub edition_one_refuses : (job : List ℕ) → (check_job job).number ≡ 0 → (job_of job).header.edition ≡ 1
    → Every (λ (p : Placed). FirstEdition p.instruction) (job_of job).instructions
edition_one_refuses job e one = first_editions (job_of job).header 0 (job_of job).instructions (checked_sound job e).instructions one

-- In a job of edition 1, ControlledY, a reset of several qubits and a barrier are refused by 2, whatever lines come before.
pub second_forms_two : (c : Context) (last : Bool) (w : Written) → is_second_of w ≡ true → c.header.edition ≡ 1 → refusal_of c last (some w) ≡ 2
second_forms_two = second_two

-- So a job of edition 1 with a line of these forms is refused by 2 at that line, or at a line before it.
pub second_line_refused : (job : List ℕ) (before : List (List ℕ)) (l : List ℕ) (after : List (List ℕ)) (w : Written) → well_ended_of job ≡ true
    → (job_of job).header.edition ≡ 1 → lines job ≡ before ++ l ∷ after → read_line_of l ≡ some w → is_second_of w ≡ true
    → (check_job job ≡ answer 2 (1 + length before)) ⊎ RefusedAt 1 (length before) (check_job job)
second_line_refused job before l after w ended one split reads second = job_refused l after w reads second job before ended one split

-- An edition 1 reader refuses every job whose header has the field `edition`, whatever its number, by 2, at line 1.
pub edition_one_reader : (job text : List ℕ) (rest : List (List ℕ)) (v : List Value) → well_ended_of job ≡ true → lines job ≡ text ∷ rest
    → values_of edition_template text ≡ some v → check_job_by first_forms job ≡ answer 2 1
edition_one_reader = field_refused

-- The forms of the first edition read such a header as no line.
pub edition_field_unread : (l : List ℕ) (v : List Value) → values_of edition_template l ≡ some v → read_by first_forms l ≡ none
edition_field_unread = field_unread

-- An edition 1 reader refuses a job of the second edition by 2, at line 1.
pub second_edition_refused : (job : List ℕ) → well_ended_of job ≡ true → (job_of job).header.edition ≡ 2 → check_job_by first_forms job ≡ answer 2 1
second_edition_refused = second_refused

-- The first edition's forms are the table without these two rows.
pub second_rows : map (λ (f : Form). f.template) (drop (length first_forms) forms)
    ≡ edition_template ∷ bytes "op=b q=Q" ∷ []
unfolding first_forms forms bytes
second_rows = refl

-- With the whole table the reader makes the tests of a job.
pub checked_by_forms : (job : List ℕ) → check_job_by forms job ≡ check_job job
checked_by_forms = job_by_forms

-- A line that has a form gets 0 if all its tests pass, else the lowest number of a test that fails.
pub refusal_lowest : (c : Context) (last : Bool) (w : Written) → Lowest (tests c last w) (refusal_of c last (some w))
unfolding refusal_of
refusal_lowest c last w = lowest_is 0 (tests c last w) (tests_rise c last w)

-- Behind the last line of an accepted job the tests have counted the outcomes that its instructions record.
pub recorded_counted : (job : List ℕ) → (check_job job).number ≡ 0 → (context_after no_context_of (lines job)).recorded ≡ recorded_in (job_of job).instructions
unfolding next between no_context_of
recorded_counted job e =
    let b = job_begun job e in
    ap (λ (ls : List (List ℕ)). (context_after no_context_of ls).recorded) b.split
    ∙ ap (λ (c : Context). c.recorded) (after_first no_context_of b.text b.rest (Written.header b.header) b.reads)
    ∙ recorded_after 2 (between b.header 0) b.rest b.passes
    ∙ zero-add (recorded_in (gathered 2 b.rest).instructions)
    ∙ ap (λ (j : Job). recorded_in j.instructions) (sym b.is)

-- Behind the last line of an accepted job the tests know its header.
pub header_known : (job : List ℕ) → (check_job job).number ≡ 0 → (context_after no_context_of (lines job)).header ≡ (job_of job).header
unfolding next between no_context_of
header_known job e =
    let b = job_begun job e in
    ap (λ (ls : List (List ℕ)). (context_after no_context_of ls).header) b.split
    ∙ ap (λ (c : Context). c.header) (after_first no_context_of b.text b.rest (Written.header b.header) b.reads)
    ∙ header_after_lem 2 (between b.header 0) b.rest b.passes
    ∙ ap (λ (j : Job). j.header) (sym b.is)

-- A line has one form at most, which its mark names: it says what it says by that form.
pub one_form : (l : List ℕ) → read_line_of l ≡ read_as (form_by_mark (mark_of l)) l
one_form = read_by_mark

-- Code 15 is the last gate's: a line with code 16 has no form.
pub last_gate : (read_line_of (bytes "op=u g=15 q=0,1") ≡ some (Written.line (Line.unitary Gate.ControlledY (0 ∷ 1 ∷ [])))) × (read_line_of (bytes "op=u g=16 q=0,1") ≡ none)
unfolding bytes until extend pieces with_first pieces_of list_Q all_decimal decimal_from number_of a_number a_list value_of and_then same_byte at_end values_of numbers_in lists_in gates gate_from gate_of unitary_line forms said or_later read_by read_line_of
last_gate = (refl, refl)

-- ---- the words of a Clifford's table

-- A bit of the table is a bit of its word, whatever the width: bit i is bit i mod 64 of word i / 64, the least significant word first. A row may lie in
-- two words.
pub table_bit : (ws : List ℕ) → AllSmall ws → (i : ℕ) → bit (table_of ws) i ≡ bit (get_or ws (i / 64) 0) (i % 64)
table_bit = Table.table_bit

-- Every table of 4k² bits has its words, as many as the bits need, and they give it back.
pub table_round : (k t : ℕ) → t < 2 ^ (4 * (k * k)) → (length (words_of (table_words_of k) t) ≡ table_words_of k) × (table_of (words_of (table_words_of k) t) ≡ t)
table_round k t h = (Table.words_length (table_words_of k) t, Table.table_round k t h)

-- A line that is written with these words says that Clifford.
pub clifford_written : (qs : List ℕ) (t : ℕ) → FitQ qs → t < 2 ^ (4 * (length qs * length qs))
    → read_line_of (line_text (bytes "op=c q=Q t=T") (Value.list qs ∷ Value.list (words_of (table_words_of (length qs)) t) ∷ [])) ≡ some (Written.line (Line.clifford qs t))
clifford_written = clifford_says
