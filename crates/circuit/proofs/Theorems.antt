-- Theorems: the annotated text of an accepted job is a job of the annotated list; each qubit of a line stands in its noise once; the correlation check by the
-- sizes written is the one by the distributions. Their proofs stand in Laws.
-- Assumes nothing.
use Rattle.std.specs.Prelude.{◌≡◌, refl, true, false, ◌||◌, List, [], ◌∷◌, ◌++◌, ℕ, ◌+◌, ◌^◌, ◌<◌, ◌≤◌, length}
use Rattle.std.proofs.Common.{◌∙◌, ne_eqb}
use Rattle.std.proofs.Math.Option.{Option, none, some}
use Rattle.text.specs.Bytes.{bytes, until, extend, pieces, lines, unlines}
use Rattle.text.specs.List.{with_first, pieces_of, list_Q, rises_from, is_rising_of, only_rising, list_L, one_member, list_C, commas_by, list_text_by}
use Rattle.text.specs.Number.{all_decimal, decimal_from, number_of, all_hex_of, hex_from, hex_of, bit_of, decimal_digits, hex_digits}
use Rattle.text.specs.Template.{a_number, a_list, value_of, and_then, same_byte, at_end, values_of, numbers_in, lists_in, value_text, first_text, line_text}
use Rattle.pauli.specs.Bits.{outside, members}
use Rattle.pauli.specs.Gate.{gates, gate_from, gate_of}
use Rattle.job.specs.declared.Header.{Header}
use Rattle.job.specs.Line.{SparsePauli, Line, Distribution, size_of, Instruction, Placed}
use Rattle.job.specs.Checks.{distinct}
use Rattle.job.specs.Grammar.{unitary_line, optional, noise_line, forms, said, or_later, read_by, read_line_of}
use Rattle.job.specs.Rising.{including, rising}
use Rattle.job.specs.Float.{float, is_probability}
use Rattle.job.specs.Job.{accepted, job_of, check_job}
use Rattle.job.specs.Sound.{LineSound, instructions_of}
use Rattle.job.proofs.Theorems.{size_said}
use Rattle.job.specs.Reply.{refused_text, written_text, written_by}
use Rattle.circuit.specs.Annotate.{support_of, located_qubits, add_new_of, first_from, noise_qubits_of, noise_before_of, noise_text_of, noise_lines_of, around, annotated, annotated_text, located_on, noise_on, first_unfit, locations_at, locations}
use Rattle.circuit.specs.Annotated.{annotated_list}
use Rattle.circuit.specs.Correlation.{agrees, seen_after, size_fits, correlation_of, said_size, distribution_size, first_differing_by, first_differing_of}
use Rattle.circuit.specs.Replies.{annotate_reply}
use Rattle.circuit.proofs.Laws.Replies.{annotate_writes}
use Rattle.circuit.proofs.Laws.First.{members_append, first_members, first_same}
use Rattle.circuit.proofs.Laws.Annotated.{qubits_apart, located_apart, JobAnnotated, job_annotated}
use Rattle.circuit.proofs.Laws.Correlation.{measured_same}

-- ---- the qubits of a line's noise

-- None stands twice, so 18 asks only how many they are.
pub noise_apart : (l : Line) → distinct (noise_qubits_of l) ≡ true
noise_apart l = qubits_apart l

-- Where control and target share none, they are control's support and then target's.
pub unshared_both : (C T : SparsePauli) → distinct (support_of C ++ support_of T) ≡ true → noise_qubits_of (Line.controlled C T) ≡ support_of C ++ support_of T
unfolding noise_qubits_of located_qubits
unshared_both C T d = first_same [] (support_of C ++ support_of T) d

-- For the other lines of an accepted job they are the operands or the support.
pub others_located : (h : Header) (r : ℕ) (l : Line) → LineSound h r l → ((C T : SparsePauli) → l ≡ Line.controlled C T → ⊥) → noise_qubits_of l ≡ located_qubits l
unfolding noise_qubits_of
others_located h r l s other = first_same [] (located_qubits l) (located_apart h r l s other)

-- Their members are those of both supports.
pub shared_members : (C T : SparsePauli) (q : ℕ) → members (noise_qubits_of (Line.controlled C T)) q ≡ members (support_of C) q || members (support_of T) q
unfolding noise_qubits_of located_qubits members outside
shared_members C T q = first_members [] (support_of C ++ support_of T) q ∙ members_append (support_of C) (support_of T) q

-- ---- annotation

-- A job that the tests refuse is refused by them, whatever annotation's own p is.
pub refused_first : (job : List ℕ) (p : ℕ) (out : List ℕ) → ((check_job job).number ≡ 0 → ⊥) → annotate_reply job p out ≡ refused_text (check_job job) out
unfolding annotate_reply
refused_first job p out refused = rw (ne_eqb _ _ refused) refl

-- For an accepted job, a probability by its bits, and no line that 18 refuses:
module _ (job : List ℕ) (passes : (check_job job).number ≡ 0) (p : ℕ) (small : p < 2 ^ 64) (probability : is_probability (float p) ≡ true)
    (fits : first_unfit 1 (lines job) ≡ none)
  where
    known : JobAnnotated p job
    known = job_annotated p small probability job passes fits

    -- The annotated text passes the tests of a job where it is not too long.
    pub annotated_accepted : length (annotated_text p job) ≤ 1048576 → check_job (annotated_text p job) ≡ accepted
    annotated_accepted few = known.accepted few

    -- Its header is the job's, with its bytes.
    pub annotated_header : ((job_of (annotated_text p job)).header ≡ (job_of job).header) × ((job_of (annotated_text p job)).text ≡ (job_of job).text)
    annotated_header = (known.header, known.text)

    -- Its instructions are those of the job, each with its noise.
    pub annotated_instructions : instructions_of (job_of (annotated_text p job)).instructions ≡ annotated_list p (instructions_of (job_of job).instructions)
    annotated_instructions = known.instructions

-- In the call: where annotation answers 0, what it wrote (`written_by` gives the first bytes of its output, as many as its figure says) is the annotated
-- text, which passes the tests of a job and has the annotated list for its instructions; no other byte is changed.
module _ (job : List ℕ) (p : ℕ) (small : p < 2 ^ 64) (out : List ℕ) (done : (annotate_reply job p out).answered.number ≡ 0) where
  pub annotates : annotate_reply job p out ≡ written_text (annotated_text p job) out
  annotates = (annotate_writes job p out done).reply

  pub annotates_accepted : check_job (written_by (annotate_reply job p out)) ≡ accepted
  annotates_accepted =
      let w = annotate_writes job p out done in
      rw w.text (annotated_accepted job w.passes p small w.probability w.fits w.few)

  pub annotates_instructions : instructions_of (job_of (written_by (annotate_reply job p out))).instructions
      ≡ annotated_list p (instructions_of (job_of job).instructions)
  annotates_instructions =
      let w = annotate_writes job p out done in
      rw w.text (annotated_instructions job w.passes p small w.probability w.fits)

-- ---- the correlation check

-- For an accepted job it finds, by the sizes written, what it would find by those of the distributions.
pub correlation_by_distributions : (job : List ℕ) → (check_job job).number ≡ 0
    → first_differing_of [] (job_of job).instructions ≡ first_differing_by distribution_size [] (job_of job).instructions
correlation_by_distributions job e = measured_same [] (job_of job).instructions (size_said job e)

-- noise at a line, with its corr and the size that it says
abbrev pub noise_at : ℕ → Option ℕ → ℕ → Placed
noise_at k corr size =
    record {
      line = k;
      text = [];
      instruction = Instruction.noise record {
        probability = 0;
        correlation = corr;
        condition = record { outcomes = []; parity = false };
        distribution = Distribution.single record { x = []; z = [] };
        size = size;
      };
    }

-- Noise without a corr never takes part, corr 0 is a corr as any other, and of two lines that differ the later one is found.
pub correlated_case : first_differing_of []
    (noise_at 2 none 1
    ∷ noise_at 3 (some 0) 3
    ∷ noise_at 4 none 15
    ∷ noise_at 5 (some 7) 15
    ∷ noise_at 6 (some 0) 15
    ∷ noise_at 7 (some 7) 15
    ∷ [])
    ≡ some 6
unfolding first_differing_by correlation_of said_size size_fits agrees seen_after
correlated_case = refl

-- ---- a case of document 01, computed

-- opens what lines are read and written with
reading : Unit {0}
unfolding bytes until extend pieces unlines with_first pieces_of list_Q rises_from is_rising_of only_rising list_L one_member list_C commas_by list_text_by all_decimal decimal_from number_of all_hex_of hex_from hex_of bit_of decimal_digits hex_digits a_number a_list value_of and_then same_byte at_end values_of numbers_in lists_in value_text first_text line_text gates gate_from gate_of unitary_line optional noise_line forms said or_later read_by read_line_of including rising
reading = tt

-- opens which qubits a line's noise has
noising : Unit {0}
unfolding outside members add_new_of first_from located_qubits noise_qubits_of
noising = tt

-- p = 2^-10: operands as written; a Y counts once and the support rises; control's support, then target's; none for the identity; before a measurement; none
-- for a reset, and existing noise is copied with its elements.
abbrev pub plain_case : List (List ℕ)
plain_case =
    bytes "op=job qubits=4 outcomes=1 shots=8"
    ∷ bytes "op=u g=11 q=1,0"
    ∷ bytes "op=p x=3 z=0,3"
    ∷ bytes "op=k x=2 z=- u=- v=0,1"
    ∷ bytes "op=e x=- z=-"
    ∷ bytes "op=o x=- z=2 id=0"
    ∷ bytes "op=z q=3"
    ∷ bytes "op=n p=3fe0000000000000 corr=- cond=- parity=0 d=3 n=1 size=1"
    ∷ bytes "x=1 z=-"
    ∷ []

abbrev pub annotated_case : List (List ℕ)
annotated_case =
    bytes "op=job qubits=4 outcomes=1 shots=8"
    ∷ bytes "op=u g=11 q=1,0"
    ∷ bytes "op=n p=3f50000000000000 corr=- cond=- parity=0 d=2 q=1,0 size=15"
    ∷ bytes "op=p x=3 z=0,3"
    ∷ bytes "op=n p=3f50000000000000 corr=- cond=- parity=0 d=2 q=0,3 size=15"
    ∷ bytes "op=k x=2 z=- u=- v=0,1"
    ∷ bytes "op=n p=3f50000000000000 corr=- cond=- parity=0 d=2 q=2,0,1 size=63"
    ∷ bytes "op=e x=- z=-"
    ∷ bytes "op=n p=3f50000000000000 corr=- cond=- parity=0 d=2 q=2 size=3"
    ∷ bytes "op=o x=- z=2 id=0"
    ∷ bytes "op=z q=3"
    ∷ bytes "op=n p=3fe0000000000000 corr=- cond=- parity=0 d=3 n=1 size=1"
    ∷ bytes "x=1 z=-"
    ∷ []

pub annotated_case_lem : annotated_text 0x3f50_0000_0000_0000 (unlines plain_case) ≡ unlines annotated_case
unfolding annotated_text annotated around noise_before_of noising noise_lines_of noise_text_of size_of reading
annotated_case_lem = refl

-- its locations: twice 2, 2, 3 and 1 qubits
pub located_case : locations (lines (unlines plain_case)) ≡ 16
unfolding locations locations_at located_on noise_on noising reading
located_case = refl

-- ---- control and target that share qubits

-- each qubit at its first appearance, control's support rising and then target's
abbrev pub shared_case : List (List ℕ)
shared_case = bytes "op=job qubits=6 outcomes=0 shots=1" ∷ bytes "op=k x=0,1 z=- u=- v=0,1" ∷ bytes "op=k x=3,5 z=4 u=5 v=2,4" ∷ []

pub shared_case_lem : annotated_text 0x3f50_0000_0000_0000 (unlines shared_case) ≡ unlines
    (bytes "op=job qubits=6 outcomes=0 shots=1"
    ∷ bytes "op=k x=0,1 z=- u=- v=0,1"
    ∷ bytes "op=n p=3f50000000000000 corr=- cond=- parity=0 d=2 q=0,1 size=15"
    ∷ bytes "op=k x=3,5 z=4 u=5 v=2,4"
    ∷ bytes "op=n p=3f50000000000000 corr=- cond=- parity=0 d=2 q=3,4,5,2 size=255"
    ∷ [])
unfolding annotated_text annotated around noise_before_of noising noise_lines_of noise_text_of size_of reading
shared_case_lem = refl

-- both weights are counted: twice 2 and 2, and twice 3 and 3
pub shared_located : locations (lines (unlines shared_case)) ≡ 8 + 12
unfolding locations locations_at located_on noise_on noising reading
shared_located = refl

-- 20 and 20 qubits, of which 10 are shared, and of which 8 are
pub shared_fit : first_unfit 1 (bytes "op=k x=0,1,2,3,4,5,6,7,8,9,10,11,12,13,14,15,16,17,18,19 z=- u=10,11,12,13,14,15,16,17,18,19,20,21,22,23,24,25,26,27,28,29 v=-" ∷ []) ≡ none
unfolding first_unfit noise_on located_on noising reading
shared_fit = refl

pub shared_unfit : first_unfit 1 (bytes "op=k x=0,1,2,3,4,5,6,7,8,9,10,11,12,13,14,15,16,17,18,19 z=- u=12,13,14,15,16,17,18,19,20,21,22,23,24,25,26,27,28,29,30,31 v=-" ∷ []) ≡ some 1
unfolding first_unfit noise_on located_on noising reading
shared_unfit = refl
