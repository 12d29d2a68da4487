-- The outcomes that sound instructions record: laws. Assumes nothing.
use Rattle.std.specs.Prelude.{ℕ, suc, ◌+◌, ◌≤◌, ◌<◌, ◌≡◌, true, List, [], ◌∷◌, ◌++◌}
use Rattle.std.proofs.Common.{add-zero, zero-add, add-one, one-add, arith, ap, ◌∙◌, true≢false}
use Rattle.std.proofs.Math.Path.{refl, sym}
use Rattle.std.proofs.Math.Option.{Option, some}
use Rattle.job.specs.declared.Header.{Header}
use Rattle.job.specs.Line.{Line, Instruction, Placed}
use Rattle.job.specs.Grammar.{Written, read_line_of}
use Rattle.job.specs.Checks.{Context, records, next, header_fits_of}
use Rattle.job.specs.Job.{next_of, Gathered, gather, gathered, recorded_by, recorded_in}
use Rattle.job.specs.Contexts.{context_after, Accepted}
use Rattle.job.specs.Sound.{NextOutcome, LineSound, InstructionSound, InstructionsSound, ids_of, ids_in, count_up}
use Rattle.job.proofs.Laws.Accepted.{Passing, accepted_first}
use Rattle.job.proofs.Laws.Gather.{recorded_more}

-- what an instruction records where r outcomes are recorded before it: none, or the next one
data Records (outcomes r : ℕ) : ℕ → List ℕ → Type 0 where
  nothing : Records outcomes r 0 []
  another : r < outcomes → Records outcomes r 1 (r ∷ [])

this_one : {outcomes r id : ℕ} → NextOutcome outcomes r id → Records outcomes r 1 (id ∷ [])
this_one n = rw n.next (another (omega arith))

instruction_records : (h : Header) (r : ℕ) (i : Instruction) → InstructionSound h r i → Records h.outcomes r (recorded_by i) (ids_of i)
unfolding InstructionSound LineSound recorded_by records ids_of
instruction_records h r (Instruction.line (Line.unitary g qs)) s = nothing
instruction_records h r (Instruction.line (Line.clifford qs t)) s = nothing
instruction_records h r (Instruction.line (Line.pauli P)) s = nothing
instruction_records h r (Instruction.line (Line.exponential P)) s = nothing
instruction_records h r (Instruction.line (Line.controlled C T)) s = nothing
instruction_records h r (Instruction.line (Line.permute p qs)) s = nothing
instruction_records h r (Instruction.line (Line.measure P id)) s = this_one s.outcome
instruction_records h r (Instruction.line (Line.allocate id angle)) s = this_one s
instruction_records h r (Instruction.line (Line.conditional P ids par)) s = nothing
instruction_records h r (Instruction.line (Line.reset qs)) s = nothing
instruction_records h r (Instruction.line (Line.inject shot P)) s = nothing
instruction_records h r (Instruction.line (Line.flip shot id)) s = nothing
instruction_records h r (Instruction.line (Line.barrier qs)) s = nothing
instruction_records h r (Instruction.noise n) s = nothing

records_within : {outcomes r k : ℕ} {ids : List ℕ} → Records outcomes r k ids → r ≤ outcomes → r + k ≤ outcomes
records_within nothing b = omega arith
records_within (another h) b = omega arith

-- an instruction records no more outcomes than there are
pub instruction_within : (h : Header) (r : ℕ) (i : Instruction) → InstructionSound h r i → r ≤ h.outcomes → r + recorded_by i ≤ h.outcomes
instruction_within h r i s b = records_within (instruction_records h r i s) b

-- so many more, counted on
records_count : {outcomes r k : ℕ} {ids : List ℕ} → Records outcomes r k ids → (n : ℕ) → ids ++ count_up (r + k) n ≡ count_up r (k + n)
unfolding count_up
records_count nothing n = rw (add-zero, zero-add)
records_count {r = r} (another h) n = rw (add-one r, one-add n)

-- no more outcomes are recorded than there are
pub recorded_within : (h : Header) (r : ℕ) (is : List Placed) → InstructionsSound h r is → r ≤ h.outcomes → r + recorded_in is ≤ h.outcomes
unfolding InstructionsSound recorded_in
recorded_within h r [] s b = omega arith
recorded_within h r (i ∷ is) s b =
    omega (arith, recorded_within h (r + recorded_by i.instruction) is s.1 (instruction_within h r i.instruction s.0 b))

-- the ids recorded count up from the first
pub ids_count : (h : Header) (r : ℕ) (is : List Placed) → InstructionsSound h r is → ids_in is ≡ count_up r (recorded_in is)
unfolding InstructionsSound recorded_in ids_in
ids_count h r [] s = unfold count_up in refl
ids_count h r (i ∷ is) s =
    ap (λ (l : List ℕ). ids_of i.instruction ++ l) (ids_count h (r + recorded_by i.instruction) is s.1)
    ∙ records_count (instruction_records h r i.instruction s.0) (recorded_in is)

-- ---- as the context counts

-- one line adds to the context what it adds to the instructions
counts_more : (k : ℕ) (c : Context) (l : List ℕ) (ls : List (List ℕ)) (w : Written) (g : Gathered) → c.begun ≡ true → Passing c ls w
    → (next c w).recorded + recorded_in g.instructions ≡ c.recorded + recorded_in (gather k l (some w) g).instructions
unfolding next gather recorded_in recorded_by header_fits_of
counts_more k c l ls (Written.header h) g b t = absurd (true≢false (sym t.header ∙ rw b))
counts_more k c l ls (Written.line i) g b t = omega (arith, recorded_more (records i) c.recorded)
counts_more k c l ls (Written.noise n) g b t = omega arith
counts_more k c l ls (Written.element w P) g b t = refl

pub after_first : (c : Context) (l : List ℕ) (ls : List (List ℕ)) (w : Written) → read_line_of l ≡ some w → context_after c (l ∷ ls) ≡ context_after (next c w) ls
unfolding context_after next_of
after_first c l ls w e = ap (λ (o : Option Written). context_after (next_of c o) ls) e

-- behind accepted lines the context has counted the outcomes that their instructions record
pub recorded_after : (k : ℕ) (c : Context) (ls : List (List ℕ)) → Accepted k c ls
    → (context_after c ls).recorded ≡ c.recorded + recorded_in (gathered k ls).instructions
unfolding gathered recorded_in
recorded_after k c [] a = unfold context_after in sym (add-zero c.recorded)
recorded_after k c (l ∷ ls) a =
    let f = accepted_first a in
    ap (λ (d : Context). d.recorded) (after_first c l ls f.says f.reads)
    ∙ recorded_after (suc k) (next c f.says) ls f.rest
    ∙ counts_more k c l ls f.says (gathered (suc k) ls) a.begun f.passing
    ∙ ap (λ (o : Option Written). c.recorded + recorded_in (gather k l o (gathered (suc k) ls)).instructions) (sym f.reads)

-- a good line behind the header keeps the header's numbers
pub same_header : (c : Context) (ls : List (List ℕ)) (w : Written) → c.begun ≡ true → Passing c ls w → (next c w).header ≡ c.header
unfolding next header_fits_of
same_header c ls (Written.header h) b t = absurd (true≢false (sym t.header ∙ rw b))
same_header c ls (Written.line i) b t = refl
same_header c ls (Written.noise n) b t = refl
same_header c ls (Written.element w P) b t = refl

pub header_after_lem : (k : ℕ) (c : Context) (ls : List (List ℕ)) → Accepted k c ls → (context_after c ls).header ≡ c.header
header_after_lem k c [] a = unfold context_after in refl
header_after_lem k c (l ∷ ls) a =
    let f = accepted_first a in
    ap (λ (d : Context). d.header) (after_first c l ls f.says f.reads)
    ∙ header_after_lem (suc k) (next c f.says) ls f.rest
    ∙ same_header c ls f.says a.begun f.passing
