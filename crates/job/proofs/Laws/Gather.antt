-- The instructions of accepted lines are sound: laws, by induction over the lines. Assumes nothing.
use Rattle.std.specs.Prelude.{ℕ, suc, ◌+◌, ◌-◌, ◌≤◌, ◌<◌, ◌≡◌, refl, Bool, true, false, cond, not, ◌&&◌, ◌||◌, List, [], ◌∷◌, map, eqb, ltb, leb, Float, length}
use Rattle.std.proofs.Common.{add-zero, add-one, arith, sym, ◌∙◌, true≢false}
use Rattle.std.proofs.Math.Option.{Option, none, some}
use borrow.Author.Tests.{ltb-true, ltb-false, leb-true, eqb-true, eq-eqb, not-false}
use Rattle.std.specs.Float.{binary64}
use Rattle.std.specs.Float.Ieee.{add}
use Rattle.std.proofs.lemmas.List.{length-map}
use Rattle.text.proofs.Laws.Values.{both}
use Rattle.job.specs.declared.Header.{Header}
use Rattle.job.specs.Line.{SparsePauli, WeightedPauli, size_of, Instruction, Placed}
use Rattle.job.specs.Float.{float, total_from, is_weight_of, is_total}
use Rattle.job.specs.Grammar.{Kind, NoiseLine, Written, read_line_of}
use Rattle.job.specs.Checks.{Context, element_lines_of, kind_size, first_total, next_total, records, next, noise_tests, kind_qubits, kind_distinct, elements_fit, each_below_of, each_short, same_weight, expected, header_fits_of, weight_fits, total_fits, own_tests}
use Rattle.job.specs.Job.{distribution_of, noise_of, weight_of, Gathered, placed_at, gather, gathered, recorded_by}
use Rattle.job.specs.Contexts.{Accepted}
use Rattle.job.specs.Sound.{Every, PauliSound, SmallOption, WeightSound, ElementSound, weights_of, DistributionSound, NoiseSound, InstructionSound, SizeSaid, InstructionsSound, SaidBy}
use Rattle.job.proofs.Laws.Tests.{AllPass}
use Rattle.job.specs.Fits.{KindFits, NoiseFits, WrittenFits}
use Rattle.job.proofs.Laws.Lines.{pauli_sound, operands_sound, first_short, line_sound}
use Rattle.job.proofs.Laws.Accepted.{Passing, accepted_first}

-- the size by the kind is that of the distribution, where the elements are as many as the kind says
pub kind_size_lem : (kind : Kind) (es : List WeightedPauli) → length es ≡ element_lines_of kind → size_of (distribution_of kind es) ≡ kind_size kind
unfolding size_of distribution_of kind_size element_lines_of
kind_size_lem (Kind.single P) es e = refl
kind_size_lem (Kind.depolarizing qs) es e = refl
kind_size_lem (Kind.uniform n) es e = length-map es (λ (w : WeightedPauli). w.pauli) ∙ e
kind_size_lem (Kind.weighted n) es e = e

-- ---- elements

-- the elements that are due where the weights so far have this sum: of elements without weights nothing is claimed
unfoldable pub WeightsSound : Option Float → List WeightedPauli → Type 0
WeightsSound none es = Unit {0}
WeightsSound (some t) es = Every WeightSound es × (0 < length es → is_total (total_from t (weights_of es)) ≡ true)

-- What is gathered of lines that are accepted in a context: as many elements as are due there, and then sound instructions.
pub record PartSound (c : Context) (g : Gathered) : Type 0 where
  pub count : length g.elements ≡ c.due
  pub paulis : Every (λ (e : WeightedPauli). PauliSound c.header.qubits e.pauli) g.elements
  pub weights : WeightsSound c.total g.elements
  pub instructions : InstructionsSound c.header c.recorded g.instructions

-- ---- a noise line with its elements

every_pauli : (n : ℕ) (es : List WeightedPauli) → Every (λ (e : WeightedPauli). PauliSound n e.pauli) es
    → Every (PauliSound n) (map (λ (e : WeightedPauli). e.pauli) es)
every_pauli n [] h = tt
every_pauli n (e ∷ es) h = (h.0, every_pauli n es h.1)

every_weighted : (n : ℕ) (es : List WeightedPauli) → Every (λ (e : WeightedPauli). PauliSound n e.pauli) es → Every WeightSound es
    → Every (ElementSound n) es
every_weighted n [] h w = tt
every_weighted n (e ∷ es) h w = (record { pauli = h.0; weight = w.0.weight; small = w.0.small }, every_weighted n es h.1 w.1)

kind_sound : (c : Context) (k : Kind) (es : List WeightedPauli) → KindFits k → each_below_of c.header.qubits (kind_qubits k) ≡ true
    → kind_distinct k ≡ true → each_short (kind_qubits k) ≡ true → elements_fit k ≡ true → length es ≡ element_lines_of k
    → Every (λ (e : WeightedPauli). PauliSound c.header.qubits e.pauli) es → WeightsSound (first_total k) es
    → DistributionSound c.header.qubits (distribution_of k es)
unfolding KindFits kind_qubits kind_distinct elements_fit element_lines_of first_total WeightsSound DistributionSound distribution_of
kind_sound c (Kind.single P) es f b d s n count ps ws = pauli_sound _ P f b s
kind_sound c (Kind.depolarizing qs) es f b d s n count ps ws = operands_sound _ qs f b d s
kind_sound c (Kind.uniform m) es f b d s n count ps ws =
    let parts = both (leb 1 m) (leb m 64) n in
    let long = length-map es (λ (e : WeightedPauli). e.pauli) in
    record {
      filled = omega (arith, leb-true 1 m parts.0);
      few = omega (arith, leb-true m 64 parts.1);
      each = every_pauli _ es ps;
    }
kind_sound c (Kind.weighted m) es f b d s n count ps ws =
    let parts = both (leb 1 m) (leb m 64) n in
    let filled : 1 ≤ length es = omega (arith, leb-true 1 m parts.0) in
    record {
      filled = filled;
      few = omega (arith, leb-true m 64 parts.1);
      each = every_weighted _ es ps ws.0;
      total = ws.1 filled;
    }

noise_sound : (c : Context) (n : NoiseLine) (g : Gathered) → NoiseFits n → AllPass (noise_tests c n) → PartSound (next c (Written.noise n)) g
    → NoiseSound c.header.qubits c.recorded (noise_of n g.elements)
unfolding noise_tests noise_of next
noise_sound c n g f t p =
    let lists = both (kind_distinct n.kind) _ (not-false _ t.1.0) in
    let rest = first_short n.condition.outcomes (kind_qubits n.kind) lists.1 in
    record {
      probability = not-false _ t.1.1.1.0;
      small = f.probability;
      correlation = f.correlation;
      outcomes = record { rising = f.outcomes.rising; below = not-false _ t.1.1.0; few = rest.0 };
      parity = f.parity;
      distribution = kind_sound c n.kind g.elements f.kind (not-false _ t.0) lists.0 rest.1 (not-false _ t.1.1.1.1.0) p.count p.paulis p.weights;
      size = eqb-true _ _ (not-false _ t.1.1.1.1.1.0) ∙ sym (kind_size_lem n.kind g.elements p.count);
    }

-- ---- an element line

-- the total is looked at with the last weight
total_last : (due : ℕ) (t : Float) (es : List WeightedPauli) → 0 < due → length es ≡ due - 1 → (not (eqb due 1) || is_total t) ≡ true
    → (0 < length es → is_total (total_from t (weights_of es)) ≡ true) → is_total (total_from t (weights_of es)) ≡ true
unfolding total_from
total_last due t [] some-due n h k = rw (eq-eqb due 1 (omega arith)) at h
total_last due t (e ∷ es) some-due n h k = k (omega arith)

weights_more : (due : ℕ) (total : Option Float) (w : Option ℕ) (P : SparsePauli) (es : List WeightedPauli) → 0 < due → length es ≡ due - 1
    → SmallOption w → same_weight w total ≡ true → (weight_fits w && (not (eqb due 1) || total_fits (next_total total w))) ≡ true
    → WeightsSound (next_total total w) es → WeightsSound total (record { weight = weight_of w; pauli = P } ∷ es)
unfolding WeightsSound SmallOption same_weight weight_fits total_fits next_total weight_of total_from
weights_more due none w P es some-due n small same fits ih = tt
weights_more due (some t) none P es some-due n small same fits ih = absurd (true≢false (sym same))
weights_more due (some t) (some v) P es some-due n small same fits ih =
    let parts = both (is_weight_of (float v)) (not (eqb due 1) || is_total (add binary64 t (float v))) fits in
    ((record { weight = parts.0; small = small }, ih.0), λ filled. total_last due (add binary64 t (float v)) es some-due n parts.1 ih.1)

-- ---- line by line

-- the outcomes recorded with the first instruction, as the context and as the list count them
pub recorded_more : (b : Bool) (r : ℕ) → cond b (suc r) r ≡ r + cond b 1 0
recorded_more true r = sym (add-one r)
recorded_more false r = sym (add-zero r)

no_weights : (total : Option Float) → WeightsSound total []
unfolding WeightsSound
no_weights none = tt
no_weights (some t) = (tt, λ h. absurd (omega arith))

-- an instruction, where no elements are due
instruction_sound : (k : ℕ) (c : Context) (l : List ℕ) (i : Instruction) (is : List Placed) → c.due ≡ 0 → InstructionSound c.header c.recorded i
    → InstructionsSound c.header (c.recorded + recorded_by i) is → PartSound c (record { elements = []; instructions = placed_at k l i ∷ is })
unfolding InstructionsSound
instruction_sound k c l i is due first rest = record { count = sym due; paulis = tt; weights = no_weights c.total; instructions = (first, rest) }

-- one line more
gather_sound : (k : ℕ) (c : Context) (l : List ℕ) (ls : List (List ℕ)) (w : Written) (g : Gathered) → c.begun ≡ true → WrittenFits w → Passing c ls w
    → PartSound (next c w) g → PartSound c (gather k l (some w) g)
unfolding WrittenFits gather next expected header_fits_of own_tests InstructionSound recorded_by
gather_sound k c l ls (Written.header h) g begun f t p = absurd (true≢false (sym t.header ∙ rw begun))
gather_sound k c l ls (Written.line i) g begun f t p =
    instruction_sound k c l _ _ (eqb-true _ _ t.due) (line_sound c i f t.edition t.own) (rw (recorded_more (records i) c.recorded) at p.instructions)
gather_sound k c l ls (Written.noise n) g begun f t p =
    instruction_sound k c l _ _ (eqb-true _ _ t.due) (noise_sound c n g f t.own p) (rw add-zero p.instructions)
gather_sound k c l ls (Written.element w P) g begun f t p =
    let due = both (ltb 0 c.due) (same_weight w c.total) t.due in
    let some-due : 0 < c.due = ltb-true _ _ due.0 in
    record {
      count = omega (arith, p.count);
      paulis = (pauli_sound _ P f.1 (not-false _ t.own.0) (not-false _ t.own.1.0), p.paulis);
      weights = weights_more c.due c.total w P g.elements some-due p.count f.0 due.1 (not-false _ t.own.1.1.0) p.weights;
      instructions = p.instructions;
    }

-- Of accepted lines what is gathered is sound.
pub gathered_sound : (k : ℕ) (c : Context) (ls : List (List ℕ)) → Accepted k c ls → PartSound c (gathered k ls)
unfolding gathered
gathered_sound k c [] a =
    unfold InstructionsSound in
    record { count = omega (arith, ltb-false 0 c.due a.ends); paulis = tt; weights = no_weights c.total; instructions = tt }
gathered_sound k c (l ∷ ls) a =
    let f = accepted_first a in
    rw f.reads (gather_sound k c l ls f.says (gathered (suc k) ls) a.begun f.fits f.passing (gathered_sound (suc k) (next c f.says) ls f.rest))

-- Sound instructions say their sizes.
pub sizes_said : (h : Header) (r : ℕ) (is : List Placed) → InstructionsSound h r is → Every (λ (p : Placed). SizeSaid p.instruction) is
unfolding InstructionsSound
sizes_said h r [] s = tt
sizes_said h r (p ∷ is) s = (go p.instruction s.0, sizes_said h (r + recorded_by p.instruction) is s.1)
  where
    go : (i : Instruction) → InstructionSound h r i → SizeSaid i
    go (Instruction.line l) s = unfold SizeSaid in tt
    go (Instruction.noise n) s = unfold SizeSaid InstructionSound in s.size

-- the bytes of each instruction's line say it
abbrev pub AllSaid : List Placed → Type 0
AllSaid = Every (λ (p : Placed). SaidBy p.text p.instruction)

said_more : (k : ℕ) (c : Context) (l : List ℕ) (w : Written) (g : Gathered) → read_line_of l ≡ some w → PartSound (next c w) g → AllSaid g.instructions
    → AllSaid (gather k l (some w) g).instructions
unfolding gather next SaidBy
said_more k c l (Written.header h) g e p s = s
said_more k c l (Written.line i) g e p s = (e, s)
said_more k c l (Written.noise n) g e p s = (record { line = n; elements = g.elements; reads = e; count = p.count; is = refl }, s)
said_more k c l (Written.element w P) g e p s = s

pub gathered_said : (k : ℕ) (c : Context) (ls : List (List ℕ)) → Accepted k c ls → AllSaid (gathered k ls).instructions
unfolding gathered
gathered_said k c [] a = tt
gathered_said k c (l ∷ ls) a =
    let f = accepted_first a in
    rw f.reads (said_more k c l f.says _ f.reads (gathered_sound (suc k) (next c f.says) ls f.rest) (gathered_said (suc k) (next c f.says) ls f.rest))
