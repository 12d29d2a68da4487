-- Sound lines pass, so that the tests refuse nothing that is sound, and a text of copied and new lines is accepted. Laws. Assumes nothing.
use Rattle.std.specs.Prelude.{ℕ, suc, ◌+◌, ◌≤◌, ◌≡◌, Bool, true, false, not, ◌&&◌, ◌||◌, List, [], ◌∷◌, ◌++◌, eqb, ltb, length}
use Rattle.std.proofs.Common.{arith, sym, ap, subst, ◌∙◌}
use Rattle.std.proofs.Math.Decide.{ℕ_discrete}
use Rattle.std.proofs.Math.Path.{refl}
use Rattle.std.proofs.Math.Bool.{and-false}
use Rattle.std.proofs.Math.Option.{Option, some}
use borrow.Author.Tests.{lt-ltb, le-leb, eq-eqb}
use Rattle.std.proofs.lemmas.List.{length-map}
use Rattle.pauli.specs.Gate.{Gate}
use Rattle.job.specs.declared.Header.{Header}
use Rattle.job.specs.Line.{SparsePauli, Line, WeightedPauli, Instruction}
use Rattle.job.specs.Grammar.{Kind, NoiseLine, Written, read_line_of}
use Rattle.job.specs.Checks.{Context, no_context_of, element_lines_of, next, all_below, each_below_of, each_short, distinct, is_second_gate, is_second_line, is_second_of, in_edition_of, expected, in_range, known_edition, header_fits_of, lists_of, line_tests, kind_qubits, kind_distinct, elements_fit, noise_tests, own_tests, refusal_of}
use Rattle.job.specs.Job.{accepted, is_last, next_of, check_lines_of, distribution_of, noise_of, recorded_by}
use Rattle.job.specs.Contexts.{between, Accepted}
use Rattle.job.specs.Sound.{Operands, PauliSound, NextOutcome, LineSound, DistributionSound, NoiseSound, HeaderSound}
use Rattle.job.proofs.Laws.Permutation.{permutation_parts}
use Rattle.job.proofs.Laws.Tests.{AllPass}
use Rattle.job.proofs.Laws.Accepted.{checks_good, Passing, passing_good, accepted_more}
use Rattle.job.proofs.Laws.Gather.{kind_size_lem}
use Rattle.job.proofs.Laws.Instructions.{next_between}

-- a test that passes, and those after it
pub passed : {b : Bool} {A : Type 0} → b ≡ true → A → (not b ≡ false) × A
passed p later = (ap not p, later)

pub and_both : {a b : Bool} → a ≡ true → b ≡ true → (a && b) ≡ true
and_both {a} {b} p q = rw (p, q)

-- ---- tests 4 and 5 on lists

module _ (n : ℕ) where
  below_also : (l : List ℕ) (ls : List (List ℕ)) → all_below n l ≡ true → each_below_of n ls ≡ true → each_below_of n (l ∷ ls) ≡ true
  unfolding each_below_of
  below_also l ls p q = and_both p q

  below_one : (l : List ℕ) → all_below n l ≡ true → each_below_of n (l ∷ []) ≡ true
  below_one l p = below_also l [] p (unfold each_below_of in refl)

  -- a Pauli's lists, in front of others
  pauli_below : (P : SparsePauli) (ls : List (List ℕ)) → PauliSound n P → each_below_of n ls ≡ true → each_below_of n (lists_of P ++ ls) ≡ true
  pauli_below P ls s q = below_also P.x (P.z ∷ ls) s.x.below (below_also P.z ls s.z.below q)

  one_below : (P : SparsePauli) → PauliSound n P → each_below_of n (lists_of P) ≡ true
  one_below P s = pauli_below P [] s (unfold each_below_of in refl)

  pauli_short : (P : SparsePauli) (ls : List (List ℕ)) → PauliSound n P → each_short ls ≡ true → each_short (lists_of P ++ ls) ≡ true
  unfolding each_short
  pauli_short P ls s q = and_both (le-leb _ _ s.x.few) (and_both (le-leb _ _ s.z.few) q)

  one_short : (P : SparsePauli) → PauliSound n P → each_short (lists_of P) ≡ true
  one_short P s = pauli_short P [] s (unfold each_short in refl)

  -- the two tests of a Pauli
  pub pauli_passes : (P : SparsePauli) {A : Type 0} → PauliSound n P → A → (not (each_below_of n (lists_of P)) ≡ false) × ((not (each_short (lists_of P)) ≡ false) × A)
  pauli_passes P s later = passed (one_below P s) (passed (one_short P s) later)

short_also : (l : List ℕ) (ls : List (List ℕ)) → length l ≤ 31 → each_short ls ≡ true → each_short (l ∷ ls) ≡ true
unfolding each_short
short_also l ls h q = and_both (le-leb (length l) 31 h) q

short_one : (l : List ℕ) → length l ≤ 31 → each_short (l ∷ []) ≡ true
short_one l h = short_also l [] h (unfold each_short in refl)

id_passes : {m r id : ℕ} → NextOutcome m r id → (eqb id r && ltb id m) ≡ true
id_passes s = and_both (eq-eqb _ _ s.next) (lt-ltb _ _ s.below)

-- operands of no fixed number
operands_pass : (n : ℕ) (qs : List ℕ) → Operands n qs → (not (each_below_of n (qs ∷ [])) ≡ false) × ((not (distinct qs && each_short (qs ∷ [])) ≡ false) × Unit {0})
operands_pass n qs o = passed (below_one n qs o.below) (passed (and_both o.apart (short_one qs o.few)) tt)

-- ---- lines

-- a sound line passes its tests
pub line_passes : (h : Header) (r : ℕ) (l : Line) → LineSound h r l → AllPass (line_tests (between h r) l)
unfolding LineSound line_tests between
line_passes h r (Line.unitary g qs) s =
    let o = s.operands in
    passed (below_one _ qs o.below) (passed (and_both (and_both (eq-eqb _ _ s.count) o.apart) (short_one qs o.few)) tt)
line_passes h r (Line.clifford qs t) s =
    let o = s.operands in
    passed (below_one _ qs o.below) (passed (and_both (and_both (le-leb _ _ s.few) o.apart) (short_one qs o.few)) (passed s.table tt))
line_passes h r (Line.pauli P) s = pauli_passes _ P s tt
line_passes h r (Line.exponential P) s = pauli_passes _ P s tt
line_passes h r (Line.controlled C T) s =
    passed (pauli_below _ C (lists_of T) s.control (one_below _ T s.target))
    (passed (pauli_short _ C (lists_of T) s.control (one_short _ T s.target)) (passed (ap not s.commute) tt))
line_passes h r (Line.permute p qs) s =
    let o = s.operands in
    let long : length p ≤ 31 = omega (arith, (permutation_parts (length qs) p s.places).long, o.few) in
    passed (below_one _ qs o.below) (passed (and_both o.apart (short_also p (qs ∷ []) long (short_one qs o.few))) (passed s.places tt))
line_passes h r (Line.measure P id) s = pauli_passes _ P s.observable (passed (id_passes s.outcome) tt)
line_passes h r (Line.allocate id angle) s = passed (id_passes s) tt
line_passes h r (Line.conditional P ids par) s =
    passed (one_below _ P s.pauli) (passed (short_also ids (lists_of P) s.known.few (one_short _ P s.pauli)) (passed s.known.below tt))
line_passes h r (Line.reset qs) s = operands_pass _ qs s.operands
line_passes h r (Line.inject shot P) s = pauli_passes _ P s.pauli (passed (lt-ltb _ _ s.within) tt)
line_passes h r (Line.flip shot id) s = unfold all_below in passed (and_both (lt-ltb _ _ s.known) refl) (passed (lt-ltb _ _ s.within) tt)
line_passes h r (Line.barrier qs) s = operands_pass _ qs s.operands

-- and stands in the job's edition
module _ (e : ℕ) where
  in_second : (b : Bool) → e ≡ 2 → (not b || eqb e 2) ≡ true
  in_second true h = eq-eqb e 2 h
  in_second false h = refl

  -- a gate of the second edition is ControlledY
  gate_edition : (g : Gate) → (g ≡ Gate.ControlledY → e ≡ 2) → (not (is_second_gate g) || eqb e 2) ≡ true
  unfolding is_second_gate
  gate_edition Gate.I h = refl
  gate_edition Gate.X h = refl
  gate_edition Gate.Y h = refl
  gate_edition Gate.Z h = refl
  gate_edition Gate.Hadamard h = refl
  gate_edition Gate.SqrtZ h = refl
  gate_edition Gate.SqrtZInv h = refl
  gate_edition Gate.SqrtX h = refl
  gate_edition Gate.SqrtXInv h = refl
  gate_edition Gate.SqrtY h = refl
  gate_edition Gate.SqrtYInv h = refl
  gate_edition Gate.ControlledX h = refl
  gate_edition Gate.ControlledZ h = refl
  gate_edition Gate.Swap h = refl
  gate_edition Gate.PrepareBell h = refl
  gate_edition Gate.ControlledY h = eq-eqb e 2 (h refl)

  reset_edition : (qs : List ℕ) → 1 ≤ length qs → (2 ≤ length qs → e ≡ 2) → (not (not (eqb (length qs) 1)) || eqb e 2) ≡ true
  reset_edition qs filled h = go (ℕ_discrete (length qs) 1)
    where
      go : Dec (length qs ≡ 1) → (not (not (eqb (length qs) 1)) || eqb e 2) ≡ true
      go (yes one) = rw (eq-eqb (length qs) 1 one)
      go (no more) = in_second (not (eqb (length qs) 1)) (h (omega (arith, filled, more)))

pub line_edition : (h : Header) (r : ℕ) (l : Line) → LineSound h r l → in_edition_of (between h r) (Written.line l) ≡ true
unfolding LineSound is_second_of is_second_line between
line_edition h r (Line.unitary g qs) s = gate_edition h.edition g s.known
line_edition h r (Line.clifford qs t) s = refl
line_edition h r (Line.pauli P) s = refl
line_edition h r (Line.exponential P) s = refl
line_edition h r (Line.controlled C T) s = refl
line_edition h r (Line.permute p qs) s = refl
line_edition h r (Line.measure P id) s = refl
line_edition h r (Line.allocate id angle) s = refl
line_edition h r (Line.conditional P ids par) s = refl
line_edition h r (Line.reset qs) s = reset_edition h.edition qs s.operands.filled s.several
line_edition h r (Line.inject shot P) s = refl
line_edition h r (Line.flip shot id) s = refl
line_edition h r (Line.barrier qs) s = in_second h.edition true s.second

-- ---- noise

-- what the tests of a noise line ask of its kind
record KindPasses (n : ℕ) (k : Kind) : Type 0 where
  below : each_below_of n (kind_qubits k) ≡ true
  apart : kind_distinct k ≡ true
  short : each_short (kind_qubits k) ≡ true
  fits : elements_fit k ≡ true

kind_passes : (n : ℕ) (k : Kind) (es : List WeightedPauli) → length es ≡ element_lines_of k → DistributionSound n (distribution_of k es) → KindPasses n k
unfolding kind_qubits kind_distinct elements_fit element_lines_of distribution_of DistributionSound each_below_of each_short
kind_passes n (Kind.single P) es count s = record { below = one_below n P s; apart = refl; short = one_short n P s; fits = refl }
kind_passes n (Kind.depolarizing qs) es count s =
    record { below = below_one n qs s.below; apart = s.apart; short = short_one qs s.few; fits = refl }
kind_passes n (Kind.uniform m) es count s =
    let long = length-map es (λ (e : WeightedPauli). e.pauli) in
    record { below = refl; apart = refl; short = refl; fits = and_both (le-leb 1 m (omega (arith, s.filled))) (le-leb m 64 (omega (arith, s.few))) }
kind_passes n (Kind.weighted m) es count s =
    record { below = refl; apart = refl; short = refl; fits = and_both (le-leb 1 m (omega (arith, s.filled))) (le-leb m 64 (omega (arith, s.few))) }

-- a sound noise line passes its tests
pub noise_passes : (h : Header) (r : ℕ) (n : NoiseLine) (es : List WeightedPauli) → length es ≡ element_lines_of n.kind
    → NoiseSound h.qubits r (noise_of n es) → AllPass (noise_tests (between h r) n)
unfolding noise_tests noise_of between
noise_passes h r n es count s =
    let k = kind_passes h.qubits n.kind es count s.distribution in
    passed k.below
    (passed (and_both k.apart (short_also n.condition.outcomes (kind_qubits n.kind) s.outcomes.few k.short))
    (passed s.outcomes.below (passed s.probability (passed k.fits (passed (eq-eqb _ _ (s.size ∙ kind_size_lem n.kind es count)) tt)))))

-- ---- in front of accepted lines

-- a sound line
pub line_more : (h : Header) (r k : ℕ) (t : List ℕ) (ts : List (List ℕ)) (l : Line) → read_line_of t ≡ some (Written.line l) → LineSound h r l
    → Accepted (suc k) (between h (r + recorded_by (Instruction.line l))) ts → Accepted k (between h r) (t ∷ ts)
line_more h r k t ts l reads s a =
    accepted_more k (between h r) t ts (Written.line l) (unfold between in refl) reads
    (unfold expected next header_fits_of own_tests between in
    record { due = refl; ends = and-false (is_last ts); edition = line_edition h r l s; header = refl; own = line_passes h r l s })
    (subst (λ (c : Context). Accepted (suc k) c ts) (sym (next_between l h r)) a)

-- ---- the header

-- a header in range passes on the first line
header_passes : (ts : List (List ℕ)) (h : Header) → HeaderSound h → Passing no_context_of ts (Written.header h)
unfolding expected next is_second_of header_fits_of own_tests no_context_of
header_passes ts h s = record { due = refl; ends = and-false (is_last ts); edition = refl; header = range; own = passed known tt }
  where
    known : known_edition h.edition ≡ true
    known = and_both (le-leb _ _ s.some_edition) (le-leb _ _ s.two_editions)

    range : in_range h ≡ true
    range =
        and_both (and_both (and_both (and_both (le-leb _ _ s.some_qubits) (le-leb _ _ s.few_qubits)) (le-leb _ _ s.few_outcomes)) (le-leb _ _ s.some_shots))
        (le-leb _ _ s.few_shots)

-- a header in range and accepted lines behind it
pub header_accepted : (h : Header) (t : List ℕ) (ts : List (List ℕ)) → read_line_of t ≡ some (Written.header h) → HeaderSound h → Accepted 2 (between h 0) ts
    → check_lines_of 1 no_context_of (t ∷ ts) ≡ accepted
unfolding next_of next between
header_accepted h t ts reads s a =
    checks_good 1 no_context_of t ts (ap (refusal_of no_context_of (is_last ts)) reads ∙ passing_good no_context_of ts (Written.header h) (header_passes ts h s))
    ∙ ap (λ (o : Option Written). check_lines_of 2 (next_of no_context_of o) ts) reads
    ∙ a.passes
