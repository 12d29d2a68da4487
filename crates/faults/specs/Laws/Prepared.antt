-- A noise line made ready for its draws. Laws. Assumes nothing.
use Rattle.std.specs.Prelude.{ℕ, ◌+◌, ◌*◌, ◌≤◌, ◌<◌, ◌≡◌, refl, Bool, true, take, Float}
use Rattle.std.proofs.Common.{arith, ◌∙◌}
use Rattle.std.proofs.Math.Path.{sym, ap, subst}
use mathlib.Core.List.{List}
use Rattle.std.proofs.Math.ListN.{length, get_or, get_or-map}
use Rattle.std.proofs.lemmas.List.{length-map}
use Rattle.text.specs.Bytes.{bytes}
use Rattle.text.specs.Template.{Value}
use Rattle.template.specs.Values.{held_number}
use Rattle.job.specs.declared.Header.{Header}
use Rattle.job.specs.Line.{WeightedPauli, Distribution, OutcomeCondition}
use Rattle.job.specs.Float.{float, zero_float, is_probability, total_from}
use Rattle.job.specs.Grammar.{Kind, NoiseLine, Written, forms}
use Rattle.job.specs.Checks.{element_lines_of, first_total}
use Rattle.job.specs.Job.{distribution_of, noise_of}
use Rattle.job.specs.Sound.{weights_of, DistributionSound}
use Rattle.job.proofs.Laws.Lists.{below_at}
use Rattle.reader.specs.declared.Form.{Form}
use Rattle.reader.specs.declared.Form.TheVariants as form
use Rattle.reader.specs.Parsed.{place_of, Said}
use Rattle.instructions.specs.declared.LineRead.{LineRead}
use Rattle.instructions.specs.Reading.{has_total}
use Rattle.instructions.specs.Ahead.{instructions_at, Among, has_weights_of, NoiseRead}
use Rattle.instructions.specs.Laws.Meaning.{noise_by}
use Rattle.instructions.specs.Laws.Elements.{among_done}
use Rattle.draws.specs.Draws.{no_pauli}
use Rattle.draws.proofs.Laws.Faults.{sound_positive}
use Rattle.rows.specs.Words.{bit_in}
use Rattle.rows.specs.Listed.{RowsIn}
use Rattle.rows.proofs.Laws.Overwrite.{before_row}
use Rattle.noise.specs.declared.PauliDistribution.TheVariants.{Uniform, Weighted}
use Rattle.noise.specs.declared.PauliFault.{PauliFault}
use Rattle.noise.specs.Kinds.{kind_of, correlation_of, Small, PlacesBy, Represents}
use Rattle.noise.specs.Condition.{condition_of, Masks}
use Rattle.choice.specs.Choice.{Totals, SumsOf}
use Rattle.choice.specs.Laws.Marks.{marked_places}
use Rattle.faults.specs.declared.Prepared.{Prepared}
use Rattle.faults.specs.Elements.{Inside, Kept, ElementHeld, DistributionHeld}
use Rattle.faults.specs.Line.{kind_by, FaultOf, FaultHeld}
use Rattle.faults.specs.Prepared.{ElementLines, Gathered, NoiseLines, noise_in, FaultRead, PreparedAs}
use Rattle.faults.specs.Laws.Elements.{kept_held, kept_qubits}
use Rattle.faults.specs.Laws.Gather.{weighed_all}
use Rattle.faults.specs.Laws.Line.{NoiseView, noise_view, probability_held}

-- a noise line that was read
unfoldable pub noise_lines : {job : List ℕ} {h : Header} {r k at : ℕ} {next : LineRead} {words : List ℕ} → NoiseRead job h r k at next words
    → (noiseless : List ℕ) (w : ℕ) → h.outcomes * w ≤ length noiseless → NoiseLines job (next.end + 1) next.form words noiseless w
noise_lines {job} {h} {r} {k} {at} {next} m noiseless w fits =
    record {
      header = h;
      recorded = r;
      noise = m.noise;
      values = m.values;
      said = m.said;
      elements = m.elements;
      count = m.count;
      few = m.few;
      sound = m.sound;
      rest = instructions_at job (k + 1) (next.end + 1);
      line = k + 1;
      among = m.among;
      rows = fits;
    }

-- ---- the kind, as the struct has it

kind_same : (k : Kind) (es : List WeightedPauli) (t : Float) → length es ≡ element_lines_of k → t ≡ total_from zero_float (weights_of es)
    → kind_by k t ≡ kind_of (distribution_of k es)
unfolding kind_by kind_of distribution_of element_lines_of
kind_same (Kind.single P) es t count e = refl
kind_same (Kind.depolarizing qs) es t count e = refl
kind_same (Kind.uniform n) es t count e = ap Uniform (sym (length-map es (λ (x : WeightedPauli). x.pauli) ∙ count))
kind_same (Kind.weighted n) es t count e = ap Weighted e

weighted_same : {a b : List WeightedPauli} → Distribution.weighted a ≡ Distribution.weighted b → a ≡ b
weighted_same e = cc

-- the marked sums give the places, since a sound line has a positive weight
sums_beside : (n : ℕ) (k : Kind) (es fs : List WeightedPauli) (t : Float) (sums : List Float) → DistributionSound n (distribution_of k es)
    → SumsOf (kind_by k t) (weights_of es) sums → distribution_of k es ≡ Distribution.weighted fs → PlacesBy (weights_of fs) sums
unfolding distribution_of kind_by DistributionSound
sums_beside n (Kind.single P) es fs t sums s h e = let z : ◌≡◌ {A = ℕ} 0 1 = cc in absurd (omega arith)
sums_beside n (Kind.depolarizing qs) es fs t sums s h e = let z : ◌≡◌ {A = ℕ} 0 1 = cc in absurd (omega arith)
sums_beside n (Kind.uniform m) es fs t sums s h e = let z : ◌≡◌ {A = ℕ} 0 1 = cc in absurd (omega arith)
sums_beside n (Kind.weighted m) es fs t sums s h e =
    subst (λ (l : List WeightedPauli). PlacesBy (weights_of l) sums) (weighted_same e)
    (rw (h.is t refl) (marked_places (weights_of es) (sound_positive n es s)))

-- the kind that carries a total has weights, and the total is the one that was given
weighted_kind : (k : Kind) (t u : Float) → kind_by k t ≡ Weighted u → has_weights_of k ≡ true
unfolding kind_by first_total has_total
weighted_kind (Kind.single P) t u e = let z : ◌≡◌ {A = ℕ} 0 1 = cc in absurd (omega arith)
weighted_kind (Kind.depolarizing qs) t u e = let z : ◌≡◌ {A = ℕ} 0 1 = cc in absurd (omega arith)
weighted_kind (Kind.uniform n) t u e = let z : ◌≡◌ {A = ℕ} 0 1 = cc in absurd (omega arith)
weighted_kind (Kind.weighted n) t u e = refl

weighted_total : (k : Kind) (t u : Float) → kind_by k t ≡ Weighted u → t ≡ u
unfolding kind_by
weighted_total (Kind.single P) t u e = let z : ◌≡◌ {A = ℕ} 0 1 = cc in absurd (omega arith)
weighted_total (Kind.depolarizing qs) t u e = let z : ◌≡◌ {A = ℕ} 0 1 = cc in absurd (omega arith)
weighted_total (Kind.uniform n) t u e = let z : ◌≡◌ {A = ℕ} 0 1 = cc in absurd (omega arith)
weighted_total (Kind.weighted n) t u e = cc

kind_small : (n : ℕ) (k : Kind) (es : List WeightedPauli) (t : Float) → DistributionSound n (distribution_of k es) → Small (kind_by k t)
unfolding DistributionSound distribution_of kind_by Small
kind_small n (Kind.single P) es t s = tt
kind_small n (Kind.depolarizing qs) es t s = omega (arith, s.few)
kind_small n (Kind.uniform m) es t s = tt
kind_small n (Kind.weighted m) es t s = tt

-- weights mean elements
some_elements : (n : ℕ) (k : Kind) (es : List WeightedPauli) → DistributionSound n (distribution_of k es) → has_weights_of k ≡ true → 0 < length es
unfolding DistributionSound distribution_of first_total has_total
some_elements n (Kind.single P) es s e = let z : ◌≡◌ {A = ℕ} 0 1 = cc in absurd (omega arith)
some_elements n (Kind.depolarizing qs) es s e = let z : ◌≡◌ {A = ℕ} 0 1 = cc in absurd (omega arith)
some_elements n (Kind.uniform m) es s e = let z : ◌≡◌ {A = ℕ} 0 1 = cc in absurd (omega arith)
some_elements n (Kind.weighted m) es s e = omega (arith, s.filled)

-- ---- the elements, as the words have them

abbrev no_element : WeightedPauli
no_element = record { weight = 0; pauli = no_pauli }

-- the elements that stand on lines of their own, and the element or the qubits that stand on the noise line
elements_held : {g : Form} {f : List ℕ} {vs : List Value} {n : NoiseLine} (qubits : ℕ) (es : List WeightedPauli) → NoiseView g vs n
    → Said g f vs (Written.noise n) → DistributionSound qubits (distribution_of n.kind es) → length es ≡ element_lines_of n.kind
    → (l₀ l : List ℕ) → Inside l₀ 0 → (length es ≡ 0 → Kept 0 2 f l₀ l)
    → ((e : ℕ) → e < length es → ElementHeld l e (get_or es e no_element).pauli) → DistributionHeld (distribution_of n.kind es) l
unfolding forms place_of bytes noise_by element_lines_of distribution_of DistributionHeld DistributionSound
elements_held {g} {f} {vs} {n} qubits es (NoiseView.single e) said sound count l₀ l fits own each =
    let t : Said form.Single f vs (Written.noise n) = rw e at said in
    kept_held t.held (own count) fits (omega arith) sound.x.few sound.z.few
elements_held {g} {f} {vs} {n} qubits es (NoiseView.depolarizing e) said sound count l₀ l fits own each =
    let t : Said form.Depolarizing f vs (Written.noise n) = rw e at said in
    kept_qubits t.held (own count) fits (omega arith) sound.few
elements_held qubits es (NoiseView.uniform e) said sound count l₀ l fits own each =
    λ i m.
    rw (get_or-map (λ (x : WeightedPauli). x.pauli) es i no_element) (each i (rw (length-map es (λ (x : WeightedPauli). x.pauli)) at m))
elements_held qubits es (NoiseView.weighted e) said sound count l₀ l fits own each = each

module _ {job : List ℕ} {at : ℕ} {g : Form} {f noiseless : List ℕ} {w : ℕ} (q : NoiseLines job at g f noiseless w) where
  pub few_lines : (n : ℕ) → n ≡ element_lines_of q.noise.kind → n ≤ 64
  few_lines n e = omega (arith, q.count, q.few)

  pub few_outcomes : length q.noise.condition.outcomes ≤ 31
  unfolding noise_of
  few_outcomes = q.sound.outcomes.few

  pub probability_sound : is_probability (float (held_number f 0)) ≡ true
  unfolding noise_of
  probability_sound = rw (probability_held q.said) q.sound.probability

  pub outcomes_in : (l : List ℕ) → l ≡ q.noise.condition.outcomes → RowsIn w l noiseless
  unfolding noise_of
  outcomes_in l e =
      record {
        fits = λ i h.
            let below : get_or l i 0 < q.recorded = below_at q.recorded l (rw e q.sound.outcomes.below) i h in
            omega (arith, before_row w (get_or l i 0) q.header.outcomes (omega (arith, q.among.recorded)), q.rows);
      }

  -- of a struct that holds the line
  pub condition_room : {t : Float} {r : PauliFault} → FaultOf q.noise t r
      → (r.condition.count ≤ 31) × RowsIn w (take r.condition.count r.condition.outcomes) noiseless
  condition_room fault = (omega (arith, fault.count, few_outcomes), outcomes_in _ fault.outcomes)

  unfoldable pub element_lines_lem : (n : ℕ) (b : Bool) → n ≡ element_lines_of q.noise.kind → b ≡ has_weights_of q.noise.kind → ElementLines job at n b
  element_lines_lem n b e h =
      record {
        header = q.header;
        recorded = q.recorded;
        elements = q.elements;
        rest = q.rest;
        line = q.line;
        count = q.count ∙ sym e;
        among = subst (λ (x : Bool). Among job q.header q.recorded x q.elements q.rest q.line at 0) (sym h) q.among;
      }

  -- the total that the struct carries is that of the weights
  pub totals : {t : Float} {r : PauliFault} → FaultHeld g f t r → (n : ℕ) → n ≡ element_lines_of q.noise.kind → (weights : List Float) → length weights ≡ n
      → t ≡ total_from zero_float weights → Totals r.distribution weights
  unfolding noise_of
  totals {t} {r} held n lines weights size total =
      let fault = held.is q.values q.noise q.said few_outcomes in
      record {
        is = λ u e.
            let same = sym fault.distribution ∙ e in
            let some = some_elements q.header.qubits q.noise.kind q.elements q.sound.distribution (weighted_kind q.noise.kind t u same) in
            (omega (arith, q.count), sym (weighted_total q.noise.kind t u same) ∙ total);
      }

  module _ {t : Float} {r : PauliFault} (h : FaultOf q.noise t r) where
    pub stands : (sums : List Float) → t ≡ total_from zero_float (weights_of q.elements)
        → SumsOf r.distribution (weights_of q.elements) sums → Represents (noise_in q) r.probability r.distribution sums
    unfolding noise_of
    stands sums total running =
        record {
          probability = h.probability;
          chooses =
              record {
                kind = h.distribution ∙ kind_same q.noise.kind q.elements t q.count total;
                beside = λ es e. sums_beside q.header.qubits q.noise.kind q.elements es t sums q.sound.distribution (rw h.distribution at running) e;
              };
        }

    pub small : Small r.distribution
    unfolding noise_of
    small = rw h.distribution (kind_small q.header.qubits q.noise.kind q.elements t q.sound.distribution)

    pub correlation_same : correlation_of r.correlation ≡ (noise_in q).correlation
    unfolding noise_of
    correlation_same = h.correlation

    pub condition_same : (mask : List ℕ)
        → Masks w mask (condition_of (take r.condition.count r.condition.outcomes) r.condition.parity) (bit_in w noiseless)
        → Masks w mask (noise_in q).condition (bit_in w noiseless)
    unfolding noise_of
    condition_same mask m = subst (λ (c : OutcomeCondition). Masks w mask c (bit_in w noiseless)) (λ i. record { outcomes = h.outcomes i; parity = h.parity i }) m

  -- what the steps of the code come to
  pub fault_read : (n : ℕ) (b : Bool) (lines : n ≡ element_lines_of q.noise.kind) (weighted : b ≡ has_weights_of q.noise.kind) (elements₀ elements₁ elements : List ℕ)
      → Inside elements₀ 0 → Kept 0 2 f elements₀ elements₁ → (n ≡ 0 → elements ≡ elements₁) → (weights : List Float) → length weights ≡ n → (next : ℕ)
      → Gathered (element_lines_lem n b lines weighted) elements weights next n → (t : Float) → t ≡ total_from zero_float weights → (r : PauliFault) → FaultHeld g f t r
      → (sums : List Float) → SumsOf r.distribution weights sums → FaultRead q elements sums (record { fault = r; element_lines = n; behind = next })
  unfolding element_lines_lem
  fault_read n b lines weighted elements₀ elements₁ elements fits own none weights size next gathered t total r held sums running =
      let fault = held.is q.values q.noise q.said few_outcomes in
      let count : length q.elements ≡ n = q.count ∙ sym lines in
      let all = weighed_all gathered size in
      let done = among_done gathered.among (omega arith) in
      record {
        lines = sym count;
        ahead = done.0;
        instructions = done.1;
        total = t;
        fault = fault;
        stands = stands fault sums (total ∙ ap (total_from zero_float) all) (rw all at running);
        held = distribution n lines elements₀ elements₁ elements fits own none (λ e m. gathered.held e (omega (arith, count)));
      }
    where
      distribution : (n : ℕ) → n ≡ element_lines_of q.noise.kind → (l₀ l₁ l : List ℕ) → Inside l₀ 0 → Kept 0 2 f l₀ l₁ → (n ≡ 0 → l ≡ l₁)
          → ((e : ℕ) → e < length q.elements → ElementHeld l e (get_or q.elements e no_element).pauli) → DistributionHeld (noise_in q).distribution l
      distribution n e l₀ l₁ l fits own none each =
          unfold noise_of in
          elements_held q.header.qubits q.elements (noise_view g q.values q.noise q.said.says) q.said q.sound.distribution q.count l₀ l fits
          (λ z. subst (Kept 0 2 f l₀) (sym (none (e ∙ sym q.count ∙ z))) own) each

  pub prepared : {elements : List ℕ} {sums part : List Float} {r : Prepared} → FaultRead q elements part r → take r.element_lines sums ≡ part → (mask : List ℕ)
      → Masks w mask (condition_of (take r.fault.condition.count r.fault.condition.outcomes) r.fault.condition.parity) (bit_in w noiseless)
      → PreparedAs q elements sums mask r
  prepared read first mask masks =
      record {
        lines = read.lines;
        ahead = read.ahead;
        instructions = read.instructions;
        stands = rw first read.stands;
        small = small read.fault;
        correlation = correlation_same read.fault;
        held = read.held;
        satisfied = condition_same read.fault mask masks;
      }
