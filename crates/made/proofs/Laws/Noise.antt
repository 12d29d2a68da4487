-- Made noise says a sound instruction, with its element lines. Laws. Assumes nothing.
use Rattle.std.specs.Prelude.{◌≡◌, Bool, cond, ◌&&◌, eqb, ltb, Float}
use Rattle.std.proofs.Math.Path.{refl, sym, ap}
use Rattle.std.proofs.Common.{◌∙◌, add-zero}
use Rattle.std.proofs.Math.Bool.{true, false}
use mathlib.Core.List.{List, [], ◌∷◌, ◌++◌, map}
use Rattle.std.proofs.Math.Option.{some}
use Prim.Native.Nat.{ℕ, zero, suc, ◌+◌, ◌-◌, ◌*◌, ◌^◌, ◌<◌, ◌≤◌}
use native.Mathlib.Omega.{arith}
use borrow.Author.Tests.{ltb-true, ltb-false, lt-ltb, ne_eqb}
use Rattle.std.specs.Float.Ieee.{of_bits, is_nan, lt, le, add}
use Rattle.std.proofs.Math.ListN.{length, get_or, length-append, length-map}
use Rattle.pauli.proofs.Laws.Code.{same_at}
use Rattle.text.specs.Bytes.{LF, unlines}
use Rattle.text.specs.Template.{Value, numbers_in, lists_in, line_text}
use Rattle.text.specs.Written.{Free, AllFree}
use Rattle.job.specs.declared.Header.{Header}
use Rattle.job.specs.Line.{SparsePauli, WeightedPauli, size_of, Instruction}
use Rattle.job.specs.Float.{float, zero_float, total_from, is_probability, is_weight_of, is_total}
use Rattle.job.specs.Grammar.{Kind, NoiseLine, Written, optional, noise_line, read_line_of}
use Rattle.job.specs.Checks.{all_below, element_lines_of}
use Rattle.job.specs.Job.{distribution_of, noise_of, recorded_by}
use Rattle.job.specs.Marks.{form_by_mark}
use Rattle.job.specs.Sound.{Every, PauliSound, SmallOption, ElementSound, weights_of, DistributionSound, NoiseSound, InstructionSound, has_weights_of, said_weight, ElementsSaid, SaidAs, HeaderSound}
use Rattle.job.proofs.Laws.Lists.{every_at}
use Rattle.made.specs.Making
use Rattle.made.specs.Kinds.{LineKind, noise_kind_of, kind_of, OfKind}
use Rattle.made.proofs.Laws.Choice.{Always, always_given, always_then, always_pick, Few, few_sound, always_few, FewPauli, few_pauli, always_pauli, stretch_operands, always_stretch}
use Rattle.made.proofs.Laws.Values.{Brief, brief_N, brief_B, brief_H, brief_L, brief_Q, brief_C, AllBrief}
use Rattle.made.proofs.Laws.Makes.{Makes, marks, qubits_few, template_by, is_marked_of, line_known}

-- ---- the start of a noise line

record ProbabilityFits (p : ℕ) : Type 0 where
  small : p < 2 ^ 64
  probability : is_probability (float p) ≡ true

probabilities_fit : Every ProbabilityFits Making.probabilities
unfolding Making.probabilities is_probability of_bits is_nan lt
probabilities_fit = (
  record { small = omega arith; probability = refl },
  (
    record { small = omega arith; probability = refl },
    (
      record { small = omega arith; probability = refl },
      (
        record { small = omega arith; probability = refl },
        (
          record { small = omega arith; probability = refl },
          (record { small = omega arith; probability = refl }, tt),
        ),
      ),
    ),
  ),
)

record CorrelationFits (l : List ℕ) : Type 0 where
  single : length l ≤ 1
  below : all_below 8 l ≡ true
  small : SmallOption (optional l)

correlation_fits : (c : ℕ) → c < 16 → CorrelationFits (Making.correlation c)
unfolding Making.correlation
correlation_fits c h = go (ltb c 8) refl
  where
    go : (b : Bool) → ltb c 8 ≡ b → CorrelationFits (cond b [] ((c - 8) ∷ []))
    go true e = unfold all_below SmallOption optional in record { single = omega arith; below = refl; small = tt }
    go false e = unfold all_below SmallOption optional in record { single = omega arith; below = ap (λ (b : Bool). b && true) (lt-ltb (c - 8) 8 (omega (arith, ltb-false c 8 e))); small = omega arith }

-- where so many outcomes are recorded
record StartKnown (r : ℕ) (s : Making.NoiseStart) : Type 0 where
  probability : ProbabilityFits s.probability
  correlation : CorrelationFits s.correlation
  outcomes : Few r s.outcomes
  bit : s.parity < 2
  parity : length s.outcomes ≡ 0 → s.parity ≡ 0

record ParityKnown (ids : List ℕ) (b : ℕ) : Type 0 where
  bit : b < 2
  parity : length ids ≡ 0 → b ≡ 0

always_parity : (ids : List ℕ) → Always (ParityKnown ids) (Making.parity ids)
unfolding Making.parity
always_parity [] = always_given _ (record { bit = omega arith; parity = λ _. refl })
always_parity (id ∷ ids) = record { from = λ state. record { bit = (always_pick 2 (omega arith)).from state; parity = λ e. absurd (omega (arith, e)) } }

always_start : (h : Header) (r : ℕ) → Always (StartKnown r) (Making.noise_start h r)
unfolding Making.noise_start
always_start h r =
    always_then (always_pick 6 (omega arith)) (λ p lp.
    always_then (always_pick 16 (omega arith)) (λ c lc.
    always_then (always_few r) (λ ids f.
    always_then (always_parity ids) (λ b k.
    always_given _ (record {
      probability = every_at ProbabilityFits Making.probabilities 0 probabilities_fit p (unfold Making.probabilities in lp);
      correlation = correlation_fits c lc;
      outcomes = f;
      bit = k.bit;
      parity = k.parity;
    })))))

-- the noise line with this start
abbrev line_of : Making.NoiseStart → Kind → ℕ → NoiseLine
line_of s kind size =
    record {
      probability = s.probability;
      correlation = optional s.correlation;
      condition = record { outcomes = s.outcomes; parity = eqb s.parity 1 };
      kind = kind;
      size = size;
    }

-- the test of a parity without condition
fine_parity : (ids : List ℕ) (b : ℕ) → (length ids ≡ 0 → b ≡ 0) → (eqb (length ids) 0 && eqb b 1) ≡ false
fine_parity [] b f = ne_eqb b 1 (λ e. omega (arith, e, f refl))
fine_parity (id ∷ ids) b f = rw (ne_eqb (suc (length ids)) 0 (λ e. omega (arith, e)))

no_parity : (ids : List ℕ) (b : ℕ) → (length ids ≡ 0 → b ≡ 0) → length ids ≡ 0 → eqb b 1 ≡ false
no_parity ids b f e = ne_eqb b 1 (λ one. omega (arith, one, f e))

record StartBrief (s : Making.NoiseStart) : Type 0 where
  p : Brief 72 (Value.number s.probability)
  corr : Brief 67 (Value.list s.correlation)
  outcomes : Brief 76 (Value.list s.outcomes)
  parity : Brief 66 (Value.number s.parity)

-- a sound noise line of a start
module _ (h : Header) (range : HeaderSound h) (r : ℕ) (within : r ≤ h.outcomes) (s : Making.NoiseStart) (known : StartKnown r s) where
  says : (kind : Kind) (size : ℕ) (v : List Value)
      → noise_line kind size (Making.start_values s ++ v) ≡ some (Written.noise (line_of s kind size))
  unfolding noise_line numbers_in lists_in
  says kind size v = rw (fine_parity s.outcomes s.parity known.parity)

  noise_sound : (kind : Kind) (size : ℕ) (es : List WeightedPauli) → DistributionSound h.qubits (distribution_of kind es) → size ≡ size_of (distribution_of kind es)
      → NoiseSound h.qubits r (noise_of (line_of s kind size) es)
  unfolding noise_of
  noise_sound kind size es d e =
      record {
        probability = known.probability.probability;
        small = known.probability.small;
        correlation = known.correlation.small;
        outcomes = few_sound known.outcomes;
        parity = no_parity s.outcomes s.parity known.parity;
        distribution = d;
        size = e;
      }

  start_brief : StartBrief s
  start_brief =
      record {
        p = brief_H _ known.probability.small;
        corr = brief_C 8 (omega arith) _ known.correlation.single known.correlation.below;
        outcomes = brief_L r (omega (arith, range.few_outcomes)) _ known.outcomes;
        parity = brief_B _ known.bit;
      }

  -- a noise line by its form's mark, and its element lines
  noise_makes : (m : ℕ) (ds : List Value) (us : List (List ℕ)) (kind : Kind) (size : ℕ) (es : List WeightedPauli) → is_marked_of m ≡ true → AllBrief (template_by m) ds
      → (form_by_mark m).says ds ≡ some (Written.noise (line_of s kind size)) → length es ≡ element_lines_of kind → ElementsSaid (has_weights_of kind) us es
      → DistributionSound h.qubits (distribution_of kind es) → size ≡ size_of (distribution_of kind es) → ((ts : List (List ℕ)) → AllFree LF ts → AllFree LF (us ++ ts))
      → length (template_by m) + 41 * length ds ≤ 507 → length (unlines us) ≤ 540
      → Makes h r (OfKind (noise_kind_of (distribution_of kind es))) (record { texts = line_text (template_by m) ds ∷ us; recorded = r })
  unfolding kind_of InstructionSound unlines noise_of recorded_by
  noise_makes m ds us kind size es marked brief says count said d e free few few-more =
      let t = line_known m ds marked brief in
      record {
        instruction = Instruction.noise (noise_of (line_of s kind size) es);
        is = refl;
        said = λ ts is a.
            SaidAs.noise (line_text (template_by m) ds) us ts (line_of s kind size) es is (record { line = t.reads ∙ says; count = count; elements = said }) a;
        sound = noise_sound kind size es d e;
        recorded = sym (add-zero r);
        within = within;
        free = λ ts a. (t.free, free ts a);
        short = omega (arith, t.short, length-append (line_text (template_by m) ds) (LF ∷ unlines us));
      }

-- ---- elements

-- the weights from a place on
unfoldable weights_from : ℕ → ℕ → List Float
weights_from zero place = []
weights_from (suc k) place = float (get_or Making.weights place 0) ∷ weights_from k (suc place)

record WeightFits (w : ℕ) : Type 0 where
  small : w < 2 ^ 64
  weight : is_weight_of (float w) ≡ true

weights_fit : Every WeightFits Making.weights
unfolding Making.weights is_weight_of of_bits is_nan lt
weights_fit = (
  record { small = omega arith; weight = refl },
  (
    record { small = omega arith; weight = refl },
    (
      record { small = omega arith; weight = refl },
      (record { small = omega arith; weight = refl }, tt),
    ),
  ),
)

weight_fits : (place : ℕ) → place < 4 → WeightFits (get_or Making.weights place 0)
weight_fits place h = every_at WeightFits Making.weights 0 weights_fit place (unfold Making.weights in h)

-- the first is positive, so each total is
totals_fit : (k : ℕ) → 1 ≤ k → k < 5 → is_total (total_from zero_float (weights_from k 0)) ≡ true
unfolding weights_from Making.weights total_from is_total of_bits is_nan lt le add
totals_fit k h l = same_at (λ (j : ℕ). is_total (total_from zero_float (weights_from j 0))) (λ (j : ℕ). true) 1 4 refl k h (omega arith)

record ElementsKnown (n : ℕ) (weighted : Bool) (k place : ℕ) (us : List (List ℕ)) : Type 0 where
  elements : List WeightedPauli
  count : length elements ≡ k
  said : ElementsSaid weighted us elements
  each : Every (ElementSound n) elements
  weights : weights_of elements ≡ weights_from k place
  free : (ts : List (List ℕ)) → AllFree LF ts → AllFree LF (us ++ ts)
  short : length (unlines us) ≤ 135 * k

module _ (n : ℕ) (few : n ≤ 256) where
  brief_qubits : (l : List ℕ) → Few n l → Brief 76 (Value.list l)
  brief_qubits l f = brief_L n (omega arith) l f

  -- an element line
  record ElementKnown (weighted : Bool) (place : ℕ) (P : SparsePauli) (t : List ℕ) : Type 0 where
    reads : read_line_of t ≡ some (Written.element (said_weight weighted (get_or Making.weights place 0)) P)
    free : Free LF t
    short : length t ≤ 134

  element_known : (weighted : Bool) (place : ℕ) (P : SparsePauli) → place < 4 → FewPauli n P → ElementKnown weighted place P (Making.element_text weighted place P)
  unfolding Making.element_text said_weight marks
  element_known false place P h f =
      let t = line_known 120 (Making.pauli_values P) refl (brief_qubits _ f.x, (brief_qubits _ f.z, tt)) in
      record { reads = t.reads; free = t.free; short = omega (arith, t.short) }
  element_known true place P h f =
      let t =
      line_known 119 (Value.number (get_or Making.weights place 0) ∷ Making.pauli_values P) refl
      (brief_H _ (weight_fits place h).small, (brief_qubits _ f.x, (brief_qubits _ f.z, tt))) in
      record { reads = t.reads; free = t.free; short = omega (arith, t.short) }

  element_more : (weighted : Bool) (k place : ℕ) (P : SparsePauli) (us : List (List ℕ)) → place < 4 → FewPauli n P → ElementsKnown n weighted k (suc place) us
      → ElementsKnown n weighted (suc k) place (Making.element_text weighted place P ∷ us)
  unfolding ElementsSaid unlines weights_from
  element_more weighted k place P us h f a =
      let t = Making.element_text weighted place P in
      let e = element_known weighted place P h f in
      let w = weight_fits place h in
      record {
        elements = record { weight = get_or Making.weights place 0; pauli = P } ∷ a.elements;
        count = ap suc a.count;
        said = (e.reads, a.said);
        each = (record { pauli = few_pauli f; weight = w.weight; small = w.small }, a.each);
        weights = ap (λ (l : List Float). float (get_or Making.weights place 0) ∷ l) a.weights;
        free = λ ts all. (e.free, a.free ts all);
        short = omega (arith, e.short, a.short, length-append t (LF ∷ unlines us));
      }

  always_elements : (weighted : Bool) (k place : ℕ) → place + k ≤ 4 → Always (ElementsKnown n weighted k place) (Making.elements n weighted k place)
  unfolding Making.elements ElementsSaid unlines weights_from
  always_elements weighted zero place h =
      always_given [] (record { elements = []; count = refl; said = tt; each = tt; weights = refl; free = λ ts all. all; short = omega arith })
  always_elements weighted (suc k) place h =
      always_then (always_pauli n) (λ P f.
      always_then (always_elements weighted k (suc place) (omega arith)) (λ us a.
      always_given _ (element_more weighted k place P us (omega arith) f a)))

-- ---- the kinds of noise

every_pauli : (n : ℕ) (es : List WeightedPauli) → Every (ElementSound n) es → Every (PauliSound n) (map (λ (e : WeightedPauli). e.pauli) es)
every_pauli n [] a = tt
every_pauli n (e ∷ es) a = (a.0.pauli, every_pauli n es a.1)

-- 4^k - 1, for k up to 4
size_few : (k : ℕ) → k ≤ 4 → 4 ^ k - 1 < 10000
size_few k h = ltb-true _ _ (same_at (λ (j : ℕ). ltb (4 ^ j - 1) 10000) (λ (j : ℕ). true) 0 5 refl k (omega arith) (omega arith))

module _ (h : Header) (range : HeaderSound h) (r : ℕ) (within : r ≤ h.outcomes) where
  pub single_makes : Always (Makes h r (OfKind LineKind.single)) (Making.single h r)
  unfolding Making.single marks element_lines_of has_weights_of ElementsSaid DistributionSound distribution_of size_of noise_kind_of unlines
  single_makes =
      always_then (always_start h r) (λ s k.
      always_then (always_pauli h.qubits) (λ P f.
      let b = start_brief h range r within s k in
      always_given _ (noise_makes h range r within s k 49 _ [] (Kind.single P) 1 [] refl
      (b.p, (b.corr, (b.outcomes, (b.parity, (brief_L h.qubits (qubits_few range) _ f.x, (brief_L h.qubits (qubits_few range) _ f.z, (brief_N 1 (omega arith), tt)))))))
      (says h range r within s k (Kind.single P) 1 _) refl tt (few_pauli f) refl (λ ts all. all) (omega arith) (omega arith))))

  pub depolarizing_makes : Always (Makes h r (OfKind LineKind.depolarizing)) (Making.depolarizing h r)
  unfolding Making.depolarizing marks element_lines_of has_weights_of ElementsSaid DistributionSound distribution_of size_of noise_kind_of unlines
  depolarizing_makes =
      always_then (always_start h r) (λ s k.
      always_then (always_stretch h.qubits 4 (omega (arith, range.some_qubits)) (omega arith) (omega arith)) (λ qs q.
      let size = 4 ^ length qs - 1 in
      let b = start_brief h range r within s k in
      always_given _ (noise_makes h range r within s k 50 _ [] (Kind.depolarizing qs) size [] refl
      (b.p, (b.corr, (b.outcomes, (b.parity, (brief_Q h.qubits (qubits_few range) _ q.stretch, (brief_N size (size_few _ q.most), tt))))))
      (says h range r within s k (Kind.depolarizing qs) size _) refl tt (stretch_operands q.stretch) refl (λ ts all. all) (omega arith) (omega arith))))

  pub uniform_makes : Always (Makes h r (OfKind LineKind.uniform)) (Making.listed h r false "op=n p=H corr=C cond=L parity=B d=3 n=N size=N")
  unfolding Making.listed marks element_lines_of has_weights_of DistributionSound distribution_of size_of noise_kind_of
  uniform_makes =
      always_then (always_start h r) (λ s k.
      always_then (always_pick 4 (omega arith)) (λ n ln.
      always_then (always_elements h.qubits range.few_qubits false (suc n) 0 (omega arith)) (λ us a.
      let long : length (map (λ (e : WeightedPauli). e.pauli) a.elements) ≡ suc n = length-map a.elements (λ (e : WeightedPauli). e.pauli) ∙ a.count in
      let b = start_brief h range r within s k in
      always_given _ (noise_makes h range r within s k 51 _ us (Kind.uniform (suc n)) (suc n) a.elements refl
      (b.p, (b.corr, (b.outcomes, (b.parity, (brief_N (suc n) (omega arith), (brief_N (suc n) (omega arith), tt))))))
      (says h range r within s k (Kind.uniform (suc n)) (suc n) _) a.count a.said
      (record { filled = omega (arith, long); few = omega (arith, long); each = every_pauli h.qubits a.elements a.each }) (sym long) a.free (omega arith)
      (omega (arith, a.short))))))

  pub weighted_makes : Always (Makes h r (OfKind LineKind.weighted)) (Making.listed h r true "op=n p=H corr=C cond=L parity=B d=4 n=N size=N")
  unfolding Making.listed marks element_lines_of has_weights_of DistributionSound distribution_of size_of noise_kind_of
  weighted_makes =
      always_then (always_start h r) (λ s k.
      always_then (always_pick 4 (omega arith)) (λ n ln.
      always_then (always_elements h.qubits range.few_qubits true (suc n) 0 (omega arith)) (λ us a.
      let b = start_brief h range r within s k in
      always_given _ (noise_makes h range r within s k 52 _ us (Kind.weighted (suc n)) (suc n) a.elements refl
      (b.p, (b.corr, (b.outcomes, (b.parity, (brief_N (suc n) (omega arith), (brief_N (suc n) (omega arith), tt))))))
      (says h range r within s k (Kind.weighted (suc n)) (suc n) _) a.count a.said
      (record {
        filled = omega (arith, a.count);
        few = omega (arith, a.count);
        each = a.each;
        total = rw a.weights (totals_fit (suc n) (omega arith) (omega arith));
      }) (sym a.count) a.free (omega arith) (omega (arith, a.short))))))
