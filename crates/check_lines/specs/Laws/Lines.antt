-- The tests of the header and of each form but noise and elements, by the values of a line. Laws. Assumes nothing.
use Rattle.std.specs.Prelude.{ℕ, ◌≤◌, ◌<◌, ◌≡◌, Bool, ◌&&◌, List, [], ◌∷◌, eqb, ltb, leb, length}
use Rattle.std.proofs.Common.{arith, ap₂, ◌∙◌, eq-eqb, ne_eqb, length-drop, length-take-le}
use Rattle.std.proofs.Math.Path.{refl, sym, ap, subst}
use Rattle.std.proofs.Math.Bool.{true, false, not, beq, and-true}
use Rattle.std.proofs.Math.Option.{Option, none, some}
use Rattle.std.proofs.Math.ListN.{take}
use Rattle.std.proofs.Math.Seq.{take-take}
use Rattle.pauli.specs.Bits.{◌⊕◌, members, sum_over}
use Rattle.pauli.specs.Pauli.{anticommutes}
use Rattle.pauli.specs.Gate.{Gate, gate_of, operands_of}
use Rattle.pauli.specs.Code.{operand_count_of}
use Rattle.text.specs.Bytes.{bytes}
use Rattle.text.specs.Template.{Value, number_at, list_at_of}
use Rattle.job.specs.Clifford.{table_words_of, table_of, is_clifford_of}
use Rattle.job.specs.Line.{pauli_of}
use Rattle.job.specs.Grammar.{Written, pauli_at_of, forms}
use Rattle.job.specs.Fits.{PauliFits, LineFits, WrittenFits}
use Rattle.job.proofs.Laws.Table.{few_words}
use Rattle.text.specs.List.{is_rising_of}
use Rattle.text.proofs.Laws.Values.{both}
use Rattle.template.specs.Values.{Whole, AllKept, held_count, held_list, members_on, kept_members}
use Rattle.template.specs.Fields.{Held}
use Rattle.template.specs.Laws.Fields.{list_held}
use Rattle.job.specs.Checks.{test, all_below, each_below_of, each_short, distinct, is_permutation, id_test, line_tests, own_tests, lowest, known_edition}
use Rattle.reader.specs.declared.Form.TheVariants as form
use Rattle.reader.specs.Parsed.{place_of, Said}
use Rattle.tables.specs.Rows.{TableFor}
use Rattle.check_values.specs.declared.context.Context.{Context as Known}
use Rattle.instructions.specs.Laws.Meaning.{some_same, unitary_said, clifford_said}
use Rattle.instructions.specs.Laws.Read.{few_operands}
use Rattle.check_values.specs.Slots.{lists_from}
use Rattle.check_values.specs.Contexts.{context_of}
use Rattle.check_values.specs.Laws.Lowest.{Tested}
use Rattle.check_values.specs.Laws.Overlap.{anticommutes_listed}

-- the third of three tests first
third_first : (a b d : Bool) → (a && (b && (d && true))) ≡ (d && (a && (b && true)))
third_first true true true = refl
third_first true true false = refl
third_first true false true = refl
third_first true false false = refl
third_first false b true = refl
third_first false b false = refl

-- as many of the kept words as a table has
pub words_for : (k : ℕ) (f : List ℕ) → Whole f → k ≤ 8 → TableFor k (take (table_words_of k) (kept_members f 1))
words_for k f wide few =
    let n : table_words_of k ≤ 4 = few_words k few in
    let kept : length (kept_members f 1) ≡ 31 = length-take-le 31 (members_on f 1) (omega (arith, length-drop 43 f)) in
    record { few = few; long = length-take-le (table_words_of k) (kept_members f 1) (omega arith) }

-- the tests of a permutation, from the first to the last
module _ (k : ℕ) (s : List ℕ) where
  pub other_length : (length s ≡ k → ⊥) → is_permutation k s ≡ false
  unfolding is_permutation
  other_length h = rw (ne_eqb (length s) k h)

  module _ (e : length s ≡ k) where
    pub not_below : all_below k s ≡ false → is_permutation k s ≡ false
    unfolding is_permutation
    not_below h = rw (eq-eqb (length s) k e, h)

    pub by_distinct : all_below k s ≡ true → distinct s ≡ is_permutation k s
    unfolding is_permutation
    by_distinct h = rw (eq-eqb (length s) k e, h)

-- ---- commutation

-- control and target as they stand on a line, by how often their lists meet
module _ (n : ℕ) (vs : List Value) (C : PauliFits (pauli_at_of 0 1 vs)) (below : each_below_of n (lists_from 0 4 vs) ≡ true) where
  commutes_by : (sum_over (list_at_of 0 vs) (members (list_at_of 3 vs)) ⊕ sum_over (list_at_of 1 vs) (members (list_at_of 2 vs))) ≡ anticommutes n (pauli_of (pauli_at_of 0 1 vs)) (pauli_of (pauli_at_of 2 3 vs))
  unfolding lists_from each_below_of
  commutes_by =
      let first = both (all_below n (list_at_of 0 vs)) _ below in
      let second = both (all_below n (list_at_of 1 vs)) _ first.1 in
      anticommutes_listed n (pauli_at_of 0 1 vs) (pauli_at_of 2 3 vs) C.x.rising first.0 C.z.rising second.0

  -- they commute where the two sums are the same
  pub commute_test : (one other : Bool) → one ≡ sum_over (list_at_of 0 vs) (members (list_at_of 3 vs)) → other ≡ sum_over (list_at_of 1 vs) (members (list_at_of 2 vs))
      → not (anticommutes n (pauli_of (pauli_at_of 0 1 vs)) (pauli_of (pauli_at_of 2 3 vs))) ≡ beq one other
  unfolding ◌⊕◌
  commute_test one other p q = ap not (sym commutes_by ∙ sym (ap₂ ◌⊕◌ p q)) ∙ even one other
    where
      even : (s t : Bool) → not (s ⊕ t) ≡ beq s t
      even true true = refl
      even true false = refl
      even false true = refl
      even false false = refl

-- what two of a line's lists that rise have in common, by slices of them
pub met : {f : List ℕ} {numbers : ℕ} {vs : List Value} {l m : List ℕ} {r : Bool} → Held f numbers 4 vs → Whole f → ((i : ℕ) → 0 ≤ i → i < 4 → AllKept f i)
    → (i j : ℕ) → i < 4 → j < 4 → l ≡ held_list f i → m ≡ held_list f j → is_rising_of (list_at_of i vs) ≡ true → is_rising_of (list_at_of j vs) ≡ true
    → (is_rising_of l ≡ true → is_rising_of m ≡ true → r ≡ sum_over l (members m)) → r ≡ sum_over (list_at_of i vs) (members (list_at_of j vs))
met {l = l} {m = m} {r = r} held whole kept i j below below' p q rises rises' counted =
    let first = p ∙ list_held held whole i below (kept i (omega arith) below) in
    let second = q ∙ list_held held whole j below' (kept j (omega arith) below') in
    rw (first, second) at counted rises rises'

-- ---- how many operands a gate takes

pub few_counted : {r : ℕ} (o : Option Gate) → r ≡ operand_count_of o → r ≤ 2
unfolding operand_count_of
few_counted none e = omega (arith, e)
few_counted (some g) e = omega (arith, e, few_operands g)

-- ---- the tests of a line of each form

module _ (c : Known) {f : List ℕ} {vs : List Value} {w : Written} where
  pub tests_unitary : Said form.Unitary f vs w
      → (g : Gate) × (gate_of (number_at 0 vs) ≡ some g)
      × Tested c f 1 1 vs w
      (test 4 (each_below_of c.header.qubits (lists_from 0 1 vs))
      ∷ test 5 ((eqb (length (list_at_of 0 vs)) (operands_of g) && distinct (list_at_of 0 vs)) && each_short (lists_from 0 1 vs))
      ∷ [])
  unfolding forms place_of bytes own_tests line_tests context_of lists_from
  tests_unitary h =
      let (g, e, k) = unitary_said (gate_of (number_at 0 vs)) (list_at_of 0 vs) w h.says in
      (g, e, record { held = h.held; own = ap (λ (x : Written). lowest (own_tests (context_of c) x)) k })

  pub tests_clifford : Said form.Clifford f vs w
      → Tested c f 0 2 vs w
      (test 4 (each_below_of c.header.qubits (lists_from 0 1 vs))
      ∷ test 5 ((leb (length (list_at_of 0 vs)) 8 && distinct (list_at_of 0 vs)) && each_short (lists_from 0 1 vs))
      ∷ test 7 (is_clifford_of (length (list_at_of 0 vs)) (table_of (list_at_of 1 vs)))
      ∷ [])
  unfolding forms place_of bytes own_tests line_tests context_of lists_from
  tests_clifford h =
      let said = clifford_said (list_at_of 0 vs) (list_at_of 1 vs) w h.says in
      record { held = h.held; own = ap (λ (x : Written). lowest (own_tests (context_of c) x)) said.1 }

  -- the words of its table are kept
  pub words_kept : Said form.Clifford f vs w → Whole f → length (list_at_of 0 vs) ≤ 8 → take (table_words_of (length (list_at_of 0 vs))) (kept_members f 1) ≡ list_at_of 1 vs
  unfolding forms place_of bytes
  words_kept h wide few =
      let said = (clifford_said (list_at_of 0 vs) (list_at_of 1 vs) w h.says).0 few in
      let count : held_count f 1 ≡ table_words_of (length (list_at_of 0 vs)) = h.held.count 1 (omega arith) ∙ said in
      let short = few_words (length (list_at_of 0 vs)) few in
      take-take (table_words_of (length (list_at_of 0 vs))) 31 (members_on f 1) (omega arith)
      ∙ ap (λ (n : ℕ). take n (members_on f 1)) (sym count)
      ∙ list_held h.held wide 1 (omega arith) (omega arith)

  pub tests_permute : Said form.Permute f vs w
      → Tested c f 0 2 vs w
      (test 4 (each_below_of c.header.qubits (lists_from 1 1 vs))
      ∷ test 5 (distinct (list_at_of 1 vs) && each_short (lists_from 0 2 vs))
      ∷ test 6 (is_permutation (length (list_at_of 1 vs)) (list_at_of 0 vs))
      ∷ [])
  unfolding forms place_of bytes own_tests line_tests context_of lists_from
  tests_permute h = record { held = h.held; own = ap (λ (x : Written). lowest (own_tests (context_of c) x)) (some_same h.says) }

  pub tests_measure : Said form.Measure f vs w
      → Tested c f 1 2 vs w
      (test 4 (each_below_of c.header.qubits (lists_from 0 2 vs))
      ∷ test 5 (each_short (lists_from 0 2 vs))
      ∷ id_test (context_of c) (number_at 0 vs)
      ∷ [])
  unfolding forms place_of bytes own_tests line_tests context_of lists_from
  tests_measure h = record { held = h.held; own = ap (λ (x : Written). lowest (own_tests (context_of c) x)) (some_same h.says) }

  pub tests_conditional : Said form.Conditional f vs w
      → Tested c f 1 3 vs w
      (test 4 (each_below_of c.header.qubits (lists_from 0 2 vs)) ∷ test 5 (each_short (lists_from 0 3 vs)) ∷ test 9 (all_below c.recorded (list_at_of 2 vs)) ∷ [])
  unfolding forms place_of bytes own_tests line_tests context_of lists_from each_short
  tests_conditional h =
      record {
        held = h.held;
        own =
            ap
            (λ (b : Bool). lowest (test 4 (each_below_of c.header.qubits (lists_from 0 2 vs)) ∷ test 5 b ∷ test 9 (all_below c.recorded (list_at_of 2 vs)) ∷ []))
            (third_first (leb (length (list_at_of 0 vs)) 31) (leb (length (list_at_of 1 vs)) 31) (leb (length (list_at_of 2 vs)) 31))
            ∙ ap (λ (x : Written). lowest (own_tests (context_of c) x)) (some_same h.says);
      }

  -- operands of no fixed number
  pub tests_reset : Said form.Reset f vs w
      → Tested c f 0 1 vs w (test 4 (each_below_of c.header.qubits (lists_from 0 1 vs)) ∷ test 5 (distinct (list_at_of 0 vs) && each_short (lists_from 0 1 vs)) ∷ [])
  unfolding forms place_of bytes own_tests line_tests context_of lists_from
  tests_reset h = record { held = h.held; own = ap (λ (x : Written). lowest (own_tests (context_of c) x)) (some_same h.says) }

  pub tests_barrier : Said form.Barrier f vs w
      → Tested c f 0 1 vs w (test 4 (each_below_of c.header.qubits (lists_from 0 1 vs)) ∷ test 5 (distinct (list_at_of 0 vs) && each_short (lists_from 0 1 vs)) ∷ [])
  unfolding forms place_of bytes own_tests line_tests context_of lists_from
  tests_barrier h = record { held = h.held; own = ap (λ (x : Written). lowest (own_tests (context_of c) x)) (some_same h.says) }

  pub tests_inject : Said form.Inject f vs w
      → Tested c f 1 2 vs w
      (test 4 (each_below_of c.header.qubits (lists_from 0 2 vs))
      ∷ test 5 (each_short (lists_from 0 2 vs))
      ∷ test 10 (ltb (number_at 0 vs) c.header.shots)
      ∷ [])
  unfolding forms place_of bytes own_tests line_tests context_of lists_from
  tests_inject h = record { held = h.held; own = ap (λ (x : Written). lowest (own_tests (context_of c) x)) (some_same h.says) }

  pub tests_flip : Said form.Flip f vs w
      → Tested c f 2 0 vs w (test 9 (ltb (number_at 1 vs) c.recorded) ∷ test 10 (ltb (number_at 0 vs) c.header.shots) ∷ [])
  unfolding forms place_of bytes own_tests line_tests context_of all_below
  tests_flip h =
      record {
        held = h.held;
        own =
            ap (λ (b : Bool). lowest (test 9 b ∷ test 10 (ltb (number_at 0 vs) c.header.shots) ∷ [])) (sym (and-true (ltb (number_at 1 vs) c.recorded)))
            ∙ ap (λ (x : Written). lowest (own_tests (context_of c) x)) (some_same h.says);
      }

  -- lines with a Pauli alone
  pub tests_pauli : Said form.Pauli f vs w
      → Tested c f 0 2 vs w (test 4 (each_below_of c.header.qubits (lists_from 0 2 vs)) ∷ test 5 (each_short (lists_from 0 2 vs)) ∷ [])
  unfolding forms place_of bytes own_tests line_tests context_of lists_from
  tests_pauli h = record { held = h.held; own = ap (λ (x : Written). lowest (own_tests (context_of c) x)) (some_same h.says) }

  pub tests_exponential : Said form.Exponential f vs w
      → Tested c f 0 2 vs w (test 4 (each_below_of c.header.qubits (lists_from 0 2 vs)) ∷ test 5 (each_short (lists_from 0 2 vs)) ∷ [])
  unfolding forms place_of bytes own_tests line_tests context_of lists_from
  tests_exponential h = record { held = h.held; own = ap (λ (x : Written). lowest (own_tests (context_of c) x)) (some_same h.says) }

  pub tests_controlled : Said form.Controlled f vs w
      → Tested c f 0 4 vs w
      (test 4 (each_below_of c.header.qubits (lists_from 0 4 vs))
      ∷ test 5 (each_short (lists_from 0 4 vs))
      ∷ test 20 (not (anticommutes c.header.qubits (pauli_of (pauli_at_of 0 1 vs)) (pauli_of (pauli_at_of 2 3 vs))))
      ∷ [])
  unfolding forms place_of bytes own_tests line_tests context_of lists_from
  tests_controlled h = record { held = h.held; own = ap (λ (x : Written). lowest (own_tests (context_of c) x)) (some_same h.says) }

  -- control and target are good for the letters of the form
  pub controlled_fits : Said form.Controlled f vs w → PauliFits (pauli_at_of 0 1 vs) × PauliFits (pauli_at_of 2 3 vs)
  unfolding forms place_of bytes WrittenFits LineFits
  controlled_fits h = subst WrittenFits (sym (some_same h.says)) h.fits

  pub tests_allocate : Said form.Allocate f vs w → Tested c f 2 0 vs w (id_test (context_of c) (number_at 0 vs) ∷ [])
  unfolding forms place_of bytes own_tests line_tests context_of
  tests_allocate h = record { held = h.held; own = ap (λ (x : Written). lowest (own_tests (context_of c) x)) (some_same h.says) }

  -- without the field the edition is 1
  pub tests_header : Said form.Header f vs w → 0 ≡ lowest (own_tests (context_of c) w)
  unfolding lowest forms place_of bytes own_tests
  tests_header h = ap (λ (x : Written). lowest (own_tests (context_of c) x)) (some_same h.says)

  pub tests_edition : Said form.EditionHeader f vs w
      → Tested c f 4 0 vs w (test 23 (known_edition (number_at 0 vs)) ∷ [])
  unfolding forms place_of bytes own_tests
  tests_edition h = record { held = h.held; own = ap (λ (x : Written). lowest (own_tests (context_of c) x)) (some_same h.says) }
