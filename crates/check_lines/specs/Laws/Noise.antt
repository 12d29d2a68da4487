-- The tests of a noise line and of an element line, by their values. Laws. Assumes nothing.
use Rattle.std.specs.Prelude.{ℕ, ◌-◌, ◌^◌, ◌≡◌, refl, Bool, true, false, not, ◌&&◌, ◌||◌, List, [], ◌∷◌, eqb, length}
use Rattle.std.proofs.Common.{sym, ◌∙◌, eq-eqb}
use Rattle.std.proofs.Math.Path.{ap}
use Rattle.std.proofs.Math.Option.{none, some}
use Rattle.std.specs.Float.{binary64}
use Rattle.std.specs.Float.Ieee.{add}
use Rattle.text.specs.Bytes.{bytes}
use Rattle.text.specs.Template.{Value, number_at, list_at_of}
use Rattle.job.specs.Float.{float, is_probability, is_weight_of, is_total}
use Rattle.job.specs.Grammar.{Written, forms}
use Rattle.job.specs.Checks.{test, each_below_of, each_short, distinct, outcome_test, kind_qubits, kind_distinct, elements_fit, kind_size, noise_tests, own_tests, weight_fits, total_fits, next_total, lowest}
use Rattle.reader.specs.declared.Form.TheVariants as form
use Rattle.reader.specs.Parsed.{place_of, Said}
use Rattle.check_values.specs.declared.context.Context.{Context as Known}
use Rattle.instructions.specs.Laws.Meaning.{some_same, noise_by, noise_said}
use Rattle.check_values.specs.Slots.{lists_from}
use Rattle.check_values.specs.Contexts.{total_if, context_of}
use Rattle.check_values.specs.Laws.Lowest.{Tested}
use Rattle.check_lines.specs.Listed.{listed_tests}

-- at the last element line the total is tested
pub last_total : (d : ℕ) {b t : Bool} → d ≡ 1 → b ≡ t → (not (eqb d 1) || b) ≡ t
last_total d e h = rw (eq-eqb d 1 e) h

no_total : (b : Bool) → (b || true) ≡ true
no_total true = refl
no_total false = refl

module _ (c : Known) {f : List ℕ} {vs : List Value} {w : Written} where
  pub tests_single : Said form.Single f vs w
      → Tested c f 3 4 vs w
      (test 4 (each_below_of c.header.qubits (lists_from 2 2 vs))
      ∷ test 5 (each_short (lists_from 1 3 vs))
      ∷ outcome_test (context_of c) (list_at_of 1 vs)
      ∷ test 11 (is_probability (float (number_at 0 vs)))
      ∷ test 21 (eqb (number_at 2 vs) 1)
      ∷ [])
  unfolding lowest forms place_of bytes own_tests noise_tests noise_by kind_qubits kind_distinct elements_fit kind_size context_of lists_from
  tests_single h = record { held = h.held; own = ap (λ (x : Written). lowest (own_tests (context_of c) x)) (noise_said _ _ vs w h.says) }

  pub tests_depolarizing : Said form.Depolarizing f vs w
      → Tested c f 3 3 vs w
      (test 4 (each_below_of c.header.qubits (lists_from 2 1 vs))
      ∷ test 5 (distinct (list_at_of 2 vs) && each_short (lists_from 1 2 vs))
      ∷ outcome_test (context_of c) (list_at_of 1 vs)
      ∷ test 11 (is_probability (float (number_at 0 vs)))
      ∷ test 21 (eqb (number_at 2 vs) (4 ^ length (list_at_of 2 vs) - 1))
      ∷ [])
  unfolding lowest forms place_of bytes own_tests noise_tests noise_by kind_qubits kind_distinct elements_fit kind_size context_of lists_from
  tests_depolarizing h = record { held = h.held; own = ap (λ (x : Written). lowest (own_tests (context_of c) x)) (noise_said _ _ vs w h.says) }

  -- d=3 and d=4
  pub tests_uniform : Said form.Uniform f vs w → Tested c f 4 2 vs w (listed_tests (context_of c) vs)
  unfolding lowest forms place_of bytes own_tests noise_tests noise_by kind_qubits kind_distinct elements_fit kind_size context_of lists_from listed_tests each_below_of
  tests_uniform h = record { held = h.held; own = ap (λ (x : Written). lowest (own_tests (context_of c) x)) (noise_said _ _ vs w h.says) }

  pub tests_weighted : Said form.Weighted f vs w → Tested c f 4 2 vs w (listed_tests (context_of c) vs)
  unfolding lowest forms place_of bytes own_tests noise_tests noise_by kind_qubits kind_distinct elements_fit kind_size context_of lists_from listed_tests each_below_of
  tests_weighted h = record { held = h.held; own = ap (λ (x : Written). lowest (own_tests (context_of c) x)) (noise_said _ _ vs w h.says) }

  pub tests_weighted_element : Said form.WeightedElement f vs w → c.weighted ≡ true
      → Tested c f 1 2 vs w
      (test 4 (each_below_of c.header.qubits (lists_from 0 2 vs))
      ∷ test 5 (each_short (lists_from 0 2 vs))
      ∷ test 12 (is_weight_of (float (number_at 0 vs)) && (not (eqb c.due 1) || is_total (add binary64 c.total (float (number_at 0 vs)))))
      ∷ [])
  unfolding forms place_of bytes own_tests context_of lists_from weight_fits total_fits next_total total_if
  tests_weighted_element h e =
      record {
        held = h.held;
        own =
            ap
            (λ (b : Bool).
            lowest
            (test 4 (each_below_of c.header.qubits (lists_from 0 2 vs))
            ∷ test 5 (each_short (lists_from 0 2 vs))
            ∷ test 12
            (is_weight_of (float (number_at 0 vs)) && (not (eqb c.due 1) || total_fits (next_total (total_if b c.total) (some (number_at 0 vs)))))
            ∷ []))
            (sym e)
            ∙ ap (λ (x : Written). lowest (own_tests (context_of c) x)) (some_same h.says);
      }

  pub tests_element : Said form.Element f vs w → c.weighted ≡ false
      → Tested c f 0 2 vs w (test 4 (each_below_of c.header.qubits (lists_from 0 2 vs)) ∷ test 5 (each_short (lists_from 0 2 vs)) ∷ [])
  unfolding lowest forms place_of bytes own_tests context_of lists_from weight_fits total_fits next_total total_if
  tests_element h e =
      record {
        held = h.held;
        own =
            ap
            (λ (b : Bool).
            lowest (test 4 (each_below_of c.header.qubits (lists_from 0 2 vs)) ∷ test 5 (each_short (lists_from 0 2 vs)) ∷ test 12 b ∷ []))
            (sym (no_total (not (eqb c.due 1))))
            ∙ ap
            (λ (b : Bool).
            lowest
            (test 4 (each_below_of c.header.qubits (lists_from 0 2 vs))
            ∷ test 5 (each_short (lists_from 0 2 vs))
            ∷ test 12 (not (eqb c.due 1) || total_fits (next_total (total_if b c.total) none))
            ∷ []))
            (sym e)
            ∙ ap (λ (x : Written). lowest (own_tests (context_of c) x)) (some_same h.says);
      }
