-- The element lines that are due, and the sum of their weights, line by line. Laws. Assumes nothing.
use Rattle.std.specs.Prelude.{ℕ, ◌-◌, ◌≡◌, Bool, ◌&&◌, List, Float, eqb}
use Rattle.std.proofs.Common.{arith, ◌∙◌, true≢false}
use Rattle.std.proofs.Math.Path.{refl, sym, ap, subst}
use Rattle.std.proofs.Math.Bool.{true, false, not}
use Rattle.std.proofs.Math.Option.{Option, none, some}
use Rattle.std.proofs.lemmas.Bool.{not-false}
use Rattle.std.specs.Float.Ieee.{binary64, add}
use Rattle.std.proofs.Math.Dec.{ltb}
use Rattle.template.specs.Values.{held_number}
use Rattle.text.specs.Bytes.{bytes}
use Rattle.text.specs.Template.{Value, number_at}
use Rattle.job.specs.Float.{float, zero_float, is_weight_of}
use Rattle.job.specs.Grammar.{Written, forms}
use Rattle.job.specs.Checks.{Context, element_lines_of, first_total, next_total, same_weight, in_edition_of, expected, next, weight_fits, own_tests, tests, refusal_of}
use Rattle.text.proofs.Laws.Values.{both}
use Rattle.job.proofs.Laws.Tests.{AllPass, refusal_passes}
use Rattle.reader.specs.declared.Form.{Form}
use Rattle.reader.specs.declared.Form.TheVariants as form
use Rattle.reader.specs.Parsed.{place_of, no_form, form_of, is_unread, Said}
use Rattle.check_values.specs.declared.context.Context.{Context as Known}
use Rattle.check_values.specs.Contexts.{total_if, context_of}
use Rattle.instructions.specs.Laws.Meaning.{Meaning, some_same, noise_by, noise_said}

-- ---- forms for which the code has no arm of their own

no_sum : {s t : Float} → none ≡ some t → s ≡ t
no_sum e = let z : ◌≡◌ {A = ℕ} 0 1 = cc in absurd (omega arith)

other_form : form.Weighted ≡ form.Element → ⊥
other_form e = let z : ◌≡◌ {A = ℕ} 0 1 = cc in omega arith

module _ (c : Context) (f : Form) where
  pub expected_other : (f ≡ form.Element → ⊥) → (f ≡ form.WeightedElement → ⊥) → (w : Written) → Meaning f w → eqb c.due 0 ≡ expected c w
  unfolding expected
  expected_other a b w (Meaning.header h e) = refl
  expected_other a b w (Meaning.edition_header h e) = refl
  expected_other a b w (Meaning.plain l e m) = refl
  expected_other a b w (Meaning.measure l e) = refl
  expected_other a b w (Meaning.allocate l e) = refl
  expected_other a b w (Meaning.alone n e k m) = refl
  expected_other a b w (Meaning.uniform n e k) = refl
  expected_other a b w (Meaning.weighted n e k) = refl
  expected_other a b w (Meaning.element P e) = absurd (a e)
  expected_other a b w (Meaning.weighted_element v P e) = absurd (b e)

  pub none_due : (f ≡ form.Uniform → ⊥) → (f ≡ form.Weighted → ⊥) → (f ≡ form.Element → ⊥) → (f ≡ form.WeightedElement → ⊥)
      → (w : Written) → Meaning f w → 0 ≡ (next c w).due
  unfolding next
  none_due a b d g w (Meaning.header h e) = refl
  none_due a b d g w (Meaning.edition_header h e) = refl
  none_due a b d g w (Meaning.plain l e m) = refl
  none_due a b d g w (Meaning.measure l e) = refl
  none_due a b d g w (Meaning.allocate l e) = refl
  none_due a b d g w (Meaning.alone n e k m) = sym e
  none_due a b d g w (Meaning.uniform n e k) = absurd (a e)
  none_due a b d g w (Meaning.weighted n e k) = absurd (b e)
  none_due a b d g w (Meaning.element P e) = absurd (d e)
  none_due a b d g w (Meaning.weighted_element v P e) = absurd (g e)

  -- no sum after the line
  pub no_total_after : (f ≡ form.Weighted → ⊥) → (f ≡ form.WeightedElement → ⊥) → (w : Written) → Meaning f w → expected c w ≡ true → (next c w).total ≡ none
  unfolding next expected
  no_total_after a b w (Meaning.header h e) x = refl
  no_total_after a b w (Meaning.edition_header h e) x = refl
  no_total_after a b w (Meaning.plain l e m) x = refl
  no_total_after a b w (Meaning.measure l e) x = refl
  no_total_after a b w (Meaning.allocate l e) x = refl
  no_total_after a b w (Meaning.alone n e k m) x = k
  no_total_after a b w (Meaning.uniform n e k) x = k
  no_total_after a b w (Meaning.weighted n e k) x = absurd (a e)
  no_total_after a b w (Meaning.element P e) x = go (ltb 0 c.due) c.total x
    where
      go : (a : Bool) (t : Option Float) → (a && same_weight none t) ≡ true → next_total t none ≡ none
      go a none k = unfold next_total in refl
      go true (some t) k = unfold same_weight in absurd (true≢false (sym k))
      go false (some t) k = absurd (true≢false (sym k))
  no_total_after a b w (Meaning.weighted_element v P e) x = absurd (b e)

  -- a sum that begins
  pub total_begins : (f ≡ form.WeightedElement → ⊥) → (w : Written) → Meaning f w → expected c w ≡ true → (t : Float) → (next c w).total ≡ some t → zero_float ≡ t
  unfolding next
  total_begins b w (Meaning.weighted n e k) x t q = some_same (sym k ∙ q)
  total_begins b w (Meaning.header h e) x t q = no_sum q
  total_begins b w (Meaning.edition_header h e) x t q = no_sum q
  total_begins b w (Meaning.plain l e m) x t q = no_sum q
  total_begins b w (Meaning.measure l e) x t q = no_sum q
  total_begins b w (Meaning.allocate l e) x t q = no_sum q
  total_begins b w (Meaning.alone n e k m) x t q = no_sum (sym k ∙ q)
  total_begins b w (Meaning.uniform n e k) x t q = no_sum (sym k ∙ q)
  total_begins b w (Meaning.element P e) x t q =
      no_sum
      (sym (no_total_after (λ (k : f ≡ form.Weighted). other_form (sym k ∙ e)) b (Written.element none P) (Meaning.element P e) x) ∙ q)
  total_begins b w (Meaning.weighted_element v P e) x t q = absurd (b e)

-- ---- forms with an arm of their own

module _ (c : Known) {f : List ℕ} {vs : List Value} {w : Written} where
  pub expected_element : Said form.Element f vs w → (ltb 0 c.due && not c.weighted) ≡ expected (context_of c) w
  unfolding forms place_of bytes expected context_of
  expected_element h =
      ap (λ (b : Bool). ltb 0 c.due && b) (go c.weighted) ∙ ap (λ (x : Written). expected (context_of c) x) (some_same h.says)
    where
      go : (b : Bool) → not b ≡ same_weight none (total_if b c.total)
      go true = unfold same_weight total_if in refl
      go false = unfold same_weight total_if in refl

  pub expected_weighted : Said form.WeightedElement f vs w → (ltb 0 c.due && c.weighted) ≡ expected (context_of c) w
  unfolding forms place_of bytes expected context_of
  expected_weighted h =
      ap (λ (b : Bool). ltb 0 c.due && b) (go c.weighted) ∙ ap (λ (x : Written). expected (context_of c) x) (some_same h.says)
    where
      go : (b : Bool) → b ≡ same_weight (some (number_at 0 vs)) (total_if b c.total)
      go true = unfold same_weight total_if in refl
      go false = unfold same_weight total_if in refl

  -- an element line is due with or without a weight, as it has one or none
  pub no_weights : Said form.Element f vs w → expected (context_of c) w ≡ true → c.weighted ≡ false
  no_weights h e = go (ltb 0 c.due) c.weighted (expected_element h ∙ e)
    where
      go : (a b : Bool) → (a && not b) ≡ true → b ≡ false
      go true true k = absurd (true≢false (sym k))
      go true false k = refl
      go false b k = absurd (true≢false (sym k))

  pub with_weights : Said form.WeightedElement f vs w → expected (context_of c) w ≡ true → c.weighted ≡ true
  with_weights h e = go (ltb 0 c.due) c.weighted (expected_weighted h ∙ e)
    where
      go : (a b : Bool) → (a && b) ≡ true → b ≡ true
      go true b k = k
      go false b k = absurd (true≢false (sym k))

  -- the element lines that are due after the line
  pub due_uniform : Said form.Uniform f vs w → held_number f 2 ≡ (next (context_of c) w).due
  unfolding forms place_of bytes next element_lines_of noise_by
  due_uniform h = h.held.number 2 (omega arith) ∙ ap (λ (x : Written). (next (context_of c) x).due) (noise_said _ _ vs w h.says)

  pub due_weighted : Said form.Weighted f vs w → held_number f 2 ≡ (next (context_of c) w).due
  unfolding forms place_of bytes next element_lines_of noise_by
  due_weighted h = h.held.number 2 (omega arith) ∙ ap (λ (x : Written). (next (context_of c) x).due) (noise_said _ _ vs w h.says)

  pub due_element : Said form.Element f vs w → c.due - 1 ≡ (next (context_of c) w).due
  unfolding forms place_of bytes next context_of
  due_element h = ap (λ (x : Written). (next (context_of c) x).due) (some_same h.says)

  pub due_weighted_element : Said form.WeightedElement f vs w → c.due - 1 ≡ (next (context_of c) w).due
  unfolding forms place_of bytes next context_of
  due_weighted_element h = ap (λ (x : Written). (next (context_of c) x).due) (some_same h.says)

-- the sum after a noise line with weights, and after an element line with one
module _ (c : Context) (vs : List Value) (w : Written) where
  pub total_first : (form_of form.Weighted).says vs ≡ some w → (next c w).total ≡ some zero_float
  unfolding forms place_of bytes next first_total noise_by
  total_first e = sym (ap (λ (x : Written). (next c x).total) (noise_said _ _ vs w e))

  pub total_more : (form_of form.WeightedElement).says vs ≡ some w → expected c w ≡ true
      → (t : Float) × (c.total ≡ some t) × ((next c w).total ≡ some (add binary64 t (float (number_at 0 vs))))
  unfolding forms place_of bytes next expected next_total
  total_more e x =
      go (ltb 0 c.due) c.total refl (ap (λ (y : Written). expected c y) (some_same e) ∙ x) (sym (ap (λ (y : Written). (next c y).total) (some_same e)))
    where
      go : (a : Bool) (o : Option Float) → c.total ≡ o → (a && same_weight (some (number_at 0 vs)) o) ≡ true
          → (next c w).total ≡ next_total c.total (some (number_at 0 vs))
          → (t : Float) × (c.total ≡ some t) × ((next c w).total ≡ some (add binary64 t (float (number_at 0 vs))))
      go true none p k q = unfold same_weight in absurd (true≢false (sym k))
      go false none p k q = absurd (true≢false (sym k))
      go a (some t) p k q = (t, p, q ∙ unfold next_total in rw p)

module _ (c : Known) {f : List ℕ} {vs : List Value} {w : Written} (h : Said form.WeightedElement f vs w) where
  pub weight_held : held_number f 0 ≡ number_at 0 vs
  unfolding forms place_of bytes
  weight_held = h.held.number 0 (omega arith)

  pub total_next : expected (context_of c) w ≡ true → (t : Float) → (next (context_of c) w).total ≡ some t → add binary64 c.total (float (number_at 0 vs)) ≡ t
  unfolding context_of
  total_next x t q =
      let (s, p, r) = total_more (context_of c) vs w h.says x in
      let known : c.total ≡ s = of_sum c.weighted p in
      rw known (some_same (sym r ∙ q))
    where
      of_sum : (b : Bool) {s : Float} → total_if b c.total ≡ some s → c.total ≡ s
      of_sum true k = unfold total_if in some_same k
      of_sum false k = unfold total_if in no_sum k

  pub weight_passed : (last : Bool) → refusal_of (context_of c) last (some w) ≡ 0 → is_weight_of (float (number_at 0 vs)) ≡ true
  unfolding forms place_of bytes own_tests weight_fits
  weight_passed last e =
      let passed = subst (λ (x : Written). AllPass (tests (context_of c) last x)) (sym (some_same h.says)) (refusal_passes (context_of c) last w e) in
      (both (is_weight_of (float (number_at 0 vs))) _ (not-false _ passed.1.1.1.1.0)).0

-- ---- a line that passed

module _ (c : Context) (last : Bool) (w : Written) (e : refusal_of c last (some w) ≡ 0) where
  pub passed_expected : expected c w ≡ true
  passed_expected = (both (expected c w) _ (both _ (in_edition_of c w) (not-false _ (refusal_passes c last w e).0)).0).0

-- an unread line's form
pub unread_form : (f : Form) → is_unread f ≡ true → f ≡ form.Unread
unread_form form.Unread e = refl
unread_form form.Header e = absurd (true≢false (sym e))
unread_form form.Unitary e = absurd (true≢false (sym e))
unread_form form.Clifford e = absurd (true≢false (sym e))
unread_form form.Pauli e = absurd (true≢false (sym e))
unread_form form.Exponential e = absurd (true≢false (sym e))
unread_form form.Controlled e = absurd (true≢false (sym e))
unread_form form.Permute e = absurd (true≢false (sym e))
unread_form form.Measure e = absurd (true≢false (sym e))
unread_form form.Allocate e = absurd (true≢false (sym e))
unread_form form.Conditional e = absurd (true≢false (sym e))
unread_form form.Reset e = absurd (true≢false (sym e))
unread_form form.Inject e = absurd (true≢false (sym e))
unread_form form.Flip e = absurd (true≢false (sym e))
unread_form form.Single e = absurd (true≢false (sym e))
unread_form form.Depolarizing e = absurd (true≢false (sym e))
unread_form form.Uniform e = absurd (true≢false (sym e))
unread_form form.Weighted e = absurd (true≢false (sym e))
unread_form form.Element e = absurd (true≢false (sym e))
unread_form form.WeightedElement e = absurd (true≢false (sym e))
unread_form form.EditionHeader e = absurd (true≢false (sym e))
unread_form form.Barrier e = absurd (true≢false (sym e))

-- nothing is said of an unread line
pub unread_said : {f : List ℕ} {vs : List Value} {w : Written} → Said form.Unread f vs w → ⊥
unfolding forms place_of no_form
unread_said h = let e = h.says in let z : ◌≡◌ {A = ℕ} 0 1 = cc in omega arith
