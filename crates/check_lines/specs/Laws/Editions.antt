-- Which forms the second edition adds, by the values of a line. Laws. Assumes nothing.
use Rattle.std.specs.Prelude.{ℕ, ◌≡◌, Bool, true, false, ◌||◌, List, eqb, ltb}
use Rattle.std.proofs.Common.{arith, sym, ◌∙◌, eq-eqb, ne_eqb}
use Rattle.std.proofs.Math.Path.{refl, ap}
use Rattle.std.proofs.Math.Bool.{not}
use Rattle.std.proofs.Math.Option.{Option, none, some}
use Rattle.pauli.specs.Gate.{Gate, gates, gate_from, gate_of}
use Rattle.pauli.proofs.Laws.Code.{same_at}
use Rattle.text.specs.Bytes.{bytes}
use Rattle.text.specs.Template.{Value, number_at, list_at_of}
use Rattle.template.specs.Values.{held_number, held_count}
use Rattle.text.proofs.Laws.Values.{none_some}
use Rattle.job.specs.Grammar.{Written, forms}
use Rattle.job.specs.Checks.{is_second_gate, is_second_line, is_second_of}
use Rattle.reader.specs.declared.Form.{Form}
use Rattle.reader.specs.declared.Form.TheVariants as form
use Rattle.reader.specs.Parsed.{place_of, no_form, form_of, Said}
use Rattle.instructions.specs.Laws.Meaning.{some_same, noise_said, unitary_said, clifford_said}
use Rattle.instructions.specs.Laws.Read.{gate_small}

-- a gate of the second edition, by its code
code_second : Option Gate → Bool
code_second none = false
code_second (some g) = is_second_gate g

gate_second : (code : ℕ) (g : Gate) → gate_of code ≡ some g → ltb 14 code ≡ is_second_gate g
unfolding code_second is_second_gate gate_of gate_from gates
gate_second code g e = same_at (λ k. ltb 14 k) (λ k. code_second (gate_of k)) 0 16 refl code (omega arith) (omega (arith, gate_small code e)) ∙ ap code_second e

module _ {f : List ℕ} {vs : List Value} {w : Written} where
  pub unitary_second : Said form.Unitary f vs w → ltb 14 (held_number f 0) ≡ is_second_of w
  unfolding forms place_of bytes is_second_of is_second_line
  unitary_second h =
      let (g, e, k) = unitary_said (gate_of (number_at 0 vs)) (list_at_of 0 vs) w h.says in
      ap (ltb 14) (h.held.number 0 (omega arith)) ∙ gate_second (number_at 0 vs) g e ∙ ap is_second_of k

  pub reset_second : Said form.Reset f vs w → not (eqb (held_count f 0) 1) ≡ is_second_of w
  unfolding forms place_of bytes is_second_of is_second_line
  reset_second h = ap (λ (n : ℕ). not (eqb n 1)) (h.held.count 0 (omega arith)) ∙ ap is_second_of (some_same h.says)

  pub barrier_second : Said form.Barrier f vs w → true ≡ is_second_of w
  unfolding forms place_of bytes is_second_of is_second_line
  barrier_second h = ap is_second_of (some_same h.says)

-- no other form
module _ {w : Written} where
  first : (v : Written) → v ≡ w → is_second_of v ≡ false → false ≡ is_second_of w
  first v e n = sym n ∙ ap is_second_of e

  pub others_first : (f : Form) (vs : List Value) → (form_of f).says vs ≡ some w → (f ≡ form.Unitary → ⊥) → (f ≡ form.Reset → ⊥) → (f ≡ form.Barrier → ⊥)
      → false ≡ is_second_of w
  unfolding forms place_of bytes no_form is_second_of is_second_line
  others_first form.Unread vs s a b d = absurd (none_some s)
  others_first form.Header vs s a b d = first _ (some_same s) refl
  others_first form.Unitary vs s a b d = absurd (a refl)
  others_first form.Clifford vs s a b d = first _ (clifford_said (list_at_of 0 vs) (list_at_of 1 vs) w s).1 refl
  others_first form.Pauli vs s a b d = first _ (some_same s) refl
  others_first form.Exponential vs s a b d = first _ (some_same s) refl
  others_first form.Controlled vs s a b d = first _ (some_same s) refl
  others_first form.Permute vs s a b d = first _ (some_same s) refl
  others_first form.Measure vs s a b d = first _ (some_same s) refl
  others_first form.Allocate vs s a b d = first _ (some_same s) refl
  others_first form.Conditional vs s a b d = first _ (some_same s) refl
  others_first form.Reset vs s a b d = absurd (b refl)
  others_first form.Inject vs s a b d = first _ (some_same s) refl
  others_first form.Flip vs s a b d = first _ (some_same s) refl
  others_first form.Single vs s a b d = first _ (noise_said _ _ vs w s) refl
  others_first form.Depolarizing vs s a b d = first _ (noise_said _ _ vs w s) refl
  others_first form.Uniform vs s a b d = first _ (noise_said _ _ vs w s) refl
  others_first form.Weighted vs s a b d = first _ (noise_said _ _ vs w s) refl
  others_first form.Element vs s a b d = first _ (some_same s) refl
  others_first form.WeightedElement vs s a b d = first _ (some_same s) refl
  others_first form.EditionHeader vs s a b d = first _ (some_same s) refl
  others_first form.Barrier vs s a b d = absurd (d refl)

-- by the edition
module _ {e : ℕ} (b : Bool) where
  pub second_edition : e ≡ 2 → true ≡ (not b || eqb e 2)
  second_edition h = rw (eq-eqb e 2 h) (go b)
    where
      go : (b : Bool) → true ≡ (not b || true)
      go true = refl
      go false = refl

  pub first_edition : (e ≡ 2 → ⊥) → not b ≡ (not b || eqb e 2)
  first_edition h = rw (ne_eqb e 2 h) (go b)
    where
      go : (b : Bool) → not b ≡ (not b || false)
      go true = refl
      go false = refl
