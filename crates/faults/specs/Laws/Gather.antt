-- Element lines, read and kept one after the other. Laws. Assumes nothing.
use Rattle.std.specs.Prelude.{ℕ, ◌+◌, ◌*◌, ◌≤◌, ◌<◌, ◌≡◌, refl, Bool, true, false, cond, List, [], ◌∷◌, ◌++◌, length, get_or, drop, set, Float}
use Rattle.std.proofs.Common.{add-zero, not-suc-le-zero, add-one, arith, sym, ap, ap₂, subst, ◌∙◌, take_all, take-suc, take-suc-set, get_or-drop}
use Rattle.std.proofs.Math.Decide.{ℕ_discrete}
use Rattle.text.specs.Template.{Value}
use Rattle.template.specs.Values.{held_number}
use Rattle.template.specs.Fields.{Held}
use Rattle.job.specs.Line.{WeightedPauli}
use Rattle.job.specs.Float.{float, zero_float, is_weight_of}
use Rattle.job.specs.Sound.{weights_of}
use Rattle.draws.specs.Draws.{no_pauli}
use Rattle.instructions.specs.declared.LineRead.{LineRead}
use Rattle.instructions.specs.Reading.{NextLine}
use Rattle.instructions.specs.Lines.{KnownAt}
use Rattle.instructions.specs.Ahead.{element_by_of, ElementRead}
use Rattle.instructions.specs.Laws.Elements.{among_known, element_read}
use Rattle.faults.specs.Elements.{Kept, ElementHeld}
use Rattle.faults.specs.Prepared.{ElementLines, Gathered}
use Rattle.faults.specs.Laws.Elements.{kept_held, held_others}

-- no element
abbrev no_element : WeightedPauli
no_element = record { weight = 0; pauli = no_pauli }

weights_append : (a b : List WeightedPauli) → weights_of (a ++ b) ≡ weights_of a ++ weights_of b
weights_append [] b = refl
weights_append (e ∷ a) b = ap (λ (l : List Float). float e.weight ∷ l) (weights_append a b)

-- the element whose line was read is the i-th
element_at : (es : List WeightedPauli) (i : ℕ) (x : WeightedPauli) (later : List WeightedPauli) → drop i es ≡ x ∷ later → get_or es i no_element ≡ x
element_at es i x later e =
    ap (λ (k : ℕ). get_or es k no_element) (sym (add-zero i)) ∙ sym (get_or-drop i es 0 no_element) ∙ ap (λ (l : List WeightedPauli). get_or l 0 no_element) e

-- the weight that its values give
weight_given : (weighted : Bool) {f : List ℕ} {vs : List Value} → Held f (cond weighted 1 0) 2 vs
    → cond weighted (float (held_number f 0)) zero_float ≡ float (element_by_of weighted vs).weight
weight_given true h = ap float (h.number 0 (omega arith))
weight_given false h = refl

module _ {job : List ℕ} {at n : ℕ} {weighted : Bool} (q : ElementLines job at n weighted) {elements : List ℕ} {weights : List Float} {place i : ℕ} where
  -- the next line is one of an accepted job
  pub gathered_known : Gathered q elements weights place i → i < n → KnownAt job place
  gathered_known g h = among_known g.among (omega (arith, q.count))

  module _ (g : Gathered q elements weights place i) (h : i < n) {next : LineRead} {f : List ℕ} (l : NextLine job place next f) where
    read : ElementRead job q.header q.recorded weighted q.elements q.rest q.line i next f
    read = element_read g.among (omega (arith, q.count)) l

    pub weight_sound : {bits : ℕ} → bits ≡ held_number f 0 → weighted ≡ true → is_weight_of (float bits) ≡ true
    weight_sound b e =
        let held : Held f 1 2 read.values = subst (λ (b : Bool). Held f (cond b 1 0) 2 read.values) e read.held in
        rw (b, held.number 0 (omega arith)) (read.weight e).weight

    pub gathered_more : n * 64 ≤ length elements → length weights ≡ n → {elements' : List ℕ} → Kept i 0 f elements elements' → {bits : ℕ} → bits ≡ held_number f 0 → (w : Float) → w ≡ cond weighted (float bits) zero_float
        → Gathered q elements' (set weights i w) (next.end + 1) (i + 1)
    gathered_more fits size {elements'} put b w e =
        let is : get_or q.elements i no_element ≡ element_by_of weighted read.values = element_at q.elements i _ _ read.element in
        let few = read.pauli in
        let new : ElementHeld elements' i (get_or q.elements i no_element).pauli =
        rw is (kept_held read.held put (omega arith) (omega arith) few.x.few few.z.few) in
        record {
          among = read.among;
          weighed =
              rw (add-one, take-suc-set weights i w (omega arith), take-suc q.elements i no_element (omega (arith, q.count)), weights_append)
              (ap₂ (λ (a : List Float) (b : Float). a ++ (b ∷ [])) g.weighed (e ∙ ap (λ (k : ℕ). cond weighted (float k) zero_float) b ∙ weight_given weighted read.held ∙ ap (λ (x : WeightedPauli). float x.weight) (sym is)));
          held = λ k m. either k m new (ℕ_discrete k i);
        }
      where
        either : (k : ℕ) → k < i + 1 → ElementHeld elements' i (get_or q.elements i no_element).pauli → Dec (k ≡ i)
            → ElementHeld elements' k (get_or q.elements k no_element).pauli
        either k m new (yes s) = rw s new
        either k m new (no ne) = held_others (g.held k (omega arith)) put ne (omega arith)

pub gathered_none : {job : List ℕ} {at n : ℕ} {weighted : Bool} (q : ElementLines job at n weighted) (elements : List ℕ) (weights : List Float)
    → Gathered q elements weights at 0
gathered_none q elements weights = record { among = q.among; weighed = refl; held = λ e m. absurd (not-suc-le-zero m) }

-- all of them
pub weighed_all : {job : List ℕ} {at n : ℕ} {weighted : Bool} {q : ElementLines job at n weighted} {elements : List ℕ} {weights : List Float} {next : ℕ}
    → Gathered q elements weights next n → length weights ≡ n → weights ≡ weights_of q.elements
weighed_all {n = n} {q = q} {weights = weights} g size =
    sym (take_all n weights (omega arith)) ∙ g.weighed ∙ ap weights_of (take_all n q.elements (omega (arith, q.count)))
