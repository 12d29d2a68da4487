-- The element lines of a noise line. Laws. Assumes nothing.
use Prim.Native.Nat.{ℕ, suc, ◌+◌, ◌-◌, ◌≤◌, ◌<◌}
use native.Mathlib.Omega.{arith}
use Rattle.std.specs.Prelude.{◌≡◌, Bool, cond, ◌&&◌, Float}
use Rattle.std.proofs.Math.Path.{refl, sym, ap, subst}
use Rattle.std.proofs.Common.{◌∙◌, true≢false, length-drop, drop-drop}
use Rattle.std.proofs.Math.Bool.{true, false}
use mathlib.Core.List.{List, ◌∷◌}
use Rattle.std.proofs.Math.Option.{Option, none, some}
use borrow.Author.Tests.{ltb-true, ltb-false}
use Rattle.std.proofs.Math.Dec.{ltb}
use Rattle.std.proofs.Math.ListN.{length, drop, drop_of_length-le}
use Rattle.text.specs.Bytes.{bytes, pieces, lines}
use Rattle.text.specs.Template.{Value}
use Rattle.template.specs.Fields.{Held}
use Rattle.job.specs.declared.Header.{Header}
use Rattle.job.specs.Line.{SparsePauli, WeightedPauli, Placed}
use Rattle.job.specs.Grammar.{Written, pauli_at_of, forms, read_line_of}
use Rattle.job.specs.Checks.{same_weight, next_total, next as nextContext}
use Rattle.job.specs.Job.{is_last, weight_of, Gathered, gather, gathered}
use Rattle.job.specs.Sound.{Every, PauliSound, WeightSound}
use Rattle.job.specs.Contexts.{Accepted}
use Rattle.job.proofs.Laws.Accepted.{accepted_first}
use Rattle.job.proofs.Laws.Gather.{WeightsSound, PartSound, gathered_sound}
use Rattle.job.proofs.Laws.Instructions.{accepted_between, due_says}
use Rattle.reader.specs.declared.Form.{Form}
use Rattle.reader.specs.Parsed.{place_of, Said}
use Rattle.instructions.specs.declared.LineRead.{LineRead}
use Rattle.instructions.specs.Reading.{line_at, NextLine, element_form, has_total}
use Rattle.instructions.specs.Lines.{KnownAt}
use Rattle.instructions.specs.Ahead.{instructions_at, Ahead, Among, element_by_of, ElementRead}
use Rattle.instructions.specs.Laws.Meaning.{some_same, Meaning, meaning, read_says}

-- ---- what an element line says by its values

record ElementSays (weighted : Bool) (f : Form) (fields : List ℕ) (vs : List Value) (e : WeightedPauli) : Type 0 where
  form : f ≡ element_form weighted
  held : Held fields (cond weighted 1 0) 2 vs
  is : e ≡ element_by_of weighted vs

pauli_same : {v w : Option ℕ} {P Q : SparsePauli} → Written.element v P ≡ Written.element w Q → (v ≡ w) × (P ≡ Q)
pauli_same e = (cc, cc)

element_says : (t : Option Float) (v : Option ℕ) (P : SparsePauli) (f : Form) (fields : List ℕ) (vs : List Value) → same_weight v t ≡ true
    → Said f fields vs (Written.element v P) → Meaning f (Written.element v P)
    → ElementSays (has_total t) f fields vs (record { weight = weight_of v; pauli = P })
unfolding forms place_of bytes has_total same_weight weight_of
element_says none v P f fields vs same said (Meaning.element Q e) =
    let s = subst (λ (g : Form). Said g fields vs (Written.element none P)) e said in
    record { form = e; held = s.held; is = ap (λ (R : SparsePauli). record { weight = 0; pauli = R }) (sym (pauli_same (some_same s.says)).1) }
element_says (some t) v P f fields vs same said (Meaning.element Q e) = absurd (true≢false (sym same))
element_says none v P f fields vs same said (Meaning.weighted_element w Q e) = absurd (true≢false (sym same))
element_says (some t) v P f fields vs same said (Meaning.weighted_element w Q e) =
    let s = subst (λ (g : Form). Said g fields vs (Written.element (some w) P)) e said in
    let parts = pauli_same (some_same s.says) in
    record { form = e; held = s.held; is = λ i. record { weight = sym (some_same parts.0) i; pauli = sym parts.1 i } }

-- the sum goes on as it began
same_total : (t : Option Float) (v : Option ℕ) → has_total (next_total t v) ≡ has_total t
unfolding has_total next_total
same_total none v = refl
same_total (some t) none = refl
same_total (some t) (some v) = refl

first_weight : (t : Option Float) (e : WeightedPauli) (es : List WeightedPauli) → WeightsSound t (e ∷ es) → has_total t ≡ true → WeightSound e
unfolding WeightsSound has_total
first_weight none e es s h = absurd (true≢false (sym h))
first_weight (some t) e es s h = s.0.0

-- ---- among the element lines

module _ {job : List ℕ} {h : Header} {r : ℕ} {weighted : Bool} {elements : List WeightedPauli} {is : List Placed} {k at i : ℕ}
    (m : Among job h r weighted elements is k at i) where
  sound : PartSound m.context (record { elements = drop i elements; instructions = is })
  sound = subst (PartSound m.context) m.left (gathered_sound (k + i) m.context (lines (drop at job)) m.accepted)

  due : length elements - i ≡ m.context.due
  due = sym (length-drop i elements) ∙ sound.count

  -- where elements are left, so are lines
  pub among_inside : i < length elements → at < length job
  unfolding pieces
  among_inside more = go (ltb at (length job)) refl
    where
      go : (b : Bool) → ltb at (length job) ≡ b → at < length job
      go true e = ltb-true at (length job) e
      go false e =
          let nothing = drop_of_length-le job (ltb-false at (length job) e) in
          let ends = ap (λ (l : List ℕ). is_last (lines l) && ltb 0 m.context.due) (sym nothing) ∙ m.accepted.ends in
          absurd (omega (arith, due, ltb-false 0 m.context.due ends))

  -- and the next is one of an accepted job
  pub among_known : i < length elements → KnownAt job at
  among_known more =
      record {
        ended = m.ended;
        inside = among_inside more;
        number = k + i;
        passes = record { context = m.context; passes = m.accepted.passes };
      }

  -- behind the last element line stands an instruction, or the job ends
  pub among_done : length elements ≤ i → Ahead job h r (k + i) at × (instructions_at job (k + i) at ≡ is)
  unfolding instructions_at
  among_done all =
      let a = accepted_between (k + i) m.context (lines (drop at job)) m.accepted (omega (arith, due)) in (
        record {
          within = m.within;
          number = m.number;
          ended = m.ended;
          header = m.header;
          recorded = m.recorded;
          accepted = rw (← m.same_header, ← m.same_recorded) a;
        },
        ap (λ (g : Gathered). g.instructions) m.left,
      )

  module _ {next : LineRead} {fields : List ℕ} (more : i < length elements) (n : NextLine job at next fields) where
    abbrev text : List ℕ
    text = line_at job at next.end

    abbrev behind : List (List ℕ)
    behind = lines (drop (next.end + 1) job)

    -- the line says an element, and others are behind it
    with_element : (v : Option ℕ) (P : SparsePauli) → read_line_of text ≡ some (Written.element v P) → same_weight v m.context.total ≡ true
        → Accepted (suc (k + i)) (nextContext m.context (Written.element v P)) behind → ElementRead job h r weighted elements is k i next fields
    unfolding gathered gather nextContext
    with_element v P reads same rest =
        let (vs, said) = read_says n.parsed reads in
        let s = element_says m.context.total v P next.form fields vs same said (meaning next.form vs (Written.element v P) said.says) in
        let w = m.same_weighted in
        let g = gathered (suc (k + i)) behind in
        let first : gather (k + i) text (some (Written.element v P)) g ≡ record { elements = drop i elements; instructions = is } =
        sym (ap (λ (o : Option Written). gather (k + i) text o g) reads) ∙ sym (ap (gathered (k + i)) n.place.cut) ∙ m.left in
        let here : drop i elements ≡ element_by_of weighted vs ∷ g.elements =
        sym (ap (λ (x : Gathered). x.elements) first) ∙ ap (λ (e : WeightedPauli). e ∷ g.elements) (s.is ∙ ap (λ (b : Bool). element_by_of b vs) w) in
        let others : drop (i + 1) elements ≡ g.elements = sym (drop-drop 1 i elements) ∙ ap (drop 1) here in
        let count : k + (i + 1) ≡ suc (k + i) = omega arith in
        record {
          values = vs;
          form = s.form ∙ ap element_form w;
          held = subst (λ (b : Bool). Held fields (cond b 1 0) 2 vs) w s.held;
          element = here ∙ ap (λ (es : List WeightedPauli). element_by_of weighted vs ∷ es) (sym others);
          pauli = subst (λ (x : Header). PauliSound x.qubits (pauli_at_of 0 1 vs)) m.same_header (subst (Every (λ (e : WeightedPauli). PauliSound m.context.header.qubits e.pauli)) here sound.paulis).0;
          weight =
              λ b.
              subst (λ (x : Bool). WeightSound (element_by_of x vs)) b
              (first_weight m.context.total (element_by_of weighted vs) g.elements (subst (WeightsSound m.context.total) here sound.weights) (w ∙ b));
          among =
              record {
                within = omega (arith, n.place.inside);
                number = omega (arith, m.number, n.place.begins);
                ended = m.ended;
                header = m.header;
                recorded = m.recorded;
                context = nextContext m.context (Written.element v P);
                same_header = m.same_header;
                same_recorded = m.same_recorded;
                same_weighted = same_total m.context.total v ∙ w;
                accepted = rw count rest;
                left = ap (λ (j : ℕ). gathered j behind) count ∙ (λ j. record { elements = sym others j; instructions = ap (λ (x : Gathered). x.instructions) first j });
              };
        }

    pub element_read : ElementRead job h r weighted elements is k i next fields
    element_read =
        let f = accepted_first (subst (Accepted (k + i) m.context) n.place.cut m.accepted) in
        let (v, P, e, same) = due_says m.context behind f.says f.passing (omega (arith, due)) in
        with_element v P (f.reads ∙ ap some e) same (subst (λ (w : Written). Accepted (suc (k + i)) (nextContext m.context w) behind) e f.rest)
