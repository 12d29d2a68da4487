-- Laws: the lines of gates. Assumes nothing.
use Rattle.std.specs.Prelude.{◌≡◌, Bool, ℕ, ◌+◌, ◌-◌, ◌%◌, ◌≤◌, ◌<◌, length, take, set}
use Rattle.std.proofs.Math.Path.{refl, ap}
use Rattle.std.proofs.Math.Bool.{true, false, cond}
use mathlib.Core.List.{List, [], ◌∷◌}
use native.Mathlib.Omega.{arith}
use borrow.Author.Tests.{eq-eqb, ne_eqb, eqb-false, lt-ltb, le-ltb}
use Rattle.std.proofs.Math.Dec.{eqb}
use Rattle.text.specs.Bytes.{LF, bytes}
use Rattle.text.specs.Number.{decimal}
use Rattle.text.specs.List.{list_text}
use Rattle.text.specs.Template.{value_text, first_text, line_text}
use Rattle.job.specs.declared.Header.{Header}
use Rattle.writer.specs.Laws.Placing.{puts_nothing, puts_more}
use Rattle.made.specs.Choice.{given, ◌>>=◌, pick}
use Rattle.made.specs.Making.{gate_codes_of, gate_qubits_of, unitary}
use Rattle.made_fields.specs.declared.choices.Number.{Number}
use Rattle.made_fields.specs.declared.choices.Numbers.{Numbers}
use Rattle.made_fields.specs.Chosen.{NumberIs, ListIs}
use Rattle.made_fields.specs.declared.Making.{Making}
use Rattle.made_fields.specs.Lines.{FieldIs, PartIs, MadeIs}
use Rattle.made_fields.specs.Laws.Fields.{list_put, number_put, line_moved}

-- ---- gate codes

module _ (h : Header) where
  pub codes_one : h.qubits ≡ 1 → 11 ≡ gate_codes_of h 0
  unfolding gate_codes_of
  codes_one e = rw (eq-eqb h.qubits 1 e) refl

  pub codes_second : (h.qubits ≡ 1 → ⊥) → h.edition ≡ 2 → 16 ≡ gate_codes_of h 0
  unfolding gate_codes_of
  codes_second n e = rw (ne_eqb h.qubits 1 n, eq-eqb h.edition 2 e) refl

  pub codes_first : (h.qubits ≡ 1 → ⊥) → (h.edition ≡ 2 → ⊥) → 15 ≡ gate_codes_of h 0
  unfolding gate_codes_of
  codes_first n e = rw (ne_eqb h.qubits 1 n, ne_eqb h.edition 2 e) refl

  pub some_codes : 11 ≤ gate_codes_of h 0
  unfolding gate_codes_of
  some_codes = go (eqb h.qubits 1) (eqb h.edition 2)
    where
      go : (a b : Bool) → 11 ≤ cond a 11 (cond b 16 15)
      go true b = omega arith
      go false true = omega arith
      go false false = omega arith

  -- one of two qubits has another qubit
  pub two_qubits : {g : ℕ} → 0 < h.qubits → g < gate_codes_of h 0 → 11 ≤ g → 1 < h.qubits
  unfolding gate_codes_of
  two_qubits {g} some below two = go (eqb h.qubits 1) refl below
    where
      go : (b : Bool) → eqb h.qubits 1 ≡ b → g < cond b 11 (cond (eqb h.edition 2) 16 15) → 1 < h.qubits
      go true e l = absurd (omega (arith, l, two))
      go false e l = omega (arith, some, eqb-false h.qubits 1 e)

  -- ---- the qubits of a gate

  module _ (g a state : ℕ) where
    pub gate_one : (list : List ℕ) → g < 11 → 0 < length list → ListIs 2 (gate_qubits_of h 0 g a state) (set list 0 a) (record { count = 1; state = state })
    unfolding gate_qubits_of given
    gate_one [] l room = absurd (omega (arith, room))
    gate_one (b ∷ list) l room = rw (lt-ltb g 11 l) (record { list_is = refl; state = refl; short = omega arith })

    pub gate_two : (list : List ℕ) {d : Number} → 11 ≤ g → 1 < length list → NumberIs (pick (h.qubits - 1) state) d
        → ListIs 2 (gate_qubits_of h 0 g a state) (set (set list 0 a) 1 ((a + 1 + d.value) % h.qubits)) (record { count = 2; state = d.state })
    unfolding gate_qubits_of ◌>>=◌ given
    gate_two [] l room n = absurd (omega (arith, room))
    gate_two (b ∷ []) l room n = absurd (omega (arith, room))
    gate_two (b ∷ c ∷ list) l room n =
        rw (le-ltb g 11 l)
        (record { list_is = ap (λ (v : ℕ). a ∷ (a + 1 + v) % h.qubits ∷ []) n.value; state = n.state; short = omega arith })

  pub unitary_made : {m mid r : Making} {out o1 before after list : List ℕ} {codes next end : ℕ} {g a : Number} {q : Numbers} → codes ≡ gate_codes_of h 0
      → NumberIs (pick codes m.state) g → NumberIs (pick h.qubits g.state) a → ListIs 2 (gate_qubits_of h 0 g.value a.value a.state) list q
      → FieldIs 40 m.at (bytes "op=u g=") (decimal g.value) out o1 next
      → FieldIs 200 next (bytes " q=") (list_text (take q.count list)) o1 before end
      → mid ≡ record { at = end; recorded = m.recorded; state = q.state } → PartIs 1 (LF ∷ []) mid.state mid r before after
      → MadeIs (unitary h m.recorded m.state) m r out after
  unfolding bytes line_text first_text value_text gate_codes_of gate_qubits_of unitary ◌>>=◌ given
  unitary_made ec n k l fg fq em e =
      let code = rw ec at n in
      let first = rw code.state at k in
      let qubits = rw (code.value, first.value, first.state) at l in
      line_moved _ _ (puts_more (number_put code fg) (puts_more (list_put qubits fq) puts_nothing)) em qubits.state e
