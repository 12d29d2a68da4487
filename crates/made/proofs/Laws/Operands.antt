-- Made lines with operands say sound instructions: m, b, u, z. Laws. Assumes nothing.
use Rattle.std.specs.Prelude.{◌≡◌, Bool, not, cond, ◌&&◌, ◌||◌, List, [], ◌∷◌, ℕ, ◌+◌, ◌-◌, ◌%◌, ◌<◌, ◌≤◌}
use Rattle.std.proofs.Math.Path.{refl, ap, sym}
use Rattle.std.proofs.Common.{subst, ◌∙◌, true≢false, arith, mod-lt, mod-eq_of_lt}
use Rattle.std.proofs.Math.Bool.{true, false}
use Rattle.std.proofs.Math.Option.{Option, none, some, some-injective}
use borrow.Author.Tests.{ltb-false, eqb-true, eqb-false, lt-ltb, ne_eqb}
use Rattle.std.proofs.Math.Dec.{eqb, ltb}
use Rattle.std.proofs.Math.ListN.{length}
use Rattle.pauli.specs.Bits.{outside, members}
use Rattle.pauli.specs.Gate.{Gate, gates, gate_from, gate_of, operands_of}
use Rattle.pauli.proofs.Laws.Code.{same_at}
use Rattle.text.specs.Bytes.{bytes}
use Rattle.text.specs.Template.{Value}
use Rattle.text.proofs.Laws.Values.{both}
use Rattle.stream.specs.Stream.{step}
use Rattle.job.specs.declared.Header.{Header}
use Rattle.job.specs.Line.{Line, Instruction}
use Rattle.job.specs.Grammar.{unitary_line}
use Rattle.job.specs.Checks.{all_below, distinct, is_second_gate, records}
use Rattle.job.specs.Job.{recorded_by}
use Rattle.job.specs.Sound.{LineSound, HeaderSound}
use Rattle.job.proofs.Laws.Passes.{and_both}
use Rattle.made.specs.Choice.{Choice, given, ◌>>=◌, pick, cyclic, stretch}
use Rattle.made.specs.Making
use Rattle.made.specs.Kinds.{LineKind, line_kind, kind_of, OfKind}
use Rattle.made.proofs.Laws.Choice.{Always, always_given, always_then, always_pick, Stretch, stretch_operands, always_stretch, cyclic_stretch, cyclic_permutation, mod_apart}
use Rattle.made.proofs.Laws.Values.{brief_N, brief_Q}
use Rattle.made.proofs.Laws.Makes.{Makes, marks, line_makes, some_qubits, brief_stretch, same_recorded}

-- ---- gates by their codes

-- a gate of one qubit below code 11, else of two; ControlledY has code 15
fine_gate : ℕ → Option Gate → Bool
fine_gate g none = false
fine_gate g (some gate) = eqb (operands_of gate) (cond (ltb g 11) 1 2) && (not (is_second_gate gate) || eqb g 15)

record GateKnown (g : ℕ) : Type 0 where
  gate : Gate
  is : gate_of g ≡ some gate
  count : operands_of gate ≡ cond (ltb g 11) 1 2
  second : gate ≡ Gate.ControlledY → g ≡ 15

gate_known : (g : ℕ) → g < 16 → GateKnown g
unfolding fine_gate gate_of gates gate_from operands_of is_second_gate
gate_known g h = go (gate_of g) refl (same_at (λ (k : ℕ). fine_gate k (gate_of k)) (λ (k : ℕ). true) 0 16 refl g (omega arith) (omega arith))
  where
    go : (o : Option Gate) → gate_of g ≡ o → fine_gate g o ≡ true → GateKnown g
    go none e f = absurd (true≢false (sym f))
    go (some gate) e f =
        let parts = both (eqb (operands_of gate) (cond (ltb g 11) 1 2)) _ f in
        record {
          gate = gate;
          is = e;
          count = eqb-true _ _ parts.0;
          second = λ second. eqb-true g 15 (subst (λ (k : Gate). (not (is_second_gate k) || eqb g 15) ≡ true) second parts.1);
        }

module _ (h : Header) (range : HeaderSound h) (r : ℕ) (within : r ≤ h.outcomes) where
  abbrev MakesAlways : LineKind → Choice Making.Made → Type 0
  MakesAlways kind = Always (Makes h r (OfKind kind))

  -- ---- operands

  pub permute_makes : MakesAlways LineKind.permute (Making.permute h r)
  unfolding Making.permute marks LineSound recorded_by records line_kind kind_of
  permute_makes =
      always_then (always_stretch h.qubits 8 (some_qubits range) (omega arith) (omega arith)) (λ qs s.
      let k = length qs in
      always_then (always_pick k s.stretch.filled) (λ t _.
      let places = cyclic_stretch k k t s.stretch.filled s.stretch.short (omega arith) in
      always_given _ (line_makes 109 _ (Line.permute (cyclic k k t) qs) refl refl
      (brief_Q k (omega (arith, s.stretch.short)) _ places, (brief_stretch range _ s.stretch, tt)) refl
      (record { operands = stretch_operands s.stretch; places = cyclic_permutation k t s.stretch.filled }) (same_recorded r) within (omega arith))))

  pub barrier_makes : h.edition ≡ 2 → MakesAlways LineKind.barrier (Making.barrier h r)
  unfolding Making.barrier marks LineSound recorded_by records line_kind kind_of
  barrier_makes second =
      always_then (always_stretch h.qubits 8 (some_qubits range) (omega arith) (omega arith)) (λ qs s.
      always_given _ (line_makes 98 _ (Line.barrier qs) refl refl
      (brief_stretch range _ s.stretch, tt) refl (record { operands = stretch_operands s.stretch; second = second }) (same_recorded r) within (omega arith)))

  -- ---- gates

  -- the qubits of a gate
  record GateQubits (g : ℕ) (qs : List ℕ) : Type 0 where
    operands : Stretch h.qubits qs
    count : length qs ≡ cond (ltb g 11) 1 2

  -- how many codes there are to choose from
  record CodesKnown (codes : ℕ) : Type 0 where
    at_least : 11 ≤ codes
    at_most : codes ≤ 16
    two : 11 < codes → 2 ≤ h.qubits
    second : 15 < codes → h.edition ≡ 2

  codes_known : CodesKnown (Making.gate_codes_of h r)
  unfolding Making.gate_codes_of
  codes_known = go (eqb h.qubits 1) refl (eqb h.edition 2) refl
    where
      go : (a : Bool) → eqb h.qubits 1 ≡ a → (b : Bool) → eqb h.edition 2 ≡ b → CodesKnown (Making.gate_codes_of h r)
      go true e b f = rw e (record { at_least = omega arith; at_most = omega arith; two = λ l. absurd (omega arith); second = λ l. absurd (omega arith) })
      go false e true f =
          let more : h.qubits ≡ 1 → ⊥ = eqb-false _ _ e in
          rw (e, f) (record { at_least = omega arith; at_most = omega arith; two = λ _. omega (arith, range.some_qubits); second = λ _. eqb-true _ _ f })
      go false e false f =
          let more : h.qubits ≡ 1 → ⊥ = eqb-false _ _ e in
          rw (e, f) (record { at_least = omega arith; at_most = omega arith; two = λ _. omega (arith, range.some_qubits); second = λ l. absurd (omega arith) })

  one_qubit : (a : ℕ) → a < h.qubits → Stretch h.qubits (a ∷ [])
  unfolding distinct members outside all_below
  one_qubit a la = record { filled = omega arith; short = omega arith; apart = refl; below = and_both (lt-ltb _ _ la) refl }

  two_qubits : (a d : ℕ) → a < h.qubits → d < h.qubits - 1 → Stretch h.qubits (a ∷ (a + 1 + d) % h.qubits ∷ [])
  unfolding distinct members outside all_below
  two_qubits a d la ld =
      let b = (a + 1 + d) % h.qubits in
      let other : a ≡ b → ⊥ = λ e. mod_apart h.qubits a (a + 1 + d) (omega arith) (omega arith) (mod-eq_of_lt la ∙ e) in
      record {
        filled = omega arith;
        short = omega arith;
        apart = rw (ne_eqb a b other);
        below = and_both (lt-ltb _ _ la) (and_both (lt-ltb _ _ (mod-lt _ (some_qubits range))) refl);
      }

  always_qubits : (g a : ℕ) → g < Making.gate_codes_of h r → a < h.qubits → Always (GateQubits g) (Making.gate_qubits_of h r g a)
  unfolding Making.gate_qubits_of
  always_qubits g a lg la = go (ltb g 11) refl
    where
      go : (b : Bool) → ltb g 11 ≡ b
          → Always (GateQubits g) (cond b (given (a ∷ [])) (pick (h.qubits - 1) >>= λ d. given (a ∷ (a + 1 + d) % h.qubits ∷ [])))
      go true e = always_given _ (record { operands = one_qubit a la; count = rw e })
      go false e =
          let several : 2 ≤ h.qubits = codes_known.two (omega (arith, ltb-false g 11 e)) in
          always_then (always_pick (h.qubits - 1) (omega arith)) (λ d ld.
          always_given _ (record { operands = two_qubits a d la ld; count = rw e }))

  -- the line of a gate by its code
  abbrev OfCode : ℕ → Instruction → Type 0
  OfCode g i = (gate : Gate) → gate_of g ≡ some gate → kind_of i ≡ LineKind.unitary gate

  gate_makes : (g : ℕ) → g < Making.gate_codes_of h r
      → Always (Makes h r (OfCode g)) (pick h.qubits >>= λ a. Making.gate_qubits_of h r g a >>= λ qs.
      Making.line r (bytes "op=u g=N q=Q") (Value.number g ∷ Value.list qs ∷ []))
  unfolding marks LineSound recorded_by records line_kind kind_of unitary_line
  gate_makes g lg =
      let k = gate_known g (omega (arith, codes_known.at_most)) in
      always_then (always_pick h.qubits (some_qubits range)) (λ a la.
      always_then (always_qubits g a lg la) (λ qs s.
      always_given _ (line_makes 117 _ (Line.unitary k.gate qs) (λ gate e. ap LineKind.unitary (some-injective _ _ (sym k.is ∙ e))) refl
      (brief_N g (omega (arith, codes_known.at_most)), (brief_stretch range _ s.operands, tt)) (rw k.is)
      (record { operands = stretch_operands s.operands; count = s.count ∙ sym k.count; known = λ e. codes_known.second (omega (arith, k.second e)) }) (same_recorded r) within (omega arith))))

  -- the next word chooses the code
  pub unitary_makes : (state : ℕ) → Makes h r (OfCode (step state % Making.gate_codes_of h r)) (Making.unitary h r state).value
  unfolding Making.unitary ◌>>=◌ pick
  unitary_makes state = (gate_makes (step state % Making.gate_codes_of h r) (mod-lt _ (omega (arith, codes_known.at_least)))).from (step state)

  -- one qubit in the first edition
  record ResetQubits (qs : List ℕ) : Type 0 where
    operands : Stretch h.qubits qs
    several : 2 ≤ length qs → h.edition ≡ 2

  always_reset : Always ResetQubits (Making.reset_qubits_of h r)
  unfolding Making.reset_qubits_of
  always_reset = go (eqb h.edition 2) refl
    where
      go : (b : Bool) → eqb h.edition 2 ≡ b → Always ResetQubits (cond b (stretch h.qubits 8) (pick h.qubits >>= λ a. given (a ∷ [])))
      go true e =
          record {
            from = λ state.
                let s = (always_stretch h.qubits 8 (some_qubits range) (omega arith) (omega arith)).from state in
                record { operands = s.stretch; several = λ _. eqb-true _ _ e };
          }
      go false e =
          always_then (always_pick h.qubits (some_qubits range)) (λ a la.
          always_given _ (record { operands = one_qubit a la; several = λ l. absurd (omega arith) }))

  pub reset_makes : (state : ℕ) → Makes h r (λ i. i ≡ Instruction.line (Line.reset (Making.reset_qubits_of h r state).value)) (Making.reset h r state).value
  unfolding Making.reset given ◌>>=◌ marks LineSound recorded_by records
  reset_makes state =
      let s = always_reset.from state in
      line_makes 122 _ (Line.reset (Making.reset_qubits_of h r state).value) refl refl (brief_stretch range _ s.operands, tt) refl
      (record { operands = stretch_operands s.operands; several = s.several }) (same_recorded r) within (omega arith)
