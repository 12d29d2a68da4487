-- Made lines of Paulis and of outcomes say sound instructions: p, e, i, f, k; t, o, r. Laws. Assumes nothing.
use Rattle.std.specs.Prelude.{◌≡◌, Bool, ℕ, ◌<◌, ◌≤◌, eqb}
use Rattle.std.proofs.Math.Path.{refl, ap₂}
use Rattle.std.proofs.Math.Bool.{true, false}
use mathlib.Core.List.{List, [], ◌∷◌}
use Rattle.std.proofs.Common.{arith}
use Rattle.pauli.specs.Bits.{◌⊕◌, outside, members, none as no_bits}
use Rattle.pauli.specs.Pauli.{anticommutes}
use Rattle.pauli.proofs.Laws.Parity.{parity_none, parity_none_right}
use Rattle.text.specs.Bytes.{bytes}
use Rattle.text.specs.Template.{line_text}
use Rattle.job.specs.declared.Header.{Header}
use Rattle.job.specs.Line.{pauli_of, Line}
use Rattle.job.specs.Checks.{records}
use Rattle.job.specs.Job.{recorded_by}
use Rattle.job.specs.Sound.{LineSound, HeaderSound}
use Rattle.made.specs.Choice.{Choice, pauli}
use Rattle.made.specs.Making
use Rattle.made.specs.Kinds.{LineKind, line_kind, kind_of, OfKind}
use Rattle.made.proofs.Laws.Choice.{Always, always_given, always_then, always_pick, Few, few_sound, no_few, always_few, few_pauli, always_pauli}
use Rattle.made.proofs.Laws.Values.{brief_N, brief_B}
use Rattle.made.proofs.Laws.Makes.{Makes, marks, line_makes, brief_few, brief_ids, same_recorded}

-- ---- X parts alone, or Z parts alone, commute

module _ (n : ℕ) (a b : List ℕ) where
  commute_X : anticommutes n (pauli_of (record { x = a; z = [] })) (pauli_of (record { x = b; z = [] })) ≡ false
  unfolding anticommutes pauli_of members outside no_bits ◌⊕◌
  commute_X = ap₂ ◌⊕◌ (parity_none_right n (members a)) (parity_none n (members b))

  commute_Z : anticommutes n (pauli_of (record { x = []; z = a })) (pauli_of (record { x = []; z = b })) ≡ false
  unfolding anticommutes pauli_of members outside no_bits ◌⊕◌
  commute_Z = ap₂ ◌⊕◌ (parity_none n (members b)) (parity_none_right n (members a))

module _ (h : Header) (range : HeaderSound h) (r : ℕ) (within : r ≤ h.outcomes) where
  abbrev MakesAlways : LineKind → Choice Making.Made → Type 0
  MakesAlways kind = Always (Makes h r (OfKind kind))

  -- ---- Paulis

  pub pauli_makes : MakesAlways LineKind.pauli (Making.pauli_line h r "op=p x=L z=L")
  unfolding Making.pauli_line marks LineSound recorded_by records line_kind kind_of
  pauli_makes =
      always_then (always_pauli h.qubits) (λ P f.
      always_given _ (line_makes 112 _ (Line.pauli P) refl refl
      (brief_few range _ f.x, (brief_few range _ f.z, tt)) refl (few_pauli f) (same_recorded r) within (omega arith)))

  pub exponential_makes : MakesAlways LineKind.exponential (Making.pauli_line h r "op=e x=L z=L")
  unfolding Making.pauli_line marks LineSound recorded_by records line_kind kind_of
  exponential_makes =
      always_then (always_pauli h.qubits) (λ P f.
      always_given _ (line_makes 101 _ (Line.exponential P) refl refl
      (brief_few range _ f.x, (brief_few range _ f.z, tt)) refl (few_pauli f) (same_recorded r) within (omega arith)))

  pub inject_makes : MakesAlways LineKind.inject (Making.inject h r)
  unfolding Making.inject marks LineSound recorded_by records line_kind kind_of
  inject_makes =
      always_then (always_pick h.shots (omega (arith, range.some_shots))) (λ shot s.
      always_then (always_pauli h.qubits) (λ P f.
      always_given _ (line_makes 105 _ (Line.inject shot P) refl refl
      (brief_N shot (omega (arith, range.few_shots)), (brief_few range _ f.x, (brief_few range _ f.z, tt))) refl (record { within = s; pauli = few_pauli f }) (same_recorded r) within (omega arith))))

  pub conditional_makes : MakesAlways LineKind.conditional (Making.conditional h r)
  unfolding Making.conditional marks LineSound recorded_by records line_kind kind_of
  conditional_makes =
      always_then (always_pauli h.qubits) (λ P f.
      always_then (always_few r) (λ ids g.
      always_then (always_pick 2 (omega arith)) (λ b two.
      always_given _ (line_makes 102 _ (Line.conditional P ids (eqb b 1)) refl refl
      (brief_few range _ f.x, (brief_few range _ f.z, (brief_ids range r _ within g, (brief_B b two, tt)))) refl (record { pauli = few_pauli f; known = few_sound g }) (same_recorded r) within (omega arith)))))

  controlled_by : (t : Bool) (y : ℕ) (a b : List ℕ) → Few h.qubits a → Few h.qubits b → eqb y 0 ≡ t
      → Makes h r (OfKind LineKind.controlled) (record { texts = line_text (bytes "op=k x=L z=L u=L v=L") (Making.one_sided y a b) ∷ []; recorded = r })
  unfolding Making.one_sided marks LineSound recorded_by records line_kind kind_of
  controlled_by true y a b f g e =
      rw e
      (line_makes 107 _ (Line.controlled (record { x = a; z = [] }) (record { x = b; z = [] })) refl refl
      (brief_few range _ f, (brief_few range _ (no_few _), (brief_few range _ g, (brief_few range _ (no_few _), tt)))) refl
      (record { control = few_pauli (record { x = f; z = no_few _ }); target = few_pauli (record { x = g; z = no_few _ }); commute = commute_X h.qubits a b }) (same_recorded r) within
      (omega arith))
  controlled_by false y a b f g e =
      rw e
      (line_makes 107 _ (Line.controlled (record { x = []; z = a }) (record { x = []; z = b })) refl refl
      (brief_few range _ (no_few _), (brief_few range _ f, (brief_few range _ (no_few _), (brief_few range _ g, tt)))) refl
      (record { control = few_pauli (record { x = no_few _; z = f }); target = few_pauli (record { x = no_few _; z = g }); commute = commute_Z h.qubits a b }) (same_recorded r) within
      (omega arith))

  pub controlled_makes : MakesAlways LineKind.controlled (Making.controlled h r)
  unfolding Making.controlled
  controlled_makes =
      always_then (always_pick 2 (omega arith)) (λ y _.
      always_then (always_few h.qubits) (λ a f.
      always_then (always_few h.qubits) (λ b g.
      always_given _ (controlled_by (eqb y 0) y a b f g refl))))

  -- ---- outcomes

  pub flip_makes : 0 < r → MakesAlways LineKind.flip (Making.flip h r)
  unfolding Making.flip marks LineSound recorded_by records line_kind kind_of
  flip_makes known =
      always_then (always_pick h.shots (omega (arith, range.some_shots))) (λ shot s.
      always_then (always_pick r known) (λ id k.
      always_given _ (line_makes 116 _ (Line.flip shot id) refl refl
      (brief_N shot (omega (arith, range.few_shots)), (brief_N id (omega (arith, range.few_outcomes)), tt)) refl
      (record { within = s; known = k }) (same_recorded r) within (omega arith))))

  pub measure_makes : r < h.outcomes → MakesAlways LineKind.measure (Making.measure h r)
  unfolding Making.measure marks LineSound recorded_by records line_kind kind_of
  measure_makes next =
      always_then (always_pauli h.qubits) (λ P f.
      always_given _ (line_makes 111 _ (Line.measure P r) refl refl
      (brief_few range _ f.x, (brief_few range _ f.z, (brief_N r (omega (arith, range.few_outcomes)), tt))) refl
      (record { observable = few_pauli f; outcome = record { next = refl; below = next } }) (omega arith) next (omega arith)))

  pub allocate_makes : r < h.outcomes → MakesAlways LineKind.allocate (Making.allocate h r)
  unfolding Making.allocate marks LineSound recorded_by records line_kind kind_of
  allocate_makes next =
      always_then (always_pick 2 (omega arith)) (λ angle two.
      always_given _ (line_makes 114 _ (Line.allocate r (eqb angle 1)) refl refl
      (brief_N r (omega (arith, range.few_outcomes)), (brief_B angle two, tt)) refl (record { next = refl; below = next }) (omega arith) next (omega arith)))
