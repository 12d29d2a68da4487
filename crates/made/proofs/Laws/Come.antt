-- Kinds of lines come up: in a made job whose first instructions are known. Laws. Assumes nothing.
use Rattle.std.specs.Prelude.{◌≡◌, Bool, cond, List, [], ◌∷◌, eqb, length}
use Rattle.std.proofs.Math.Path.{refl, ap}
use Rattle.std.proofs.Common.{◌∙◌}
use Rattle.std.proofs.Math.Bool.{true, false}
use Rattle.std.proofs.Math.Option.{some}
use Prim.Native.Nat.{ℕ, suc, ◌-◌, ◌%◌, ◌<◌, ◌≤◌, min}
use native.Mathlib.Omega.{arith}
use borrow.Author.Tests.{ltb-true, lt-ltb, eqb-true}
use Rattle.std.proofs.Math.Dec.{ltb}
use Rattle.pauli.specs.Gate.{Gate, gates, gate_from, gate_of, operands_of}
use Rattle.pauli.proofs.Laws.Code.{same_at}
use Rattle.stream.specs.Stream.{left, right, step}
use Rattle.job.specs.declared.Header.{Header}
use Rattle.job.specs.Line.{Line, Instruction}
use Rattle.job.specs.Grammar.{header_with}
use Rattle.job.specs.Checks.{in_range}
use Rattle.job.specs.Job.{job_of}
use Rattle.job.specs.Sound.{instructions_of, HeaderSound}
use Rattle.made.specs.Choice.{Chosen, Choice, given, ◌>>=◌, pick, stretch}
use Rattle.made.specs.Making
use Rattle.made.specs.Made.{made_texts, made_header, made_text}
use Rattle.made.specs.Kinds.{LineKind, line_kind, kind_of, StandsAt, OfKind, needs_of, Allowed, gate_seed, kind_seed, place_of}
use Rattle.made.proofs.Laws.Choice.{Always, cyclic_length}
use Rattle.made.proofs.Laws.Lines as lines
use Rattle.made.proofs.Laws.Operands as operands
use Rattle.made.proofs.Laws.Tables as tables
use Rattle.made.proofs.Laws.Makes.{Makes, makes_as}
use Rattle.made.proofs.Laws.Noise as noise
use Rattle.made.proofs.Laws.Jobs.{MadeKnown, made_more, made_known}
use Rattle.made.proofs.Laws.Replies.{header_fits, text_instructions}

-- the instructions of the made text
abbrev pub made_instructions : ℕ → ℕ → ℕ → ℕ → ℕ → List Instruction
made_instructions qubits outcomes shots lines seed = instructions_of (job_of (made_text qubits outcomes shots lines seed)).instructions

module _ (qubits outcomes shots : ℕ) (range : in_range (header_with 1 qubits outcomes shots) ≡ true) (total : ℕ) where
  abbrev header_on : ℕ → Header
  header_on seed = made_header qubits outcomes shots seed

  fits : (seed : ℕ) → HeaderSound (header_on seed)
  fits seed = header_fits qubits outcomes shots seed range

  -- what the first instruction is
  first_comes : {Is : Instruction → Type 0} (seed : ℕ) → 1 ≤ total → (c : Chosen Making.Made) → Making.instruction (header_on seed) 0 (step seed) ≡ c
      → Makes (header_on seed) 0 Is c.value → StandsAt 0 Is (made_instructions qubits outcomes shots total seed)
  unfolding made_texts made_more
  first_comes {Is = Is} seed some-lines c e a =
      let n = total - 1 in
      let all : suc n ≡ total = omega arith in
      let h = header_on seed in
      let i = Making.instruction h 0 (step seed) in
      let m : Makes h 0 Is i.value = rw e a in
      let k : MadeKnown h 0 (suc n) (made_texts h (suc n) 0 (step seed)) = made_more m (made_known h (fits seed) n i.value.recorded i.state m.within) in
      let found : StandsAt 0 Is (made_instructions qubits outcomes shots (suc n) seed) =
      record {
        among = record { before = []; instruction = m.instruction; is = m.is; behind = _; split = text_instructions qubits outcomes shots seed range (suc n) k };
        place_is = refl;
      } in
      rw all at found

  -- what the second is
  second_comes : {Is Js : Instruction → Type 0} (seed : ℕ) → 2 ≤ total → (c d : Chosen Making.Made) → Making.instruction (header_on seed) 0 (step seed) ≡ c
      → Making.instruction (header_on seed) c.value.recorded c.state ≡ d → Makes (header_on seed) 0 Is c.value
      → Makes (header_on seed) c.value.recorded Js d.value → StandsAt 1 Js (made_instructions qubits outcomes shots total seed)
  unfolding made_texts made_more
  second_comes {Is = Is} {Js = Js} seed two-lines c d e f a b =
      let n = total - 2 in
      let all : suc (suc n) ≡ total = omega arith in
      let h = header_on seed in
      let i = Making.instruction h 0 (step seed) in
      let m : Makes h 0 Is i.value = rw e a in
      let j = Making.instruction h i.value.recorded i.state in
      let l : Makes h i.value.recorded Js j.value = rw (e, f) b in
      let k : MadeKnown h 0 (suc (suc n)) (made_texts h (suc (suc n)) 0 (step seed)) =
      made_more m (made_more l (made_known h (fits seed) n j.value.recorded j.state l.within)) in
      let found : StandsAt 1 Js (made_instructions qubits outcomes shots (suc (suc n)) seed) =
      record {
        among =
            record { before = m.instruction ∷ []; instruction = l.instruction; is = l.is; behind = _; split = text_instructions qubits outcomes shots seed range (suc (suc n)) k };
        place_is = refl;
      } in
      rw all at found

  -- opens what chooses the kind of a line
  unfoldable pub choosing : Unit {0}
  unfolding Making.instruction Making.ring Making.first_standing ◌>>=◌ pick left right step made_header
  choosing = tt

  -- the seed is none that is refused, and the kind comes up at this place
  pub record ComesAt (place seed : ℕ) (kind : LineKind) : Type 0 where
    pub seeded : seed ≡ 0 → ⊥
    pub stands : StandsAt place (OfKind kind) (made_instructions qubits outcomes shots total seed)

  -- the second word chooses the kind of the first line
  by_word : 1 ≤ total → (seed : ℕ) (kind : LineKind) (made : Header → Choice Making.Made) → (seed ≡ 0 → ⊥)
      → Making.instruction (header_on seed) 0 (step seed) ≡ made (header_on seed) (step (step seed))
      → Makes (header_on seed) 0 (OfKind kind) (made (header_on seed) (step (step seed))).value → ComesAt 0 seed kind
  by_word some-lines seed kind made seeded e a = record { seeded = seeded; stands = first_comes seed some-lines (made (header_on seed) (step (step seed))) e a }

  plain : 1 ≤ total → (seed : ℕ) (kind : LineKind) (made : Header → Choice Making.Made) → (seed ≡ 0 → ⊥)
      → Making.instruction (header_on seed) 0 (step seed) ≡ made (header_on seed) (step (step seed)) → Always (Makes (header_on seed) 0 (OfKind kind)) (made (header_on seed))
      → ComesAt 0 seed kind
  plain some-lines seed kind made seeded e a = by_word some-lines seed kind made seeded e (a.from (step (step seed)))

  -- ---- gates

  -- the third word chooses the code, on one qubit and on more
  by_code : 1 ≤ total → (seed : ℕ) (g : Gate) → (seed ≡ 0 → ⊥) → Making.instruction (header_on seed) 0 (step seed) ≡ Making.unitary (header_on seed) 0 (step (step seed))
      → (eqb qubits 1 ≡ true → gate_of (step (step (step seed)) % Making.gate_codes_of (header_on seed) 0) ≡ some g)
      → (eqb qubits 1 ≡ false → gate_of (step (step (step seed)) % Making.gate_codes_of (header_on seed) 0) ≡ some g) → ComesAt 0 seed (LineKind.unitary g)
  by_code some-lines seed g seeded e one more =
      by_word some-lines seed _ (λ h. Making.unitary h 0) seeded e
      (makes_as (λ i is. is g (go (eqb qubits 1) refl)) (operands.unitary_makes (header_on seed) (fits seed) 0 (omega arith) (step (step seed))))
    where
      go : (b : Bool) → eqb qubits 1 ≡ b → gate_of (step (step (step seed)) % Making.gate_codes_of (header_on seed) 0) ≡ some g
      go true f = one f
      go false f = more f

  gate_comes : 1 ≤ total → (g : Gate) → operands_of g ≤ qubits → ComesAt 0 (gate_seed g) (LineKind.unitary g)
  unfolding gate_seed operands_of choosing Making.gate_codes_of gate_of gates gate_from
  gate_comes some-lines Gate.I few = by_code some-lines 1951 Gate.I (λ z. omega arith) refl (λ f. rw f) (λ f. rw f)
  gate_comes some-lines Gate.X few = by_code some-lines 3999 Gate.X (λ z. omega arith) refl (λ f. rw f) (λ f. rw f)
  gate_comes some-lines Gate.Y few = by_code some-lines 9631 Gate.Y (λ z. omega arith) refl (λ f. rw f) (λ f. rw f)
  gate_comes some-lines Gate.Z few = by_code some-lines 288 Gate.Z (λ z. omega arith) refl (λ f. rw f) (λ f. rw f)
  gate_comes some-lines Gate.Hadamard few = by_code some-lines 6591 Gate.Hadamard (λ z. omega arith) refl (λ f. rw f) (λ f. rw f)
  gate_comes some-lines Gate.SqrtZ few = by_code some-lines 832 Gate.SqrtZ (λ z. omega arith) refl (λ f. rw f) (λ f. rw f)
  gate_comes some-lines Gate.SqrtZInv few = by_code some-lines 576 Gate.SqrtZInv (λ z. omega arith) refl (λ f. rw f) (λ f. rw f)
  gate_comes some-lines Gate.SqrtX few = by_code some-lines 3487 Gate.SqrtX (λ z. omega arith) refl (λ f. rw f) (λ f. rw f)
  gate_comes some-lines Gate.SqrtXInv few = by_code some-lines 4063 Gate.SqrtXInv (λ z. omega arith) refl (λ f. rw f) (λ f. rw f)
  gate_comes some-lines Gate.SqrtY few = by_code some-lines 768 Gate.SqrtY (λ z. omega arith) refl (λ f. rw f) (λ f. rw f)
  gate_comes some-lines Gate.SqrtYInv few = by_code some-lines 1632 Gate.SqrtYInv (λ z. omega arith) refl (λ f. rw f) (λ f. rw f)
  gate_comes some-lines Gate.ControlledX few = by_code some-lines 447 Gate.ControlledX (λ z. omega arith) refl (λ f. absurd (omega (arith, few, eqb-true qubits 1 f))) (λ f. rw f)
  gate_comes some-lines Gate.ControlledZ few = by_code some-lines 96 Gate.ControlledZ (λ z. omega arith) refl (λ f. absurd (omega (arith, few, eqb-true qubits 1 f))) (λ f. rw f)
  gate_comes some-lines Gate.Swap few = by_code some-lines 256 Gate.Swap (λ z. omega arith) refl (λ f. absurd (omega (arith, few, eqb-true qubits 1 f))) (λ f. rw f)
  gate_comes some-lines Gate.PrepareBell few = by_code some-lines 511 Gate.PrepareBell (λ z. omega arith) refl (λ f. absurd (omega (arith, few, eqb-true qubits 1 f))) (λ f. rw f)
  gate_comes some-lines Gate.ControlledY few = by_code some-lines 23 Gate.ControlledY (λ z. omega arith) refl (λ f. absurd (omega (arith, few, eqb-true qubits 1 f))) (λ f. rw f)

  -- ---- resets

  by_reset : 1 ≤ total → (seed : ℕ) (kind : LineKind) → (seed ≡ 0 → ⊥) → Making.instruction (header_on seed) 0 (step seed) ≡ Making.reset (header_on seed) 0 (step (step seed))
      → line_kind (Line.reset (Making.reset_qubits_of (header_on seed) 0 (step (step seed))).value) ≡ kind → ComesAt 0 seed kind
  unfolding kind_of
  by_reset some-lines seed kind seeded e k =
      by_word some-lines seed kind (λ h. Making.reset h 0) seeded e
      (makes_as (λ i is. ap kind_of is ∙ k) (operands.reset_makes (header_on seed) (fits seed) 0 (omega arith) (step (step seed))))

  -- the third word from the seed 5 is no multiple of 2 to 8
  several : 2 ≤ qubits → 1 < length (Making.reset_qubits_of (header_on 5) 0 (step (step 5))).value
  unfolding choosing Making.reset_qubits_of stretch given
  several two =
      let word = step (step (step 5)) in
      let k = word % min qubits 8 in
      let more : 0 < k = ltb-true 0 k (same_at (λ (j : ℕ). ltb 0 (word % j)) (λ (j : ℕ). true) 2 7 refl (min qubits 8) (omega arith) (omega arith)) in
      omega (arith, cyclic_length (suc k) qubits (step word % qubits))

  reset_list_comes : 1 ≤ total → 2 ≤ qubits → ComesAt 0 5 LineKind.resetList
  unfolding choosing line_kind
  reset_list_comes some-lines two = by_reset some-lines 5 _ (λ z. omega arith) refl (rw (lt-ltb 1 _ (several two)))

  reset_comes : 1 ≤ total → ComesAt 0 26 LineKind.reset
  unfolding choosing line_kind Making.reset_qubits_of given
  reset_comes some-lines = by_reset some-lines 26 _ (λ z. omega arith) refl refl

  -- ---- every kind

  pub kind_comes : (kind : LineKind) → Allowed qubits outcomes total kind → ComesAt (place_of kind) (kind_seed kind) kind
  unfolding kind_seed place_of needs_of choosing Making.allocate given
  kind_comes (LineKind.unitary g) a = gate_comes a.enough_lines g a.enough_qubits
  kind_comes LineKind.clifford a = plain a.enough_lines 3 _ (λ h. Making.clifford h 0) (λ z. omega arith) refl (tables.clifford_makes (header_on 3) (fits 3) 0 (omega arith))
  kind_comes LineKind.pauli a = plain a.enough_lines 11 _ (λ h. Making.pauli_line h 0 "op=p x=L z=L") (λ z. omega arith) refl (lines.pauli_makes (header_on 11) (fits 11) 0 (omega arith))
  kind_comes LineKind.exponential a = plain a.enough_lines 2 _ (λ h. Making.pauli_line h 0 "op=e x=L z=L") (λ z. omega arith) refl (lines.exponential_makes (header_on 2) (fits 2) 0 (omega arith))
  kind_comes LineKind.controlled a = plain a.enough_lines 24 _ (λ h. Making.controlled h 0) (λ z. omega arith) refl (lines.controlled_makes (header_on 24) (fits 24) 0 (omega arith))
  kind_comes LineKind.permute a = plain a.enough_lines 6 _ (λ h. Making.permute h 0) (λ z. omega arith) refl (operands.permute_makes (header_on 6) (fits 6) 0 (omega arith))
  kind_comes LineKind.conditional a = plain a.enough_lines 4 _ (λ h. Making.conditional h 0) (λ z. omega arith) refl (lines.conditional_makes (header_on 4) (fits 4) 0 (omega arith))
  kind_comes LineKind.reset a = reset_comes a.enough_lines
  kind_comes LineKind.resetList a = reset_list_comes a.enough_lines a.enough_qubits
  kind_comes LineKind.inject a = plain a.enough_lines 15 _ (λ h. Making.inject h 0) (λ z. omega arith) refl (lines.inject_makes (header_on 15) (fits 15) 0 (omega arith))
  kind_comes LineKind.single a = plain a.enough_lines 7 _ (λ h. Making.single h 0) (λ z. omega arith) refl (noise.single_makes (header_on 7) (fits 7) 0 (omega arith))
  kind_comes LineKind.depolarizing a = plain a.enough_lines 12 _ (λ h. Making.depolarizing h 0) (λ z. omega arith) refl (noise.depolarizing_makes (header_on 12) (fits 12) 0 (omega arith))
  kind_comes LineKind.uniform a =
      plain a.enough_lines 18 _ (λ h. Making.listed h 0 false "op=n p=H corr=C cond=L parity=B d=3 n=N size=N") (λ z. omega arith) refl
      (noise.uniform_makes (header_on 18) (fits 18) 0 (omega arith))
  kind_comes LineKind.weighted a =
      plain a.enough_lines 8 _ (λ h. Making.listed h 0 true "op=n p=H corr=C cond=L parity=B d=4 n=N size=N") (λ z. omega arith) refl
      (noise.weighted_makes (header_on 8) (fits 8) 0 (omega arith))
  -- o and r where there is an outcome
  kind_comes LineKind.measure a =
      plain a.enough_lines 20 _ (λ h. Making.measure h 0) (λ z. omega arith) (rw (lt-ltb 0 outcomes a.enough_outcomes)) (lines.measure_makes (header_on 20) (fits 20) 0 (omega arith) a.enough_outcomes)
  kind_comes LineKind.allocate a =
      plain a.enough_lines 1 _ (λ h. Making.allocate h 0) (λ z. omega arith) (rw (lt-ltb 0 outcomes a.enough_outcomes)) (lines.allocate_makes (header_on 1) (fits 1) 0 (omega arith) a.enough_outcomes)
  -- t behind an allocation
  kind_comes LineKind.flip a =
      let h = header_on 17 in
      let s = step (step 17) in
      record {
        seeded = λ z. omega arith;
        stands =
            second_comes 17 a.enough_lines (Making.allocate h 0 s) (Making.flip h 1 (step (step s))) (rw (lt-ltb 0 outcomes a.enough_outcomes)) refl
            ((lines.allocate_makes h (fits 17) 0 (omega arith) a.enough_outcomes).from s) ((lines.flip_makes h (fits 17) 1 a.enough_outcomes (omega arith)).from (step (step s)));
      }
  kind_comes LineKind.barrier a = plain a.enough_lines 77 _ (λ h. Making.barrier h 0) (λ z. omega arith) refl (operands.barrier_makes (header_on 77) (fits 77) 0 (omega arith) refl)
