-- What an accepted job holds is allowed: its header and the number of its lines have what each of its kinds of line needs. Laws. Assumes nothing.
use Rattle.std.specs.Prelude.{◌≡◌, Bool, not, cond, List, [], ◌∷◌, ◌++◌, ℕ, suc, ◌+◌, ◌≤◌, eqb, length}
use Rattle.std.proofs.Math.Path.{refl}
use Rattle.std.proofs.Common.{sym, ap, subst, ◌∙◌, true≢false, arith, length-append}
use Rattle.std.proofs.Math.Bool.{true, false}
use borrow.Author.Tests.{ltb-true, eqb-false}
use Rattle.std.proofs.Math.Dec.{ltb}
use Rattle.pauli.specs.Bits.{outside, members}
use Rattle.pauli.specs.Gate.{Gate, operands_of}
use Rattle.text.proofs.Laws.Values.{both}
use Rattle.job.specs.declared.Header.{Header}
use Rattle.job.specs.Line.{Line, Distribution, Instruction}
use Rattle.job.specs.Checks.{all_below, distinct}
use Rattle.job.specs.Job.{recorded_by}
use Rattle.job.specs.Sound.{Operands, LineSound, InstructionSound, ListSound, HeaderSound}
use Rattle.job.proofs.Laws.Recorded.{instruction_within}
use Rattle.made.specs.Kinds.{LineKind, line_kind, noise_kind_of, kind_of, Among, OfKind, at_least, needs_of, Allowed}

-- two operands are two qubits
two_below : (n : ℕ) (qs : List ℕ) → Operands n qs → 2 ≤ length qs → 2 ≤ n
unfolding distinct all_below members outside
two_below n [] o l = absurd (omega (arith, l))
two_below n (a ∷ []) o l = absurd (omega (arith, l))
two_below n (a ∷ b ∷ qs) o l = go (eqb a b) refl
  where
    below : (ltb a n ≡ true) × (all_below n (b ∷ qs) ≡ true)
    below = both (ltb a n) (all_below n (b ∷ qs)) o.below

    go : (e : Bool) → eqb a b ≡ e → 2 ≤ n
    go true e = let no : false ≡ true = rw e at o.apart in absurd (true≢false (sym no))
    go false e =
        let other : a ≡ b → ⊥ = eqb-false a b e in
        let first = ltb-true a n below.0 in
        let second = ltb-true b n (both (ltb b n) (all_below n qs) below.1).0 in
        omega arith

-- ---- an instruction of a sound list

-- with the number of outcomes that are recorded before it
record Stands (h : Header) (r place : ℕ) (i : Instruction) : Type 0 where
  recorded : ℕ
  sound : InstructionSound h recorded i
  within : recorded ≤ h.outcomes
  first : place ≡ 0 → recorded ≡ r

stands : (h : Header) (r : ℕ) (before : List Instruction) (i : Instruction) (behind : List Instruction) → ListSound h r (before ++ i ∷ behind) → r ≤ h.outcomes
    → Stands h r (length before) i
unfolding ListSound
stands h r [] i behind s b = record { recorded = r; sound = s.0; within = b; first = λ _. refl }
stands h r (j ∷ before) i behind s b =
    let l = stands h (r + recorded_by j) before i behind s.1 (instruction_within h r j s.0 b) in
    record { recorded = l.recorded; sound = l.sound; within = l.within; first = λ e. absurd (omega (arith, e)) }

module _ (h : Header) (range : HeaderSound h) (r lines : ℕ) (within : r ≤ h.outcomes) (some-lines : 1 ≤ lines) (more : 1 ≤ r → 2 ≤ lines) where
  abbrev Here : LineKind → Type 0
  Here kind = Allowed h.qubits h.outcomes lines kind

  anywhere : (kind : LineKind) → needs_of kind ≡ at_least 1 0 1 → Here kind
  anywhere kind e = record { enough_qubits = rw e range.some_qubits; enough_outcomes = rw e (omega arith); enough_lines = rw e some-lines }

  records_outcome : (kind : LineKind) → needs_of kind ≡ at_least 1 1 1 → 1 ≤ h.outcomes → Here kind
  records_outcome kind e some = record { enough_qubits = rw e range.some_qubits; enough_outcomes = rw e some; enough_lines = rw e some-lines }

  noise_allowed : (d : Distribution) → Here (noise_kind_of d)
  unfolding noise_kind_of needs_of
  noise_allowed (Distribution.single P) = anywhere LineKind.single refl
  noise_allowed (Distribution.depolarizing qs) = anywhere LineKind.depolarizing refl
  noise_allowed (Distribution.uniform Ps) = anywhere LineKind.uniform refl
  noise_allowed (Distribution.weighted es) = anywhere LineKind.weighted refl

  on_two : (kind : LineKind) → needs_of kind ≡ at_least 2 0 1 → (qs : List ℕ) → Operands h.qubits qs → 2 ≤ length qs → Here kind
  on_two kind e qs o l = record { enough_qubits = rw e (two_below h.qubits qs o l); enough_outcomes = rw e (omega arith); enough_lines = rw e some-lines }

  gate_allowed : (g : Gate) (qs : List ℕ) → Operands h.qubits qs → length qs ≡ operands_of g → Here (LineKind.unitary g)
  unfolding needs_of operands_of
  gate_allowed Gate.I qs o e = anywhere (LineKind.unitary Gate.I) refl
  gate_allowed Gate.X qs o e = anywhere (LineKind.unitary Gate.X) refl
  gate_allowed Gate.Y qs o e = anywhere (LineKind.unitary Gate.Y) refl
  gate_allowed Gate.Z qs o e = anywhere (LineKind.unitary Gate.Z) refl
  gate_allowed Gate.Hadamard qs o e = anywhere (LineKind.unitary Gate.Hadamard) refl
  gate_allowed Gate.SqrtZ qs o e = anywhere (LineKind.unitary Gate.SqrtZ) refl
  gate_allowed Gate.SqrtZInv qs o e = anywhere (LineKind.unitary Gate.SqrtZInv) refl
  gate_allowed Gate.SqrtX qs o e = anywhere (LineKind.unitary Gate.SqrtX) refl
  gate_allowed Gate.SqrtXInv qs o e = anywhere (LineKind.unitary Gate.SqrtXInv) refl
  gate_allowed Gate.SqrtY qs o e = anywhere (LineKind.unitary Gate.SqrtY) refl
  gate_allowed Gate.SqrtYInv qs o e = anywhere (LineKind.unitary Gate.SqrtYInv) refl
  gate_allowed Gate.ControlledX qs o e = on_two (LineKind.unitary Gate.ControlledX) refl qs o (omega (arith, e))
  gate_allowed Gate.ControlledZ qs o e = on_two (LineKind.unitary Gate.ControlledZ) refl qs o (omega (arith, e))
  gate_allowed Gate.Swap qs o e = on_two (LineKind.unitary Gate.Swap) refl qs o (omega (arith, e))
  gate_allowed Gate.PrepareBell qs o e = on_two (LineKind.unitary Gate.PrepareBell) refl qs o (omega (arith, e))
  gate_allowed Gate.ControlledY qs o e = on_two (LineKind.unitary Gate.ControlledY) refl qs o (omega (arith, e))

  reset_allowed : (qs : List ℕ) → Operands h.qubits qs → Here (line_kind (Line.reset qs))
  unfolding line_kind needs_of
  reset_allowed qs o = go (ltb 1 (length qs)) refl
    where
      go : (b : Bool) → ltb 1 (length qs) ≡ b → Here (cond b LineKind.resetList LineKind.reset)
      go true e = on_two LineKind.resetList refl qs o (omega (arith, ltb-true 1 (length qs) e))
      go false e = anywhere LineKind.reset refl

  instruction_allowed : (i : Instruction) → InstructionSound h r i → Here (kind_of i)
  unfolding InstructionSound LineSound kind_of line_kind needs_of
  instruction_allowed (Instruction.line (Line.unitary g qs)) s = gate_allowed g qs s.operands s.count
  instruction_allowed (Instruction.line (Line.clifford qs t)) s = anywhere LineKind.clifford refl
  instruction_allowed (Instruction.line (Line.pauli P)) s = anywhere LineKind.pauli refl
  instruction_allowed (Instruction.line (Line.exponential P)) s = anywhere LineKind.exponential refl
  instruction_allowed (Instruction.line (Line.controlled C T)) s = anywhere LineKind.controlled refl
  instruction_allowed (Instruction.line (Line.permute p qs)) s = anywhere LineKind.permute refl
  instruction_allowed (Instruction.line (Line.measure P id)) s = records_outcome LineKind.measure refl (omega (arith, s.outcome.below))
  instruction_allowed (Instruction.line (Line.allocate id angle)) s = records_outcome LineKind.allocate refl (omega (arith, s.below))
  instruction_allowed (Instruction.line (Line.conditional P ids par)) s = anywhere LineKind.conditional refl
  instruction_allowed (Instruction.line (Line.reset qs)) s = reset_allowed qs s.operands
  instruction_allowed (Instruction.line (Line.inject shot P)) s = anywhere LineKind.inject refl
  instruction_allowed (Instruction.line (Line.flip shot id)) s =
      record { enough_qubits = range.some_qubits; enough_outcomes = omega (arith, s.known); enough_lines = more (omega (arith, s.known)) }
  instruction_allowed (Instruction.line (Line.barrier qs)) s = anywhere LineKind.barrier refl
  instruction_allowed (Instruction.noise n) s = noise_allowed n.distribution

pub list_allowed : (h : Header) → HeaderSound h → (kind : LineKind) (is : List Instruction) → ListSound h 0 is → Among (OfKind kind) is
    → Allowed h.qubits h.outcomes (length is) kind
list_allowed h range kind is sound a =
    let s = stands h 0 a.before a.instruction a.behind (rw a.split at sound) (omega arith) in
    let count : length is ≡ length (a.before ++ a.instruction ∷ a.behind) = ap length a.split in
    let whole = length-append a.before (a.instruction ∷ a.behind) in
    subst (Allowed h.qubits h.outcomes (length is)) a.is
    (instruction_allowed h range s.recorded (length is) s.within (omega (arith, count, whole)) (λ some. later a.before a.behind some s.first (count ∙ whole)) a.instruction s.sound)
  where
    -- one that follows a recorded outcome is not the first
    later : (before behind : List Instruction) {r n : ℕ} → 1 ≤ r → (length before ≡ 0 → r ≡ 0) → n ≡ length before + suc (length behind) → 2 ≤ n
    later [] behind some first e = absurd (omega (arith, some, first refl))
    later (j ∷ before) behind some first e = omega (arith, e)
