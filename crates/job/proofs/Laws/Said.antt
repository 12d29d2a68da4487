-- Texts of sound instructions are accepted, noise with its element lines among them. Laws. Assumes nothing.
use Prim.Native.Nat.{ℕ, suc, ◌+◌, ◌-◌}
use Rattle.std.proofs.Math.Nat.{add-zero}
use native.Mathlib.Omega.{arith}
use Rattle.std.specs.Prelude.{◌≡◌, Bool, not, ◌&&◌, ◌||◌, eqb, ltb, Float}
use Rattle.std.proofs.Math.Path.{refl}
use Rattle.std.proofs.Math.Bool.{true, false, and-false}
use mathlib.Core.List.{List, [], ◌∷◌, ◌++◌, map}
use Rattle.std.proofs.Math.Option.{Option, none, some}
use Rattle.std.proofs.Common.{lt-ltb, ne_eqb}
use Rattle.std.specs.Float.Ieee.{binary64, add}
use Rattle.std.proofs.Math.ListN.{length}
use Rattle.job.specs.declared.Header.{Header}
use Rattle.job.specs.Line.{Line, WeightedPauli, Instruction, Placed}
use Rattle.job.specs.Float.{float, total_from, is_total}
use Rattle.job.specs.Grammar.{Kind, NoiseLine, Written, read_line_of}
use Rattle.job.specs.Checks.{Context, element_lines_of, first_total, next_total, next, same_weight, is_second_of, expected, header_fits_of, weight_fits, total_fits, own_tests}
use Rattle.job.specs.Job.{is_last, check_lines_of, distribution_of, noise_of, recorded_by}
use Rattle.job.specs.Contexts.{between, Accepted}
use Rattle.job.specs.Sound.{Every, PauliSound, weights_of, DistributionSound, NoiseSound, InstructionSound, InstructionsSound, instructions_of, ListSound, has_weights_of, said_weight, ElementsSaid, NoiseRead, SaidAs, LinesSound}
use Rattle.job.proofs.Laws.Lists.{every_map}
use Rattle.job.proofs.Laws.Accepted.{accepted_more}
use Rattle.job.proofs.Laws.Gather.{WeightsSound}
use Rattle.job.proofs.Laws.Instructions.{between_accepted}
use Rattle.job.proofs.Laws.Passes.{passed, and_both, pauli_passes, noise_passes, line_more}

-- whether weights are due
unfoldable pub weighs : Option Float → Bool
weighs none = false
weighs (some t) = true

-- ---- sound elements, in front of accepted lines

-- the context in which so many elements are due
during : Header → ℕ → ℕ → Option Float → Context
during h r due total = record { begun = true; header = h; recorded = r; due = due; total = total }

-- with the last of the texts no element is due
last_due : (weights : Bool) (us ts : List (List ℕ)) (es : List WeightedPauli) → ElementsSaid weights us es → (is_last (us ++ ts) && ltb 0 (length es)) ≡ false
unfolding ElementsSaid
last_due weights [] ts [] said = and-false (is_last ts)
last_due weights [] ts (e ∷ es) said = absurd said
last_due weights (u ∷ us) ts [] said = absurd said
last_due weights (u ∷ us) ts (e ∷ es) said = refl

-- the total is looked at with the last weight
total_passes : (t : Float) (es : List WeightedPauli) → is_total (total_from t (weights_of es)) ≡ true → (not (eqb (suc (length es)) 1) || is_total t) ≡ true
unfolding total_from
total_passes t [] h = h
total_passes t (e ∷ es) h = rw (ne_eqb (suc (suc (length es))) 1 (λ z. omega (arith, z)))

module _ (h : Header) (r : ℕ) (ts : List (List ℕ)) (rest : (k : ℕ) → Accepted k (between h r) ts) where
  -- an element line in front of the others
  element_more : (k : ℕ) (t : Option Float) (u : List ℕ) (us : List (List ℕ)) (e : WeightedPauli) (es : List WeightedPauli) (w : Option ℕ)
      → read_line_of u ≡ some (Written.element w e.pauli) → ElementsSaid (weighs t) us es → PauliSound h.qubits e.pauli → same_weight w t ≡ true
      → (weight_fits w && (not (eqb (suc (length es)) 1) || total_fits (next_total t w))) ≡ true
      → Accepted (suc k) (during h r (length es) (next_total t w)) (us ++ ts) → Accepted k (during h r (suc (length es)) t) (u ∷ us ++ ts)
  unfolding during next expected is_second_of header_fits_of own_tests
  element_more k t u us e es w reads said s same fits a =
      let less : suc (length es) - 1 ≡ length es = omega arith in
      accepted_more k (during h r (suc (length es)) t) u (us ++ ts) (Written.element w e.pauli) refl reads
      record {
        due = and_both (lt-ltb 0 (suc (length es)) (omega arith)) same;
        ends = rw less (last_due (weighs t) us ts es said);
        edition = refl;
        header = refl;
        own = pauli_passes h.qubits e.pauli s (passed fits tt);
      }
      (rw less a)

  elements_accepted : (k : ℕ) (t : Option Float) (us : List (List ℕ)) (es : List WeightedPauli) → ElementsSaid (weighs t) us es
      → Every (λ (e : WeightedPauli). PauliSound h.qubits e.pauli) es → WeightsSound t es → Accepted k (during h r (length es) t) (us ++ ts)
  unfolding ElementsSaid WeightsSound weighs said_weight same_weight weight_fits total_fits next_total total_from during
  elements_accepted k t [] [] said ps ws = between_accepted k (during h r 0 t) ts refl refl (rest k)
  elements_accepted k t [] (e ∷ es) said ps ws = absurd said
  elements_accepted k t (u ∷ us) [] said ps ws = absurd said
  elements_accepted k none (u ∷ us) (e ∷ es) said ps ws =
      element_more k none u us e es none said.0 said.1 ps.0 refl (or_true (not (eqb (suc (length es)) 1))) (elements_accepted (suc k) none us es said.1 ps.1 tt)
    where
      or_true : (b : Bool) → (b || true) ≡ true
      or_true true = refl
      or_true false = refl
  elements_accepted k (some t) (u ∷ us) (e ∷ es) said ps ws =
      let sum = add binary64 t (float e.weight) in
      let total : is_total (total_from sum (weights_of es)) ≡ true = ws.1 (omega arith) in
      element_more k (some t) u us e es (some e.weight) said.0 said.1 ps.0 refl (and_both ws.0.0.weight (total_passes sum es total))
      (elements_accepted (suc k) (some sum) us es said.1 ps.1 (ws.0.1, λ _. total))

-- ---- sound instructions

-- what a sound distribution says of the elements of its kind
elements_sound : (n : ℕ) (k : Kind) (es : List WeightedPauli) → length es ≡ element_lines_of k → DistributionSound n (distribution_of k es)
    → Every (λ (e : WeightedPauli). PauliSound n e.pauli) es × WeightsSound (first_total k) es
unfolding element_lines_of distribution_of DistributionSound first_total WeightsSound
elements_sound n (Kind.single P) [] count s = (tt, tt)
elements_sound n (Kind.single P) (e ∷ es) count s = absurd (omega arith)
elements_sound n (Kind.depolarizing qs) [] count s = (tt, tt)
elements_sound n (Kind.depolarizing qs) (e ∷ es) count s = absurd (omega arith)
elements_sound n (Kind.uniform m) es count s = (paulis es s.each, tt)
  where
    paulis : (es : List WeightedPauli) → Every (PauliSound n) (map (λ (e : WeightedPauli). e.pauli) es) → Every (λ (e : WeightedPauli). PauliSound n e.pauli) es
    paulis [] h = tt
    paulis (e ∷ es) h = (h.0, paulis es h.1)
elements_sound n (Kind.weighted m) es count s =
    (every_map _ _ es (λ e h. h.pauli) s.each, (every_map _ _ es (λ e h. record { weight = h.weight; small = h.small }) s.each, λ _. s.total))

pub weights_first : (k : Kind) → weighs (first_total k) ≡ has_weights_of k
unfolding weighs first_total has_weights_of
weights_first (Kind.single P) = refl
weights_first (Kind.depolarizing qs) = refl
weights_first (Kind.uniform n) = refl
weights_first (Kind.weighted n) = refl

-- noise with its elements, in front of accepted lines
noise_more : (h : Header) (r k : ℕ) (t : List ℕ) (us ts : List (List ℕ)) (n : NoiseLine) (es : List WeightedPauli) → NoiseRead t us n es
    → NoiseSound h.qubits r (noise_of n es) → ((m : ℕ) → Accepted m (between h r) ts) → Accepted k (between h r) (t ∷ us ++ ts)
unfolding next between noise_of during
noise_more h r k t us ts n es said s rest =
    let (ps, ws) = elements_sound h.qubits n.kind es said.count s.distribution in
    let elements : ElementsSaid (weighs (first_total n.kind)) us es = rw (weights_first n.kind) said.elements in
    accepted_more k (between h r) t (us ++ ts) (Written.noise n) refl said.line
    (unfold expected is_second_of header_fits_of own_tests in
    record { due = refl; ends = rw (← said.count) (last_due _ us ts es elements); edition = refl; header = refl; own = noise_passes h r n es said.count s })
    (rw (← said.count) (elements_accepted h r ts rest (suc k) (first_total n.kind) us es elements ps ws))

pub instructions_accepted : (h : Header) (r k : ℕ) (ts : List (List ℕ)) (is : List Instruction) → SaidAs ts is → ListSound h r is → Accepted k (between h r) ts
unfolding ListSound InstructionSound
instructions_accepted h r k ts is SaidAs.nothing s =
    record { begun = unfold between in refl; ends = unfold between in refl; passes = unfold check_lines_of in refl }
instructions_accepted h r k _ _ (SaidAs.line t ts l is reads said) s =
    line_more h r k t ts l reads s.0 (instructions_accepted h (r + recorded_by (Instruction.line l)) (suc k) ts is said s.1)
instructions_accepted h r k _ _ (SaidAs.noise t us ts n es is reads said) s =
    noise_more h r k t us ts n es reads s.0 (λ m. instructions_accepted h r m ts is said (unfold recorded_by in (rw add-zero at s.1)))

-- lines are instructions
pub lines_list : (h : Header) (r : ℕ) (ls : List Line) → LinesSound h r ls → ListSound h r (map Instruction.line ls)
unfolding LinesSound ListSound InstructionSound
lines_list h r [] s = tt
lines_list h r (l ∷ ls) s = (s.0, lines_list h (r + recorded_by (Instruction.line l)) ls s.1)

-- and those of a job are a list
pub placed_list : (h : Header) (r : ℕ) (is : List Placed) → InstructionsSound h r is → ListSound h r (instructions_of is)
unfolding InstructionsSound ListSound
placed_list h r [] s = tt
placed_list h r (i ∷ is) s = (s.0, placed_list h (r + recorded_by i.instruction) is s.1)
