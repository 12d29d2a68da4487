-- Instructions of an accepted job, their rows and their bytes. Laws. Assumes nothing.
use Rattle.std.specs.Prelude.{ℕ, ◌+◌, ◌≤◌, ◌≡◌, Bool, true, false, length}
use native.Mathlib.Omega.{arith}
use Rattle.std.proofs.Math.Path.{refl, sym, ap}
use Rattle.std.proofs.Common.{◌∙◌, leb-false}
use Rattle.std.proofs.Math.Bool.{cond}
use mathlib.Core.List.{List, [], ◌∷◌, ◌++◌, append_assoc}
use Rattle.std.proofs.Math.Option.{Option, none, some}
use Rattle.job.specs.declared.Header.{Header}
use Rattle.job.specs.Line.{SparsePauli, WeightedPauli, Distribution, size_of, Instruction, Placed}
use Rattle.job.specs.Grammar.{Kind, NoiseLine, Written}
use Rattle.job.specs.Job.{Gathered, gather, placed_at, noise_of, distribution_of, check_job, job_of}
use Rattle.job.specs.Sound.{RisingBelow, PauliSound, Every, ElementSound, DistributionSound, NoiseSound, InstructionSound}
use Rattle.job.proofs.Theorems.{checked_sound}
use Rattle.job.proofs.Laws.Lists.{below_more}
use Rattle.draws.proofs.Laws.Before.{instruction_behind}
use Rattle.single_faults.specs.Table.{is_wide, wide_first, first_wide}
use Rattle.fault_table.specs.Rows.{rows_bytes}
use Rattle.fault_table.specs.Said.{wide_kind, wide_said, size_said, NoiseFits}
use Rattle.fault_table.specs.Laws.Kinds.{few_elements}
use Rattle.fault_table.specs.Table.{instruction_bytes, table_bytes}

-- ---- a line in front of others

module _ (k : ℕ) (text : List ℕ) (g : Gathered) where
  pub said_bytes : (groups : ℕ) (w : Written)
      → table_bytes groups (gather k text (some w) g).instructions ≡ rows_bytes groups k (size_said w) 0 + table_bytes groups g.instructions
  unfolding gather table_bytes instruction_bytes size_said rows_bytes noise_of
  said_bytes groups (Written.header h) = omega arith
  said_bytes groups (Written.line l) = omega arith
  said_bytes groups (Written.noise n) = refl
  said_bytes groups (Written.element v P) = omega arith

  kind_wide : (kind : Kind) (es : List WeightedPauli) → is_wide (distribution_of kind es) ≡ wide_kind kind
  unfolding is_wide wide_kind distribution_of
  kind_wide (Kind.single P) es = refl
  kind_wide (Kind.depolarizing qs) es = refl
  kind_wide (Kind.uniform n) es = refl
  kind_wide (Kind.weighted n) es = refl

  pub said_wide : (w : Written) → first_wide (gather k text (some w) g).instructions ≡ cond (wide_said w) (some k) (first_wide g.instructions)
  unfolding gather first_wide wide_first wide_said noise_of
  said_wide (Written.header h) = refl
  said_wide (Written.line l) = refl
  said_wide (Written.noise n) = ap (λ (b : Bool). cond b (some k) (first_wide g.instructions)) (kind_wide n.kind g.elements)
  said_wide (Written.element v P) = refl

  -- the instructions behind it are the last of those from it on
  pub said_split : (before : List Placed) (w : Written)
      → (more : List Placed) × (before ++ (gather k text (some w) g).instructions ≡ more ++ g.instructions)
  unfolding gather
  said_split before (Written.header h) = (before, refl)
  said_split before (Written.line l) = (before ++ placed_at k text (Instruction.line l) ∷ [], sym (append_assoc before (placed_at k text (Instruction.line l) ∷ []) g.instructions))
  said_split before (Written.noise n) = (
    before ++ placed_at k text (Instruction.noise (noise_of n g.elements)) ∷ [],
    sym (append_assoc before (placed_at k text (Instruction.noise (noise_of n g.elements)) ∷ []) g.instructions),
  )
  said_split before (Written.element v P) = (before, refl)

-- ---- in two parts

pub bytes_append : (groups : ℕ) (is js : List Placed) → table_bytes groups (is ++ js) ≡ table_bytes groups is + table_bytes groups js
unfolding table_bytes
bytes_append groups [] js = omega arith
bytes_append groups (i ∷ is) js = omega (arith, bytes_append groups is js)

none_some : {k : ℕ} → some k ≡ none → ⊥
none_some e = let z : ◌≡◌ {A = ℕ} 0 1 = cc in omega arith

pub wide_append : (is js : List Placed) → first_wide (is ++ js) ≡ none → first_wide js ≡ none
unfolding first_wide
wide_append [] js e = e
wide_append (i ∷ is) js e = wide_append is js (go i.instruction e)
  where
    by : (b : Bool) (o : Option ℕ) → cond b (some i.line) o ≡ none → o ≡ none
    by true o e = absurd (none_some e)
    by false o e = e

    go : (j : Instruction) → wide_first i.line j (first_wide (is ++ js)) ≡ none → first_wide (is ++ js) ≡ none
    go (Instruction.line l) e = unfold wide_first in e
    go (Instruction.noise n) e = unfold wide_first in by (is_wide n.distribution) (first_wide (is ++ js)) e

not_wide_here : (b : Bool) (k : ℕ) (o : Option ℕ) → cond b (some k) o ≡ none → b ≡ false
not_wide_here true k o e = absurd (none_some e)
not_wide_here false k o e = refl

-- ---- soundness over more qubits

module _ (n m : ℕ) (few : n ≤ m) where
  list_more : (l : List ℕ) → RisingBelow n l → RisingBelow m l
  list_more l s = record { rising = s.rising; below = below_more n m l few s.below; few = s.few }

  pub pauli_more : (P : SparsePauli) → PauliSound n P → PauliSound m P
  pauli_more P s = record { x = list_more P.x s.x; z = list_more P.z s.z }

  paulis_more : (Ps : List SparsePauli) → Every (PauliSound n) Ps → Every (PauliSound m) Ps
  paulis_more [] s = tt
  paulis_more (P ∷ Ps) s = (pauli_more P s.0, paulis_more Ps s.1)

  elements_more : (es : List WeightedPauli) → Every (ElementSound n) es → Every (ElementSound m) es
  elements_more [] s = tt
  elements_more (e ∷ es) s = (record { pauli = pauli_more e.pauli s.0.pauli; weight = s.0.weight; small = s.0.small }, elements_more es s.1)

  pub distribution_more : (d : Distribution) → DistributionSound n d → DistributionSound m d
  unfolding DistributionSound
  distribution_more (Distribution.single P) s = pauli_more P s
  distribution_more (Distribution.depolarizing qs) s =
      record { filled = s.filled; few = s.few; apart = s.apart; below = below_more n m qs few s.below }
  distribution_more (Distribution.uniform Ps) s = record { filled = s.filled; few = s.few; each = paulis_more Ps s.each }
  distribution_more (Distribution.weighted es) s = record { filled = s.filled; few = s.few; each = elements_more es s.each; total = s.total }

-- ---- noise lines of an accepted job

size_few : (n : ℕ) (d : Distribution) → DistributionSound n d → is_wide d ≡ false → size_of d ≤ 255
unfolding DistributionSound is_wide size_of
size_few n (Distribution.single P) s e = omega arith
size_few n (Distribution.depolarizing qs) s e =
    few_elements (length qs) (let h = leb-false 5 (length qs) e in omega (arith, h))
size_few n (Distribution.uniform Ps) s e = omega (arith, s.few)
size_few n (Distribution.weighted es) s e = omega (arith, s.few)

module _ (job : List ℕ) (passes : (check_job job).number ≡ 0) where
  abbrev h : Header
  h = (job_of job).header

  -- a noise line behind some instructions
  module _ (k : ℕ) (text : List ℕ) (g : Gathered) (before : List Placed) (n : NoiseLine)
      (split : (job_of job).instructions ≡ before ++ (gather k text (some (Written.noise n)) g).instructions) where
    pub noise_there : (r : ℕ) × NoiseSound h.qubits r (noise_of n g.elements)
    unfolding gather InstructionSound
    noise_there =
        instruction_behind h 0 before (placed_at k text (Instruction.noise (noise_of n g.elements))) g.instructions
        (rw split at (checked_sound job passes).instructions)

    pub noise_small : wide_kind n.kind ≡ false → n.size ≤ 255
    unfolding noise_of
    noise_small narrow =
        let s = noise_there.1 in
        omega (arith, s.size, size_few h.qubits (distribution_of n.kind g.elements) s.distribution (kind_wide k text g n.kind g.elements ∙ narrow))

    pub noise_fits : first_wide (job_of job).instructions ≡ none → NoiseFits n g.elements
    unfolding noise_of wide_said
    noise_fits none_wide =
        let s = noise_there.1 in
        let here : cond (wide_kind n.kind) (some k) (first_wide g.instructions) ≡ none =
        sym (said_wide k text g (Written.noise n)) ∙ wide_append before _ (sym (ap first_wide split) ∙ none_wide) in
        record {
          distribution = distribution_more h.qubits 256 (checked_sound job passes).header.few_qubits (distribution_of n.kind g.elements) s.distribution;
          size = s.size;
          narrow = not_wide_here (wide_kind n.kind) k (first_wide g.instructions) here;
        }
