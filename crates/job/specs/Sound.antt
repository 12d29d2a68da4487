-- Definitions: what an accepted job is known for, the hypotheses that theorems and contracts use. The limits are document 01's, written out, so that
-- they do not depend on the tests' own. `checked_sound` (Theorems) proves all of it of a job that passes the tests of a job. Assumes nothing.
use Rattle.std.specs.Prelude.{ℕ, zero, suc, ◌+◌, ◌*◌, ◌^◌, ◌≤◌, ◌<◌, ◌≡◌, Bool, true, false, ◌⊎◌, List, [], ◌∷◌, ◌++◌, map, Float, length}
use Rattle.std.proofs.Math.Option.{Option, none, some}
use Rattle.text.specs.Bytes.{lines}
use Rattle.text.specs.List.{is_rising_of}
use Rattle.pauli.specs.Pauli.{anticommutes}
use Rattle.pauli.specs.Gate.{Gate, operands_of}
use Rattle.job.specs.declared.Header.{Header}
use Rattle.job.specs.Line.{SparsePauli, pauli_of, Line, WeightedPauli, Distribution, size_of, Noise, Instruction, Placed}
use Rattle.job.specs.Float.{float, zero_float, total_from, is_probability, is_weight_of, is_total}
use Rattle.job.specs.Clifford.{is_clifford_of}
use Rattle.job.specs.Grammar.{Kind, NoiseLine, Written, read_line_of}
use Rattle.job.specs.Checks.{element_lines_of, all_below, distinct, is_permutation}
use Rattle.job.specs.Job.{well_ended_of, noise_of, gathered, Job, recorded_by, recorded_in}

-- ---- lists

-- An L of numbers below n: strictly rising, at most 31.
pub record RisingBelow (n : ℕ) (l : List ℕ) : Type 0 where
  pub rising : is_rising_of l ≡ true
  pub below : all_below n l ≡ true
  pub few : length l ≤ 31

-- A Q of operands below n: none twice, 1 to 31.
pub record Operands (n : ℕ) (qs : List ℕ) : Type 0 where
  pub filled : 1 ≤ length qs
  pub few : length qs ≤ 31
  pub apart : distinct qs ≡ true
  pub below : all_below n qs ≡ true

-- every element of a list
abbrev pub Every : {A : Type 0} → (A → Type 0) → List A → Type 0
Every P [] = Unit {0}
Every P (a ∷ l) = P a × Every P l

-- some element of a list
abbrev pub Any : {A : Type 0} → (A → Type 0) → List A → Type 0
Any P [] = ⊥
Any P (a ∷ l) = P a ⊎ Any P l

-- ---- lines

-- a Pauli on n qubits
pub record PauliSound (n : ℕ) (P : SparsePauli) : Type 0 where
  pub x : RisingBelow n P.x
  pub z : RisingBelow n P.z

-- ControlledY stands in jobs of the second edition alone
pub record UnitarySound (h : Header) (g : Gate) (qs : List ℕ) : Type 0 where
  pub operands : Operands h.qubits qs
  pub count : length qs ≡ operands_of g
  pub known : g ≡ Gate.ControlledY → h.edition ≡ 2

pub record CliffordSound (n : ℕ) (qs : List ℕ) (t : ℕ) : Type 0 where
  pub operands : Operands n qs
  pub few : length qs ≤ 8
  pub table : is_clifford_of (length qs) t ≡ true
  -- unused bits are zero
  pub small : t < 2 ^ (4 * (length qs * length qs))

pub record ControlledSound (n : ℕ) (C T : SparsePauli) : Type 0 where
  pub control : PauliSound n C
  pub target : PauliSound n T
  pub commute : anticommutes n (pauli_of C) (pauli_of T) ≡ false

pub record PermuteSound (n : ℕ) (s qs : List ℕ) : Type 0 where
  pub operands : Operands n qs
  pub places : is_permutation (length qs) s ≡ true

-- the next id, of so many outcomes
pub record NextOutcome (outcomes recorded id : ℕ) : Type 0 where
  pub next : id ≡ recorded
  pub below : id < outcomes

pub record MeasureSound (h : Header) (recorded : ℕ) (P : SparsePauli) (id : ℕ) : Type 0 where
  pub observable : PauliSound h.qubits P
  pub outcome : NextOutcome h.outcomes recorded id

pub record ConditionalSound (n recorded : ℕ) (P : SparsePauli) (ids : List ℕ) : Type 0 where
  pub pauli : PauliSound n P
  pub known : RisingBelow recorded ids

-- so does a reset of several qubits, and a barrier
pub record ResetSound (h : Header) (qs : List ℕ) : Type 0 where
  pub operands : Operands h.qubits qs
  pub several : 2 ≤ length qs → h.edition ≡ 2

pub record BarrierSound (h : Header) (qs : List ℕ) : Type 0 where
  pub operands : Operands h.qubits qs
  pub second : h.edition ≡ 2

pub record InjectSound (h : Header) (shot : ℕ) (P : SparsePauli) : Type 0 where
  pub within : shot < h.shots
  pub pauli : PauliSound h.qubits P

pub record FlipSound (shots recorded shot id : ℕ) : Type 0 where
  pub within : shot < shots
  pub known : id < recorded

-- A line of a job with this header, where so many outcomes are recorded before it.
unfoldable pub LineSound : Header → ℕ → Line → Type 0
LineSound h r (Line.unitary g qs) = UnitarySound h g qs
LineSound h r (Line.clifford qs t) = CliffordSound h.qubits qs t
LineSound h r (Line.pauli P) = PauliSound h.qubits P
LineSound h r (Line.exponential P) = PauliSound h.qubits P
LineSound h r (Line.controlled C T) = ControlledSound h.qubits C T
LineSound h r (Line.permute s qs) = PermuteSound h.qubits s qs
LineSound h r (Line.measure P id) = MeasureSound h r P id
LineSound h r (Line.allocate id angle) = NextOutcome h.outcomes r id
LineSound h r (Line.conditional P ids par) = ConditionalSound h.qubits r P ids
LineSound h r (Line.reset qs) = ResetSound h qs
LineSound h r (Line.inject shot P) = InjectSound h shot P
LineSound h r (Line.flip shot id) = FlipSound h.shots r shot id
LineSound h r (Line.barrier qs) = BarrierSound h qs

-- ---- noise

-- a number, or none
unfoldable pub SmallOption : Option ℕ → Type 0
SmallOption none = Unit {0}
SmallOption (some c) = c < 2 ^ 64

-- a weight: not below zero, and finite
pub record WeightSound (e : WeightedPauli) : Type 0 where
  pub weight : is_weight_of (float e.weight) ≡ true
  pub small : e.weight < 2 ^ 64

-- an element with its weight
pub record ElementSound (n : ℕ) (e : WeightedPauli) : Type 0 where
  pub pauli : PauliSound n e.pauli
  pub weight : is_weight_of (float e.weight) ≡ true
  pub small : e.weight < 2 ^ 64

abbrev pub weights_of : List WeightedPauli → List Float
weights_of = map (λ (e : WeightedPauli). float e.weight)

pub record UniformSound (n : ℕ) (Ps : List SparsePauli) : Type 0 where
  pub filled : 1 ≤ length Ps
  pub few : length Ps ≤ 64
  pub each : Every (PauliSound n) Ps

pub record WeightedSound (n : ℕ) (es : List WeightedPauli) : Type 0 where
  pub filled : 1 ≤ length es
  pub few : length es ≤ 64
  pub each : Every (ElementSound n) es
  -- the total is above zero, and finite
  pub total : is_total (total_from zero_float (weights_of es)) ≡ true

unfoldable pub DistributionSound : ℕ → Distribution → Type 0
DistributionSound n (Distribution.single P) = PauliSound n P
DistributionSound n (Distribution.depolarizing qs) = Operands n qs
DistributionSound n (Distribution.uniform Ps) = UniformSound n Ps
DistributionSound n (Distribution.weighted es) = WeightedSound n es

-- A noise instruction of a job on n qubits, where so many outcomes are recorded before it.
pub record NoiseSound (n recorded : ℕ) (i : Noise) : Type 0 where
  pub probability : is_probability (float i.probability) ≡ true
  pub small : i.probability < 2 ^ 64
  pub correlation : SmallOption i.correlation
  pub outcomes : RisingBelow recorded i.condition.outcomes
  -- where the condition is none, the parity is 0
  pub parity : length i.condition.outcomes ≡ 0 → i.condition.parity ≡ false
  pub distribution : DistributionSound n i.distribution
  -- the size written is the distribution's
  pub size : i.size ≡ size_of i.distribution

-- ---- the job

unfoldable pub InstructionSound : Header → ℕ → Instruction → Type 0
InstructionSound h r (Instruction.line l) = LineSound h r l
InstructionSound h r (Instruction.noise i) = NoiseSound h.qubits r i

-- a noise instruction says the size of its distribution
unfoldable pub SizeSaid : Instruction → Type 0
SizeSaid (Instruction.line l) = Unit {0}
SizeSaid (Instruction.noise i) = i.size ≡ size_of i.distribution

-- the instructions in order, each with the number of outcomes recorded before it
unfoldable pub InstructionsSound : Header → ℕ → List Placed → Type 0
InstructionsSound h r [] = Unit {0}
InstructionsSound h r (i ∷ is) = InstructionSound h r i.instruction × InstructionsSound h (r + recorded_by i.instruction) is

-- a noise instruction is what the bytes of its line say, with as many elements as the line says
pub record NoiseSaid (text : List ℕ) (i : Noise) : Type 0 where
  pub line : NoiseLine
  pub elements : List WeightedPauli
  pub reads : read_line_of text ≡ some (Written.noise line)
  pub count : length elements ≡ element_lines_of line.kind
  pub is : i ≡ noise_of line elements

unfoldable pub SaidBy : List ℕ → Instruction → Type 0
SaidBy text (Instruction.line l) = read_line_of text ≡ some (Written.line l)
SaidBy text (Instruction.noise i) = NoiseSaid text i

-- ---- lists of instructions, without their places

abbrev pub instructions_of : List Placed → List Instruction
instructions_of = map (λ (i : Placed). i.instruction)

-- the instructions in order, each with the number of outcomes recorded before it
unfoldable pub ListSound : Header → ℕ → List Instruction → Type 0
ListSound h r [] = Unit {0}
ListSound h r (i ∷ is) = InstructionSound h r i × ListSound h (r + recorded_by i) is

-- whether the element lines of a kind have weights, and the weight as such a line says it
unfoldable pub has_weights_of : Kind → Bool
has_weights_of (Kind.single P) = false
has_weights_of (Kind.depolarizing qs) = false
has_weights_of (Kind.uniform n) = false
has_weights_of (Kind.weighted n) = true

unfoldable pub said_weight : Bool → ℕ → Option ℕ
said_weight true w = some w
said_weight false w = none

-- texts that say elements, one to a line
unfoldable pub ElementsSaid : Bool → List (List ℕ) → List WeightedPauli → Type 0
ElementsSaid weights [] [] = Unit {0}
ElementsSaid weights [] (e ∷ es) = ⊥
ElementsSaid weights (t ∷ ts) [] = ⊥
ElementsSaid weights (t ∷ ts) (e ∷ es) = (read_line_of t ≡ some (Written.element (said_weight weights e.weight) e.pauli)) × ElementsSaid weights ts es

-- a noise line with its elements
pub record NoiseRead (t : List ℕ) (us : List (List ℕ)) (n : NoiseLine) (es : List WeightedPauli) : Type 0 where
  pub line : read_line_of t ≡ some (Written.noise n)
  pub count : length es ≡ element_lines_of n.kind
  pub elements : ElementsSaid (has_weights_of n.kind) us es

-- Texts that say instructions in order: a line is one text; noise is the text of its line and, behind it, those of as many elements as the line says.
pub data SaidAs : List (List ℕ) → List Instruction → Type 0 where
  nothing : SaidAs [] []
  line : (t : List ℕ) (ts : List (List ℕ)) (l : Line) (is : List Instruction) → read_line_of t ≡ some (Written.line l) → SaidAs ts is
      → SaidAs (t ∷ ts) (Instruction.line l ∷ is)
  noise : (t : List ℕ) (us ts : List (List ℕ)) (n : NoiseLine) (es : List WeightedPauli) (is : List Instruction) → NoiseRead t us n es → SaidAs ts is
      → SaidAs (t ∷ us ++ ts) (Instruction.noise (noise_of n es) ∷ is)

-- lines in order, for jobs without noise
unfoldable pub LinesSound : Header → ℕ → List Line → Type 0
LinesSound h r [] = Unit {0}
LinesSound h r (l ∷ ls) = LineSound h r l × LinesSound h (r + recorded_by (Instruction.line l)) ls

-- the ids that lines record, in their order
unfoldable pub ids_of : Instruction → List ℕ
ids_of (Instruction.line (Line.unitary g qs)) = []
ids_of (Instruction.line (Line.clifford qs t)) = []
ids_of (Instruction.line (Line.pauli P)) = []
ids_of (Instruction.line (Line.exponential P)) = []
ids_of (Instruction.line (Line.controlled C T)) = []
ids_of (Instruction.line (Line.permute s qs)) = []
ids_of (Instruction.line (Line.measure P id)) = id ∷ []
ids_of (Instruction.line (Line.allocate id angle)) = id ∷ []
ids_of (Instruction.line (Line.conditional P ids par)) = []
ids_of (Instruction.line (Line.reset qs)) = []
ids_of (Instruction.line (Line.inject shot P)) = []
ids_of (Instruction.line (Line.flip shot id)) = []
ids_of (Instruction.line (Line.barrier qs)) = []
ids_of (Instruction.noise n) = []

unfoldable pub ids_in : List Placed → List ℕ
ids_in [] = []
ids_in (i ∷ is) = ids_of i.instruction ++ ids_in is

-- so many numbers, from one on
unfoldable pub count_up : ℕ → ℕ → List ℕ
count_up from zero = []
count_up from (suc n) = from ∷ count_up (suc from) n

-- edition 1 or 2, 1 to 256 qubits, 0 to 1,024 outcomes, 1 to 4,096 shots
pub record HeaderSound (h : Header) : Type 0 where
  pub some_edition : 1 ≤ h.edition
  pub two_editions : h.edition ≤ 2
  pub some_qubits : 1 ≤ h.qubits
  pub few_qubits : h.qubits ≤ 256
  pub few_outcomes : h.outcomes ≤ 1024
  pub some_shots : 1 ≤ h.shots
  pub few_shots : h.shots ≤ 4096

-- an instruction of no form that the second edition adds
pub record FirstEdition (i : Instruction) : Type 0 where
  pub no_controlled_Y : (qs : List ℕ) → i ≡ Instruction.line (Line.unitary Gate.ControlledY qs) → ⊥
  pub one_reset : (qs : List ℕ) → i ≡ Instruction.line (Line.reset qs) → length qs ≡ 1
  pub no_barrier : (qs : List ℕ) → i ≡ Instruction.line (Line.barrier qs) → ⊥

pub record JobSound (job : List ℕ) (j : Job) : Type 0 where
  pub ended : well_ended_of job ≡ true
  pub few_bytes : length job ≤ 1048576
  -- the first line is the header, and the instructions are gathered of the others
  pub rest : List (List ℕ)
  pub split : lines job ≡ j.text ∷ rest
  pub reads : read_line_of j.text ≡ some (Written.header j.header)
  pub gathers : j.instructions ≡ (gathered 2 rest).instructions
  pub header : HeaderSound j.header
  pub instructions : InstructionsSound j.header 0 j.instructions
  pub texts : Every (λ (p : Placed). SaidBy p.text p.instruction) j.instructions
  -- the ids recorded are 0, 1, 2 and so on, each below outcomes
  pub ids : ids_in j.instructions ≡ count_up 0 (recorded_in j.instructions)
  pub recorded : recorded_in j.instructions ≤ j.header.outcomes
