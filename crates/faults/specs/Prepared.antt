-- A noise line with its element lines, made ready for its draws. Definitions. Assumes nothing.
use Rattle.std.specs.Prelude.{ℕ, ◌+◌, ◌*◌, ◌≤◌, ◌<◌, ◌≡◌, Bool, List, length, get_or, take, Float}
use Rattle.text.specs.Template.{Value}
use Rattle.template.specs.Values.{Whole}
use Rattle.job.specs.declared.Header.{Header}
use Rattle.job.specs.Line.{WeightedPauli, Noise, Placed}
use Rattle.job.specs.Grammar.{NoiseLine, Written}
use Rattle.job.specs.Checks.{element_lines_of}
use Rattle.job.specs.Job.{noise_of}
use Rattle.job.specs.Sound.{NoiseSound, weights_of}
use Rattle.reader.specs.declared.Form.{Form}
use Rattle.reader.specs.Parsed.{Said}
use Rattle.instructions.specs.declared.LineRead.{LineRead}
use Rattle.instructions.specs.Ahead.{instructions_at, Ahead, Among, has_weights_of}
use Rattle.draws.specs.Draws.{no_pauli}
use Rattle.rows.specs.Words.{bit_in}
use Rattle.noise.specs.Kinds.{correlation_of, Small, Represents}
use Rattle.noise.specs.Condition.{Masks}
use Rattle.faults.specs.declared.Prepared.{Prepared}
use Rattle.faults.specs.Elements.{AllInside, ElementHeld, DistributionHeld}
use Rattle.faults.specs.Line.{FaultOf}

-- ---- element lines

-- At `at` begin n element lines of an accepted job, and behind them the instructions `rest`.
pub record ElementLines (job : List ℕ) (at n : ℕ) (weighted : Bool) : Type 0 where
  pub header : Header
  pub recorded : ℕ
  pub elements : List WeightedPauli
  pub rest : List Placed
  pub line : ℕ
  pub count : length elements ≡ n
  pub among : Among job header recorded weighted elements rest line at 0

-- Of the elements, the first i were read and kept, up to a place of the job.
pub record Gathered {job : List ℕ} {at n : ℕ} {weighted : Bool} (q : ElementLines job at n weighted) (elements : List ℕ) (weights : List Float) (place i : ℕ)
    : Type 0 where
  pub among : Among job q.header q.recorded weighted q.elements q.rest q.line place i
  pub weighed : take i weights ≡ weights_of (take i q.elements)
  pub held : (e : ℕ) → e < i → ElementHeld elements e (get_or q.elements e (record { weight = 0; pauli = no_pauli })).pauli

-- ---- a noise line

-- The words hold the values of a noise line of an accepted job. Its element lines begin at `at`, with the line of that number, and behind them stand the
-- instructions `rest`. The noiseless bits lie w words a row.
pub record NoiseLines (job : List ℕ) (at : ℕ) (form : Form) (words noiseless : List ℕ) (w : ℕ) : Type 0 where
  pub header : Header
  pub recorded : ℕ
  pub noise : NoiseLine
  pub values : List Value
  pub said : Said form words values (Written.noise noise)
  pub elements : List WeightedPauli
  pub count : length elements ≡ element_lines_of noise.kind
  pub few : length elements ≤ 64
  pub sound : NoiseSound header.qubits recorded (noise_of noise elements)
  pub rest : List Placed
  pub line : ℕ
  pub among : Among job header recorded (has_weights_of noise.kind) elements rest line at 0
  pub rows : header.outcomes * w ≤ length noiseless

-- a noise line of an accepted job was read, with so many element lines behind it
pub record SomeNoise (job : List ℕ) (line : LineRead) (words : List ℕ) (n : ℕ) : Type 0 where
  pub noiseless : List ℕ
  pub width : ℕ
  pub lines : NoiseLines job (line.end + 1) line.form words noiseless width
  pub count : (vs : List Value) (k : NoiseLine) → Said line.form words vs (Written.noise k) → n ≡ element_lines_of k.kind

-- the lent words and floats suffice for n elements
pub record FaultRoom (n : ℕ) (words elements : List ℕ) (sums weights : List Float) : Type 0 where
  pub of_values : Whole words
  pub of_elements : AllInside elements
  pub of_sums : length sums ≡ n
  pub of_weights : length weights ≡ n

-- and for any noise line and its mask
pub record Room (words elements : List ℕ) (sums weights : List Float) (mask : List ℕ) (w : ℕ) : Type 0 where
  pub of_values : Whole words
  pub of_elements : AllInside elements
  pub of_sums : 64 ≤ length sums
  pub of_weights : 64 ≤ length weights
  pub of_mask : w ≤ length mask

module _ {job : List ℕ} {at : ℕ} {form : Form} {words noiseless : List ℕ} {w : ℕ} (q : NoiseLines job at form words noiseless w) where
  -- the noise instruction
  abbrev pub noise_in : Noise
  noise_in = noise_of q.noise q.elements

  -- Its values and its elements were read, and the job can be read on behind them.
  pub record FaultRead (elements : List ℕ) (sums : List Float) (r : Prepared) : Type 0 where
    pub lines : r.element_lines ≡ length q.elements
    pub ahead : Ahead job q.header q.recorded (q.line + r.element_lines) r.behind
    pub instructions : instructions_at job (q.line + r.element_lines) r.behind ≡ q.rest
    pub total : Float
    pub fault : FaultOf q.noise total r.fault
    pub stands : Represents noise_in r.fault.probability r.fault.distribution sums
    pub held : DistributionHeld noise_in.distribution elements

  -- It is ready for its draws, and the job can be read on behind it.
  pub record PreparedAs (elements : List ℕ) (sums : List Float) (mask : List ℕ) (r : Prepared) : Type 0 where
    pub lines : r.element_lines ≡ length q.elements
    pub ahead : Ahead job q.header q.recorded (q.line + r.element_lines) r.behind
    pub instructions : instructions_at job (q.line + r.element_lines) r.behind ≡ q.rest
    pub stands : Represents noise_in r.fault.probability r.fault.distribution (take r.element_lines sums)
    pub small : Small r.fault.distribution
    pub correlation : correlation_of r.fault.correlation ≡ noise_in.correlation
    pub held : DistributionHeld noise_in.distribution elements
    pub satisfied : Masks w mask noise_in.condition (bit_in w noiseless)
