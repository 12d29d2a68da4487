-- What it is to inject faults in place, as the code does it. Definitions. Assumes nothing.
use Rattle.std.specs.Prelude.{◌≡◌, Option, Some, None, List, ℕ, ◌*◌, ◌<◌, ◌≤◌, length, drop, Float}
use Rattle.job.specs.Grammar.{header_with}
use Rattle.job.specs.Line.{SparsePauli, Line, Distribution, size_of, Noise}
use Rattle.job.specs.Sound.{PauliSound, DistributionSound}
use Rattle.draws.specs.Draws.{element_at, Lent}
use Rattle.draws.specs.Execute.{States, Executed, inject_shots}
use Rattle.propagator.specs.Acts.{Acts, line_rule}
use Rattle.noise.specs.declared.PauliDistribution.{PauliDistribution}
use Rattle.noise.specs.Kinds.{Small, Chooses, Represents}
use Rattle.noise.specs.Condition.{Masks}
use Rattle.faults.specs.Elements.{AllInside, ElementHeld, DistributionHeld}
use Rattle.execution.specs.Holds.{Holds}

-- ---- one element

-- the words hold an element on n qubits by its two lists
pub record ListedHeld (n : ℕ) (elements : List ℕ) (e : ℕ) : Type 0 where
  pub room : AllInside elements
  pub few : e < 64
  pub pauli : SparsePauli
  pub sound : PauliSound n pauli
  pub held : ElementHeld elements e pauli

-- the words hold the elements of a distribution on n qubits, of which e is one
pub record ElementReady (n : ℕ) (d : PauliDistribution) (elements : List ℕ) (e : ℕ) : Type 0 where
  pub room : AllInside elements
  pub distribution : Distribution
  pub sums : List Float
  pub chooses : Chooses distribution d sums
  pub held : DistributionHeld distribution elements
  pub sound : DistributionSound n distribution
  pub below : e < size_of distribution

-- it was injected in a shot, whatever distribution it is of
pub record ElementInjected (w n shot : ℕ) (d : PauliDistribution) (elements : List ℕ) (e : ℕ) (x z x' z' : List ℕ) : Type 0 where
  pub acts : (D : Distribution) (sums : List Float) → Chooses D d sums → DistributionHeld D elements → e < size_of D → (m : ℕ) (deltas : List ℕ)
      → Acts w (line_rule n m (Line.inject shot (element_at D e))) x z deltas x' z' deltas

-- ---- the faults of a line

-- the values stand for a noise line on so many qubits, whose elements lie in lent words and the shots of whose condition are in a mask
pub record LineReady (n : Noise) (lent : Lent) (w qubits : ℕ) (p : Float) (d : PauliDistribution) (sums : List Float) (elements mask : List ℕ) : Type 0 where
  pub stands : Represents n p d sums
  pub small : Small d
  pub held : DistributionHeld n.distribution elements
  pub sound : DistributionSound qubits n.distribution
  pub masks : Masks w mask n.condition lent.noiseless

pub record FaultsReady (qubits shots w : ℕ) (p : Float) (d : PauliDistribution) (sums : List Float) (elements mask x z : List ℕ) : Type 0 where
  pub noise : Noise
  pub lent : Lent
  pub line : LineReady noise lent w qubits p d sums elements mask
  pub room : AllInside elements
  pub in_words : shots ≤ 64 * w
  pub in_mask : w ≤ length mask
  pub of_x : length x ≡ qubits * w
  pub of_z : length z ≡ qubits * w

-- what execution comes to where these states are left, and the next word has a position, or none where the words are spent
unfoldable pub executed_as : List ℕ → States → Option ℕ → Executed
executed_as words states (Some at) = Executed.done states (drop at words)
executed_as words states None = Executed.spent

-- the position of the next word
unfoldable pub place_of : Option ℕ → ℕ
place_of (Some at) = at
place_of None = 0

-- the words of frames and deltas hold what execution comes to
pub record Injected (o : Executed) (words : List ℕ) (w : ℕ) (x z d : List ℕ) (r : Option ℕ) : Type 0 where
  pub states : States
  pub holds : Holds w x z d states
  pub is : o ≡ executed_as words states r
  pub within : place_of r ≤ length words

-- for every noise line that the values stand for, and all states, whatever the edition and the number of outcomes
pub record FaultsInjected (qubits shots w : ℕ) (p : Float) (d : PauliDistribution) (sums : List Float) (elements mask words x z x' z' : List ℕ) (r : Option ℕ)
    : Type 0 where
  pub by : (edition outcomes : ℕ) (n : Noise) (lent : Lent) → LineReady n lent w qubits p d sums elements mask → (deltas : List ℕ) (states : States)
      → Holds w x z deltas states → Injected (inject_shots (header_with edition qubits outcomes shots) lent n shots 0 words states) words w x' z' deltas r
