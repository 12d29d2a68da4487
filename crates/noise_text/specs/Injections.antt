-- The injections that stand for a noise line, as they are put into lent bytes. Definitions. Assumes nothing.
use Rattle.std.specs.Prelude.{◌≡◌, Result, Ok, Err, List, map, ℕ, ◌+◌, ◌*◌, ◌≤◌, ◌<◌, length, drop, Float}
use Rattle.text.specs.Bytes.{unlines}
use Rattle.job.specs.Line.{Distribution, size_of, Noise}
use Rattle.job.specs.Sound.{DistributionSound}
use Rattle.writer.specs.Placed.{Puts}
use Rattle.draws.specs.Draws.{element_at, Lent, Draws}
use Rattle.draws.specs.Settle.{SettledLine, injection, Step}
use Rattle.noise.specs.declared.PauliDistribution.{PauliDistribution}
use Rattle.std.specs.Prelude.{Option as Given}
use Rattle.noise.specs.Kinds.{correlation_of, Small, Represents}
use Rattle.noise.specs.Condition.{Masks}
use Rattle.noise_text.specs.declared.Drawn.{Drawn}
use Rattle.noise_text.specs.declared.Spent.{Spent}
use Rattle.noise_text.specs.Elements.{element_in, ElementIn}

-- ---- what is put

-- the text of settled lines, each with its LF
abbrev pub text_of : List SettledLine → List ℕ
text_of ls = unlines (map (λ (l : SettledLine). l.text) ls)

-- The lines were put from a place on, for draws from these words. These words are left. An injection has at most 1,342 bytes.
pub record PutTo (words : List ℕ) (from shots : ℕ) (out : List ℕ) (ls : List SettledLine) (left after : List ℕ) (r : Result Drawn Spent) : Type 0 where
  pub next : ℕ
  pub place : ℕ
  pub is : r ≡ Ok (record { position = next; text = place })
  pub within : next ≤ length words
  pub rest : left ≡ drop next words
  pub puts : Puts from (text_of ls) out after place
  pub few : place ≤ from + 1342 * shots

-- a word was needed past the end, and these words are left
pub record SpentTo (words left : List ℕ) (r : Result Drawn Spent) : Type 0 where
  pub next : ℕ
  pub is : r ≡ Err (record { position = next })
  pub within : next ≤ length words
  pub rest : left ≡ drop next words

-- what an instruction comes to was put, or it is spent, and leaves this
unfoldable pub PutAs : List ℕ → ℕ → ℕ → List ℕ → List ℕ → Step → List ℕ → Result Drawn Spent → Type 0
PutAs words from shots out spent Step.spent after r = SpentTo words spent r
PutAs words from shots out spent (Step.lines ls left) after r = PutTo words from shots out ls left after r

pub record StepPut (words : List ℕ) (from shots : ℕ) (out spent : List ℕ) (step : Step) (after : List ℕ) (r : Result Drawn Spent) : Type 0 where
  pub put : PutAs words from shots out spent step after r

-- what draws come to
unfoldable pub injected : Distribution → Draws → Step
injected D Draws.spent = Step.spent
injected D (Draws.drawn fs left) = Step.lines (map (injection D) fs) left

-- ---- what is known

-- The values stand for a noise line of an accepted job, whose elements are in the lent words, and the mask has the shots in which its condition is satisfied.
pub record Ready (p : Float) (d : PauliDistribution) (sums : List Float) (mask elements : List ℕ) (shots : ℕ) : Type 0 where
  pub noise : Noise
  pub lent : Lent
  pub width : ℕ
  pub qubits : ℕ
  pub stands : Represents noise p d sums
  pub small : Small d
  pub sound : DistributionSound qubits noise.distribution
  pub satisfied : Masks width mask noise.condition lent.noiseless
  pub fits : shots ≤ 64 * width
  pub masked : shots ≤ 64 * length mask
  pub inside : (e : ℕ) → e < size_of noise.distribution → ElementIn d elements e
  pub held : (e : ℕ) → e < size_of noise.distribution → element_in d elements e ≡ element_at noise.distribution e

-- and so do the two lists of draws
pub record ReadyOf (p : Float) (d : PauliDistribution) (sums : List Float) (mask elements : List ℕ) (shots : ℕ) (correlation : Given ℕ) (second : List ℕ)
    (base : ℕ) : Type 0 where
  pub ready : Ready p d sums mask elements shots
  pub correlated : correlation_of correlation ≡ ready.noise.correlation
  pub second_is : ready.lent.second ≡ second
  pub base_is : ready.lent.base ≡ base
  pub shots_are : ready.lent.shots ≡ shots
