-- What the shots of a noise line draw, as the code goes through them. Definitions. Assumes nothing.
use Rattle.std.specs.Prelude.{ℕ, zero, suc, ◌-◌, ◌*◌, ◌<◌, ◌≤◌, ◌≡◌, Bool, true, List, length, get_or, drop, Float}
use Rattle.std.proofs.Math.Option.{none, some}
use Rattle.pauli.specs.Bits.{Bits}
use Rattle.job.specs.Line.{Noise}
use Rattle.draws.specs.Draws.{falls, is_satisfied, ShotDraw, draw_shot_of, Lent}
use Rattle.noise.specs.declared.PauliDistribution.{PauliDistribution}
use Rattle.shots.specs.declared.DrawRule.{DrawRule}
use Rattle.shots.specs.declared.ShotDraw.{ShotDraw as Draw}
use Rattle.shots.specs.declared.ShotDraw.TheVariants as draw
use Rattle.shots.specs.declared.NextFault.{NextFault}
use Rattle.shots.specs.declared.NextFault.TheVariants as next
use Rattle.noise.specs.Kinds.{Represents}
use Rattle.fault_scan.specs.Scan.{threshold_of}
use Rattle.choice.specs.Choice.{Sized}
use Rattle.noise.specs.Condition.{Masks}

-- ---- the rule of a line

-- the threshold is that of p, and the chooser has the size of its distribution
pub record Ruled (r : DrawRule) : Type 0 where
  pub threshold : r.threshold ≡ threshold_of r.p
  pub sized : Sized r.chooser

-- the rule of a line with this p and kind of distribution
pub record RuleOf (p : Float) (d : PauliDistribution) (r : DrawRule) : Type 0 where
  pub probability : r.p ≡ p
  pub kind : r.chooser.distribution ≡ d
  pub ruled : Ruled r

-- ---- one shot

-- the words that are left are those from a position on
unfoldable pub draw_of : List ℕ → Draw → ShotDraw
draw_of words draw.Spent = ShotDraw.spent
draw_of words (draw.Quiet next) = ShotDraw.drew none (drop next words)
draw_of words (draw.Fault e next) = ShotDraw.drew (some e) (drop next words)

-- the position of the next word
unfoldable pub next_of : Draw → ℕ
next_of draw.Spent = 0
next_of (draw.Quiet next) = next
next_of (draw.Fault e next) = next

-- the word at a position, if there is one, brings a fault
abbrev pub FallsAt : Float → List ℕ → ℕ → Type 0
FallsAt p words at = at < length words → falls (get_or words at 0) p ≡ true

-- One shot's draw, from a position of the words on: for every noise line that the values stand for, by whose p the word there brings a fault, and all
-- noiseless bits in which its condition is satisfied or not, as was said.
pub record ShotDrawn (words : List ℕ) (at : ℕ) (d : PauliDistribution) (sums : List Float) (satisfied : Bool) (r : Draw) : Type 0 where
  pub within : next_of r ≤ length words
  pub is : {p : Float} → FallsAt p words at → (n : Noise) (bits : Bits) → Represents n p d sums → is_satisfied n.condition bits ≡ satisfied
      → draw_of words r ≡ draw_shot_of n bits (drop at words)

-- ---- the next fault

-- a shot's element and the words left; or no shot has a fault, with the words left; or a word was needed past the end
pub data FirstFault : Type 0 where
  spent : FirstFault
  quiet : List ℕ → FirstFault
  fault : ℕ → ℕ → List ℕ → FirstFault

unfoldable pub or_later : ℕ → ShotDraw → (List ℕ → FirstFault) → FirstFault
or_later shot ShotDraw.spent later = FirstFault.spent
or_later shot (ShotDraw.drew none ws) later = later ws
or_later shot (ShotDraw.drew (some e) ws) later = FirstFault.fault shot e ws

-- the first fault in so many shots, from one on
unfoldable pub first_fault : Lent → Noise → ℕ → ℕ → List ℕ → FirstFault
first_fault lent n zero shot ws = FirstFault.quiet ws
first_fault lent n (suc left) shot ws = or_later shot (draw_shot_of n (λ id. lent.noiseless id shot) ws) (first_fault lent n left (suc shot))

unfoldable pub fault_of : List ℕ → NextFault → FirstFault
fault_of words next.Spent = FirstFault.spent
fault_of words (next.Done at) = FirstFault.quiet (drop at words)
fault_of words (next.At shot e at) = FirstFault.fault shot.0 e (drop at words)

-- the position of the next word
unfoldable pub word_after : NextFault → ℕ
word_after next.Spent = 0
word_after (next.Done at) = at
word_after (next.At shot e at) = at

-- the shot of the fault, if there is one, is one of those that are left
unfoldable pub InShots : ℕ → ℕ → NextFault → Type 0
InShots shot shots next.Spent = Unit
InShots shot shots (next.Done at) = Unit
InShots shot shots (next.At s e at) = (shot ≤ s.0) × (s.0 < shots)

-- The next fault in the shots from one on, from a position of the words on: for every noise line that the values stand for, where the mask has the
-- shots in which its condition is satisfied.
pub record FaultFound (words : List ℕ) (at : ℕ) (mask : List ℕ) (shot shots : ℕ) (p : Float) (d : PauliDistribution) (sums : List Float) (r : NextFault)
    : Type 0 where
  pub within : word_after r ≤ length words
  pub in_shots : InShots shot shots r
  pub is : (n : Noise) (lent : Lent) (w : ℕ) → Represents n p d sums → shots ≤ 64 * w → Masks w mask n.condition lent.noiseless
      → fault_of words r ≡ first_fault lent n (shots - shot) shot (drop at words)
