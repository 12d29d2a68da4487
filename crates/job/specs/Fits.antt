-- What a line is known for by its form alone: L rises, Q is not empty, the numbers that later laws need are below 2^64. Definitions, for laws and for
-- contracts inside. Assumes nothing.
use Rattle.std.specs.Prelude.{ℕ, ◌^◌, ◌<◌, ◌≡◌, false, length}
use Rattle.std.proofs.Math.Option.{Option, none, some}
use Rattle.text.specs.Written.{FitL, FitQ}
use Rattle.job.specs.Line.{SparsePauli, Line}
use Rattle.job.specs.Sound.{SmallOption}
use Rattle.job.specs.Grammar.{Kind, NoiseLine, Written}

pub record PauliFits (P : SparsePauli) : Type 0 where
  pub x : FitL P.x
  pub z : FitL P.z

unfoldable pub LineFits : Line → Type 0
LineFits (Line.unitary g qs) = FitQ qs
LineFits (Line.clifford qs t) = FitQ qs
LineFits (Line.pauli P) = PauliFits P
LineFits (Line.exponential P) = PauliFits P
LineFits (Line.controlled C T) = PauliFits C × PauliFits T
LineFits (Line.permute s qs) = FitQ s × FitQ qs
LineFits (Line.measure P id) = PauliFits P × (id < 2 ^ 64)
LineFits (Line.allocate id angle) = id < 2 ^ 64
LineFits (Line.conditional P ids par) = PauliFits P × FitL ids
LineFits (Line.reset qs) = FitQ qs
LineFits (Line.inject shot P) = (shot < 2 ^ 64) × PauliFits P
LineFits (Line.flip shot id) = (shot < 2 ^ 64) × (id < 2 ^ 64)
LineFits (Line.barrier qs) = FitQ qs

unfoldable pub KindFits : Kind → Type 0
KindFits (Kind.single P) = PauliFits P
KindFits (Kind.depolarizing qs) = FitQ qs
KindFits (Kind.uniform n) = n < 2 ^ 64
KindFits (Kind.weighted n) = n < 2 ^ 64

pub record NoiseFits (n : NoiseLine) : Type 0 where
  pub probability : n.probability < 2 ^ 64
  pub correlation : SmallOption n.correlation
  pub outcomes : FitL n.condition.outcomes
  pub parity : length n.condition.outcomes ≡ 0 → n.condition.parity ≡ false
  pub kind : KindFits n.kind

unfoldable pub WrittenFits : Written → Type 0
WrittenFits (Written.header h) = Unit {0}
WrittenFits (Written.line l) = LineFits l
WrittenFits (Written.noise n) = NoiseFits n
WrittenFits (Written.element w P) = SmallOption w × PauliFits P

-- of a line that has no form nothing is claimed
unfoldable pub SaidFits : Option Written → Type 0
SaidFits none = Unit {0}
SaidFits (some w) = WrittenFits w
