-- A noise line by value, as lent words hold its values. Definitions. Assumes nothing.
use Rattle.std.specs.Prelude.{ℕ, ◌≤◌, ◌<◌, ◌≡◌, Option, List, length, take, Float}
use Rattle.text.specs.Template.{Value, number_at, list_at_of}
use Rattle.template.specs.Fields.{Held}
use Rattle.job.specs.Float.{float}
use Rattle.job.specs.Grammar.{Kind, NoiseLine, Written, is_one, optional}
use Rattle.reader.specs.declared.Form.{Form}
use Rattle.reader.specs.Parsed.{Said}
use Rattle.noise.specs.declared.PauliDistribution.{PauliDistribution}
use Rattle.noise.specs.declared.PauliDistribution.TheVariants.{Single, Depolarizing, Uniform, Weighted}
use Rattle.noise.specs.declared.OutcomeCondition.{OutcomeCondition}
use Rattle.noise.specs.declared.PauliFault.{PauliFault}
use Rattle.noise.specs.Kinds.{correlation_of}

-- the kind that a noise line says; the weighted one has this total
unfoldable pub kind_by : Kind → Float → PauliDistribution
kind_by (Kind.single P) t = Single
kind_by (Kind.depolarizing qs) t = Depolarizing (length qs)
kind_by (Kind.uniform n) t = Uniform n
kind_by (Kind.weighted n) t = Weighted t

-- corr is the first list of a noise line
pub record CorrelationHeld (words : List ℕ) (r : Option ℕ) : Type 0 where
  pub is : (a b : ℕ) (vs : List Value) → Held words a b vs → 0 < b → correlation_of r ≡ optional (list_at_of 0 vs)

-- cond is the second list, and parity the second number
pub record ConditionIs (outcomes : List ℕ) (parity : ℕ) (r : OutcomeCondition) : Type 0 where
  pub count : r.count ≡ length outcomes
  pub outcomes_are : take r.count r.outcomes ≡ outcomes
  pub parity_is : r.parity ≡ parity

pub record ConditionHeld (words : List ℕ) (r : OutcomeCondition) : Type 0 where
  pub is : (a b : ℕ) (vs : List Value) → Held words a b vs → 1 < a → 1 < b → length (list_at_of 1 vs) ≤ 31 → ConditionIs (list_at_of 1 vs) (number_at 1 vs) r

-- what the struct says of a noise line
pub record FaultOf (n : NoiseLine) (total : Float) (r : PauliFault) : Type 0 where
  pub probability : r.probability ≡ float n.probability
  pub distribution : r.distribution ≡ kind_by n.kind total
  pub correlation : correlation_of r.correlation ≡ n.correlation
  pub count : r.condition.count ≡ length n.condition.outcomes
  pub outcomes : take r.condition.count r.condition.outcomes ≡ n.condition.outcomes
  pub parity : is_one r.condition.parity ≡ n.condition.parity

pub record FaultHeld (form : Form) (words : List ℕ) (total : Float) (r : PauliFault) : Type 0 where
  pub is : (vs : List Value) (n : NoiseLine) → Said form words vs (Written.noise n) → length n.condition.outcomes ≤ 31 → FaultOf n total r
