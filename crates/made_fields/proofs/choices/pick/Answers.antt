-- `made_fields::choices::pick` meets its contract. Assumes nothing.
use mathlib.Core.Path.{ap}
use Prim.Native.Nat.{ℕ, ◌%◌}
use Rattle.made.specs.Choice.{pick}
use Rattle.made_fields.proofs.choices.pick.Goals as goal

pub returns : goal.returns
unfolding pick
returns c = record { value = ap (λ (w : ℕ). w % c.args.n) c.step-word.ensures; state = c.step-word.ensures }
