-- `shots::is_set` meets its contract.
use mathlib.Core.Path.{refl}
use Rattle.pauli.specs.Bits.{bit}
use Rattle.shots.proofs.is_set.Goals as goal

pub returns : goal.returns
unfolding bit
returns c = refl
