-- What the enum of a number says. Laws. Assumes nothing.
use Rattle.std.specs.Prelude.{ℕ, ◌≡◌}
use Rattle.std.proofs.Common.{ap}
use Rattle.std.proofs.Math.Option.{none, some}
use Rattle.std.specs.Prelude.{Option as Answer, Some, None}
use Rattle.numbers.specs.Read.{read}

pub read_of : {v : Answer ℕ} {n : ℕ} → v ≡ Some n → read v ≡ some n
unfolding read
read_of e = ap read e

pub read_bad : {v : Answer ℕ} → v ≡ None → read v ≡ none
unfolding read
read_bad e = ap read e
