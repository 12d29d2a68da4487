-- No refusal has the number 0. Laws. Assumes nothing.
use Rattle.std.specs.Prelude.{◌<◌, ◌≡◌, Result, Ok, Err}
use Rattle.std.proofs.Common.{arith, ap, sym, ◌∙◌}
use Rattle.job.specs.declared.refusals.Refusal.{Refusal}
use Rattle.job.specs.declared.refusals.Refusal.TheVariants.{Length, Form, Header, Qubit, Operands, Permutation, Clifford, NextId, NotRecorded, Shot, Probability, Elements, Words, Draws, Room, Noise, Walk, Annotation, Sizes, Control, Size, Seed, Edition, Groups, Shares, Caller}
use Rattle.job.specs.Refusals.{number_of, refusal_in}

pub number_above : (r : Refusal) → 0 < number_of r
number_above Length = omega arith
number_above Form = omega arith
number_above Header = omega arith
number_above Qubit = omega arith
number_above Operands = omega arith
number_above Permutation = omega arith
number_above Clifford = omega arith
number_above NextId = omega arith
number_above NotRecorded = omega arith
number_above Shot = omega arith
number_above Probability = omega arith
number_above Elements = omega arith
number_above Words = omega arith
number_above Draws = omega arith
number_above Room = omega arith
number_above Noise = omega arith
number_above Walk = omega arith
number_above Annotation = omega arith
number_above Sizes = omega arith
number_above Control = omega arith
number_above Size = omega arith
number_above Seed = omega arith
number_above Edition = omega arith
number_above Groups = omega arith
number_above Shares = omega arith
number_above Caller = omega arith

module _ {r : Result (Unit {0}) Refusal} where
  pub was_refused : {x : Refusal} → r ≡ Err x → refusal_in r ≡ 0 → ⊥
  was_refused {x} e h = omega (arith, number_above x, sym (ap refusal_in e) ∙ h)

  pub was_passed : {u : Unit {0}} → r ≡ Ok u → refusal_in r ≡ 0
  was_passed e = ap refusal_in e
