-- Choices by the words that they take, one after the other, for code that makes them. Laws. Assumes nothing.
use Rattle.std.specs.Prelude.{◌≡◌, refl, List, [], ◌∷◌, ℕ, ◌%◌, length}
use Rattle.std.proofs.Common.{arith}
use Rattle.stream.specs.Stream.{step}
use Rattle.made.specs.Choice.{Chosen, given, pick}
use Rattle.made.specs.Making.{parity}

abbrev pub chosen : {A : Type 0} → A → ℕ → Chosen A
chosen a state = record { value = a; state = state }

pub pick_is : (n state : ℕ) → pick n state ≡ chosen (step state % n) (step state)
unfolding pick
pick_is n state = refl

-- ---- the parity of a condition

pub parity_none : (ids : List ℕ) (state : ℕ) → length ids ≡ 0 → parity ids state ≡ chosen 0 state
unfolding parity given
parity_none [] state e = refl
parity_none (id ∷ ids) state e = absurd (omega (arith, e))

pub parity_some : (ids : List ℕ) (state : ℕ) → (length ids ≡ 0 → ⊥) → parity ids state ≡ chosen (step state % 2) (step state)
unfolding parity pick
parity_some [] state e = absurd (e refl)
parity_some (id ∷ ids) state e = refl
