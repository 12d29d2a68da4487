-- Words of frames and deltas that hold the states of shots. Definitions. Assumes nothing.
use Rattle.std.specs.Prelude.{◌≡◌, List, ℕ, ◌/◌, ◌<◌}
use Rattle.draws.specs.Execute.{States}
use Rattle.propagator.specs.Acts.{state_of}

-- in every shot of the w words of a row
pub record Holds (w : ℕ) (x z d : List ℕ) (states : States) : Type 0 where
  pub shots : (s : ℕ) → s / 64 < w → state_of w x z d s ≡ states s
