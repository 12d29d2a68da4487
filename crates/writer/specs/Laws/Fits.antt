-- What 15 asks of a text's length. Laws. Assumes nothing.
use Rattle.std.specs.Prelude.{◌≡◌, true, ◌&&◌, ℕ, ◌≤◌, leb}
use Rattle.std.proofs.Common.{leb-true}
use Rattle.text.proofs.Laws.Values.{both}
use Rattle.job.specs.Job.{max_bytes}

module _ (need lent : ℕ) (fits : leb need lent && leb need max_bytes ≡ true) where
  pub room_for : need ≤ lent
  room_for = leb-true need lent (both (leb need lent) (leb need max_bytes) fits).0

  pub within_limit : need ≤ 1048576
  within_limit = leb-true need 1048576 (both (leb need lent) (leb need max_bytes) fits).1
