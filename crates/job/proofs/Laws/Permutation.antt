-- Laws: what test 6 says of a permutation of the places. Assumes nothing.
use Rattle.std.specs.Prelude.{ℕ, ◌≡◌, true, ◌&&◌, List, eqb, length}
use Rattle.std.proofs.Common.{eqb-true}
use Rattle.text.proofs.Laws.Values.{both}
use Rattle.job.specs.Checks.{all_below, distinct, is_permutation}

-- test 6 in its parts
pub record Permutation (k : ℕ) (s : List ℕ) : Type 0 where
  pub long : length s ≡ k
  pub below : all_below k s ≡ true
  pub apart : distinct s ≡ true

pub permutation_parts : (k : ℕ) (s : List ℕ) → is_permutation k s ≡ true → Permutation k s
unfolding is_permutation
permutation_parts k s e =
    let a = both (eqb (length s) k && all_below k s) (distinct s) e in
    let b = both (eqb (length s) k) (all_below k s) a.0 in
    record { long = eqb-true _ _ b.0; below = b.1; apart = a.1 }
