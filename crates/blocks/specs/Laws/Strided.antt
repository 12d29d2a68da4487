-- Every step-th word of a list: what stands at each place after they were written, and a turn of the loop. Assumes nothing.
use Rattle.std.specs.Prelude.{◌≡◌, List, length, get_or, set}
use Rattle.std.proofs.Math.Path.{refl}
use Rattle.std.proofs.Common.{◌∙◌, arith, not-suc-le-zero, eq-or-lt_of_le, le_of_suc-le-suc, add-one, get_or-set_same}
use Rattle.std.proofs.Math.Logic.{⊎_elim}
use Prim.Native.Nat.{ℕ, zero, suc, ◌+◌, ◌*◌, ◌<◌}
use Rattle.std.proofs.Math.Nat.{mul-lt-mul_of_pos_right}
use Rattle.std.proofs.Math.ListN.{length-set}
use Rattle.std.proofs.Math.Seq.{get_or-set_other}
use Rattle.blocks.specs.Strided.{Within, scattered}

module _ (at step : ℕ) (f : ℕ → ℕ) (l : List ℕ) where
  pub scattered_none : l ≡ scattered at step 0 f l
  unfolding scattered
  scattered_none = refl

  pub scattered_more : (n v : ℕ) (m : List ℕ) → m ≡ scattered at step n f l → v ≡ f n → set m (at + n * step) v ≡ scattered at step (n + 1) f l
  unfolding scattered
  scattered_more n v m e q = rw (add-one, e, q)

  pub length_scattered : (n : ℕ) → length (scattered at step n f l) ≡ length l
  unfolding scattered
  length_scattered zero = refl
  length_scattered (suc n) = length-set (scattered at step n f l) (at + n * step) (f n) ∙ length_scattered n

  -- any other word is as it was
  pub scattered_out : (n k : ℕ) → ((j : ℕ) → j < n → k ≡ at + j * step → ⊥) → get_or (scattered at step n f l) k 0 ≡ get_or l k 0
  unfolding scattered
  scattered_out zero k out = refl
  scattered_out (suc n) k out = get_or-set_other (scattered at step n f l) (at + n * step) k (f n) 0 (out n (omega arith)) ∙ scattered_out n k (λ j h. out j (omega arith))

  pub scattered_in : 0 < step → (n j : ℕ) → j < n → Within at step n l → get_or (scattered at step n f l) (at + j * step) 0 ≡ f j
  unfolding scattered
  scattered_in some zero j h w = absurd (not-suc-le-zero h)
  scattered_in some (suc n) j h w =
      ⊎_elim
      (λ (e : j ≡ n). rw e (get_or-set_same (scattered at step n f l) (at + n * step) (f n) 0 (rw length_scattered (w.inside n (omega arith)))))
      (λ (p : j < n).
      let apart : j * step < n * step = mul-lt-mul_of_pos_right p some in
      get_or-set_other (scattered at step n f l) (at + n * step) (at + j * step) (f n) 0 (λ (e : at + j * step ≡ at + n * step). omega arith)
      ∙ scattered_in some n j p (record { inside = λ i q. w.inside i (omega arith) }))
      (eq-or-lt_of_le (le_of_suc-le-suc h))
