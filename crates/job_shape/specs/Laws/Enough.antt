-- Words that are lent for a run, by how many they are. Laws. Assumes nothing.
use Rattle.std.specs.Prelude.{◌≡◌, true, false, List, ℕ, ◌+◌, ◌*◌, ◌/◌, ◌^◌, ◌≤◌, ◌<◌, leb}
use Rattle.std.proofs.Common.{mul-le-mul, arith}
use borrow.Author.Tests.{leb-true, le-leb, lt-leb}
use Rattle.text.proofs.Laws.Values.{both}
use Rattle.job.specs.Job.{job_of, check_job}
use Rattle.job.specs.Sound.{HeaderSound}
use Rattle.job.proofs.Theorems.{checked_sound}
use Rattle.rows.specs.declared.Shape.{Shape}
use Rattle.job_shape.specs.declared.lent_words.Lengths.{Lengths}
use Rattle.job_shape.specs.Enough.{suffice}

-- the header of a job that passes its tests
pub range : (job : List ℕ) → (check_job job).number ≡ 0 → HeaderSound (job_of job).header
range job passes = (checked_sound job passes).header

-- ---- products fit a word

pub row_words : (rows shots : ℕ) → rows ≤ 1024 → shots ≤ 4096 → rows * ((shots + 63) / 64) < 2 ^ 64
row_words rows shots few short =
    let w : (shots + 63) / 64 ≤ 64 = omega arith in
    omega (arith, mul-le-mul few w)

-- ---- 13

pub record Enough (shape : Shape) (lent : Lengths) : Type 0 where
  pub of_x : shape.qubits * shape.width ≤ lent.x
  pub of_z : shape.qubits * shape.width ≤ lent.z
  pub of_deltas : shape.outcomes * shape.width ≤ lent.deltas
  pub of_totals : shape.outcomes ≤ lent.totals
  pub of_noiseless : shape.outcomes * shape.width ≤ lent.noiseless

pub enough_words : {shape : Shape} {lent : Lengths} → suffice shape lent ≡ true → Enough shape lent
unfolding suffice
enough_words {shape} {lent} e =
    let frame = shape.qubits * shape.width in
    let outcomes = shape.outcomes * shape.width in
    let (four, n) = both _ (leb outcomes lent.noiseless) e in
    let (three, t) = both _ (leb shape.outcomes lent.totals) four in
    let (two, d) = both _ (leb outcomes lent.deltas) three in
    let (a, b) = both (leb frame lent.x) (leb frame lent.z) two in
    record {
      of_x = leb-true frame lent.x a;
      of_z = leb-true frame lent.z b;
      of_deltas = leb-true outcomes lent.deltas d;
      of_totals = leb-true shape.outcomes lent.totals t;
      of_noiseless = leb-true outcomes lent.noiseless n;
    }

module _ (shape : Shape) (lent : Lengths) where
  pub short_x : lent.x < shape.qubits * shape.width → false ≡ suffice shape lent
  unfolding suffice
  short_x e = rw (lt-leb _ lent.x e)

  module _ (hx : shape.qubits * shape.width ≤ lent.x) where
    pub short_z : lent.z < shape.qubits * shape.width → false ≡ suffice shape lent
    unfolding suffice
    short_z e = rw (le-leb _ lent.x hx, lt-leb _ lent.z e)

    module _ (hz : shape.qubits * shape.width ≤ lent.z) where
      pub short_deltas : lent.deltas < shape.outcomes * shape.width → false ≡ suffice shape lent
      unfolding suffice
      short_deltas e = rw (le-leb _ lent.x hx, le-leb _ lent.z hz, lt-leb _ lent.deltas e)

      module _ (hd : shape.outcomes * shape.width ≤ lent.deltas) where
        pub short_totals : lent.totals < shape.outcomes → false ≡ suffice shape lent
        unfolding suffice
        short_totals e = rw (le-leb _ lent.x hx, le-leb _ lent.z hz, le-leb _ lent.deltas hd, lt-leb _ lent.totals e)

        pub by_noiseless : shape.outcomes ≤ lent.totals → leb (shape.outcomes * shape.width) lent.noiseless ≡ suffice shape lent
        unfolding suffice
        by_noiseless e = rw (le-leb _ lent.x hx, le-leb _ lent.z hz, le-leb _ lent.deltas hd, le-leb _ lent.totals e)
