-- `lines::permute` meets its contract. Assumes nothing.
use Rattle.lines.specs.Laws.Obey.{scratch_fits}
use Rattle.instructions.specs.Laws.Read.{permute_read}
use Rattle.job.specs.Sound.{LineSound}
use native.Mathlib.Omega.{arith}
use Rattle.lines.proofs.permute.Goals as goal

pub list-requires : goal.list-requires
list-requires c =
    let r = permute_read c.requires.0.plain in
    let places = r.few 0 (omega arith) in
    let qubits = r.few 1 (omega arith) in
    (omega arith, omega arith)

pub list-requires-2 : goal.list-requires-2
list-requires-2 c =
    let r = permute_read c.requires.0.plain in
    let places = r.few 0 (omega arith) in
    let qubits = r.few 1 (omega arith) in
    (omega arith, omega arith)

pub apply_permutation-requires : goal.apply_permutation-requires
unfolding LineSound
apply_permutation-requires c =
    let e = c.list.ensures in
    let e2 = c.list-2.ensures in
    let s = (permute_read c.requires.0.plain).sound in
    (scratch_fits _ _ (rw e2 s.operands.few) c.requires.1, c.requires.0.of_x, c.requires.0.of_z, rw e2 s.operands.below, rw (e, e2) s.places)

pub returns : goal.returns
returns c =
    let e = c.list.ensures in
    let e2 = c.list-2.ensures in
    record { acts = λ m line p d. rw (← (permute_read p).is, ← e, ← e2) (c.apply_permutation.ensures m d) }
