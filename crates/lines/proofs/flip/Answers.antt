-- `lines::flip` meets its contract. Assumes nothing.
use Rattle.instructions.specs.Laws.Read.{flip_read}
use Rattle.job.specs.Sound.{LineSound}
use native.Mathlib.Omega.{arith}
use Rattle.lines.proofs.flip.Goals as goal

pub number-requires : goal.number-requires
number-requires c = omega arith

pub number-requires-2 : goal.number-requires-2
number-requires-2 c = omega arith

pub inject_outcome_flip-requires : goal.inject_outcome_flip-requires
unfolding LineSound
inject_outcome_flip-requires c =
    let pre = c.requires in
    let p = pre.0.2 in
    let s = (flip_read p).sound in
    let within = s.within in
    let v = c.number.ensures in
    let v2 = c.number-2.ensures in
    let known = s.known in
    let words = p.in_words in
    let rows = p.in_rows in
    (pre.1, omega arith, omega arith, pre.2)

pub returns : goal.returns
returns c =
    let flips = c.inject_outcome_flip.ensures in
    (λ n x z. record { acts = λ line p. rw (← (flip_read p).is, ← c.number.ensures, ← c.number-2.ensures) (flips.0 n x z) }, flips.1)
