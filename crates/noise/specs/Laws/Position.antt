-- What is left of the main list behind a noise line. Laws. Assumes nothing.
use Rattle.std.specs.Prelude.{◌≡◌, ℕ, ◌+◌, ◌^◌, ◌<◌, ◌≤◌, List, length, drop, refl, Some, None, Option}
use Rattle.std.proofs.Math.Option.{none}
use Rattle.std.proofs.Common.{arith, length-drop, drop_of_length-le, drop-drop}
use Rattle.draws.specs.Draws.{Lent, part_of, main_after}
use Rattle.draws.specs.Left.{spent_on}
use Rattle.noise.specs.Kinds.{correlation_of}
use Rattle.noise.specs.Words.{position_after_of}

-- without correlation as many words are left as in its part, else as many as before
pub main_after_lem : (corr : Option ℕ) (lent : Lent) (main : List ℕ) (position read : ℕ)
    → main_after (correlation_of corr) (drop position main) (drop read (part_of lent (correlation_of corr) (drop position main)))
    ≡ drop (position_after_of corr position read) main
unfolding main_after correlation_of part_of position_after_of
main_after_lem None lent main position read = drop-drop read position main
main_after_lem (Some c) lent main position read = refl

pub main_stays : (corr : Option ℕ) (lent : Lent) (main : List ℕ) (position : ℕ)
    → main_after (correlation_of corr) (drop position main) (part_of lent (correlation_of corr) (drop position main)) ≡ drop position main
unfolding main_after correlation_of part_of
main_stays None lent main position = refl
main_stays (Some c) lent main position = refl

-- behind a line whose part is used up
pub main_spent : (corr : Option ℕ) (lent : Lent) (main : List ℕ) (position read : ℕ) → read ≡ length (part_of lent (correlation_of corr) (drop position main))
    → drop (position_after_of corr position read) main ≡ spent_on (correlation_of corr) (drop position main)
unfolding spent_on correlation_of part_of position_after_of
main_spent None lent main position read e =
    let past : length main ≤ position + read = omega (arith, e, length-drop position main) in
    drop_of_length-le main past
main_spent (Some c) lent main position read e = refl

-- the position stays in the main list
pub position_within : (corr : Option ℕ) (lent : Lent) (main : List ℕ) (position read : ℕ) → position ≤ length main
    → read ≤ length (part_of lent (correlation_of corr) (drop position main)) → position_after_of corr position read ≤ length main
unfolding correlation_of part_of position_after_of
position_within None lent main position read h k = omega (arith, length-drop position main)
position_within (Some c) lent main position read h k = h

pub position_fits : (corr : Option ℕ) (lent : Lent) (main : List ℕ) (position read : ℕ) → position ≤ length main → length main < 2 ^ 64
    → read ≤ length (part_of lent (correlation_of corr) (drop position main)) → correlation_of corr ≡ none → position + read < 2 ^ 64
unfolding correlation_of part_of
position_fits None lent main position read h b k e = omega (arith, length-drop position main)
position_fits (Some c) lent main position read h b k e = let z : ◌≡◌ {A = ℕ} 0 1 = cc in absurd (omega arith)
