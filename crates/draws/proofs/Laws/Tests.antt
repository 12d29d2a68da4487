-- Laws: what two tests joined by && or || say of each. Assumes nothing.
use Rattle.std.specs.Prelude.{◌≡◌, refl, Bool, true, false, ◌&&◌, ◌||◌}

pub &&_first : (a b : Bool) → a && b ≡ true → a ≡ true
&&_first true b e = refl
&&_first false b e = e

pub &&_second : (a b : Bool) → a && b ≡ true → b ≡ true
&&_second true b e = e
&&_second false b e = cc

pub ||_first : (a b : Bool) → a || b ≡ false → a ≡ false
||_first true b e = e
||_first false b e = refl

pub ||_second : (a b : Bool) → a || b ≡ false → b ≡ false
||_second true b e = cc
||_second false b e = e
