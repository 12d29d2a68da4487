-- A list that begins as another, by its numbers themselves, has it as its front. Assumes nothing.
use Prim.Native.Nat.{ℕ}
use mathlib.Core.List.{List, [], ◌∷◌}
use mathlib.Core.Path.{◌≡◌, refl, sym, ap, ◌∙◌}
use lib.ListN.{length, take}
use Rattle.std.specs.Prelude.{Result, Ok, Err, OnOk}
use Rattle.replay.specs.Front.{BeginsAs}

pub begun : (found must : List ℕ) → BeginsAs (λ x y. y ≡ x) found must → take (length must) found ≡ must
begun found [] h = refl
begun [] (b ∷ must) h = absurd h
begun (a ∷ found) (b ∷ must) h = ap (λ x. x ∷ take (length must) found) (sym h.0.1 ∙ h.0.2) ∙ ap (λ l. b ∷ l) (begun found must h.1)

-- what follows from a fact that an `Ok` says
pub ok_says : {P Q : Type 0} {E : Type 0} (r : Result (Unit {0}) E) → (P → Q) → OnOk r P → OnOk r Q
ok_says (Ok u) f h = f h
ok_says (Err e) f h = tt
