-- `numbers::lists::short_at` meets its contract. Assumes nothing.
use Prim.Native.Nat.{ℕ, ◌+◌, ◌≤◌}
use native.Mathlib.Omega.{arith}
use mathlib.Core.Path.{◌≡◌}
use mathlib.Core.Bool.{Bool, false}
use mathlib.Core.List.{List, ◌∷◌}
use lib.ListN.{length, get_or}
use Rattle.std.specs.Prelude.{Option, Some, None, IfSome}
use Rattle.numbers.specs.declared.lists.Short.{Short}
use Rattle.numbers.specs.Read.{ShortIn, MemberAt}
use Rattle.numbers.specs.Laws.Members.{member_short}
use Rattle.numbers.proofs.lists.short_at.Goals as goal

found : (hex : Bool) (s : List ℕ) (at : ℕ) → at + 4 ≤ length s → hex ≡ false → (r : Option Short)
    → IfSome r (λ (m : Short). (rest : List ℕ) → ShortIn m.digits m.value (get_or s at 0 ∷ get_or s (at + 1) 0 ∷ get_or s (at + 1 + 1) 0 ∷ get_or s (at + 1 + 1 + 1) 0 ∷ rest))
    → IfSome r (λ (m : Short). MemberAt hex s at (record { value = Some m.value; end = at + m.digits }))
found hex s at room plain None h = h
found hex s at room plain (Some m) h = member_short hex s at m.digits m.value room plain h

pub returns : goal.returns
returns c = found c.args.hex c.args.s.now c.args.at (omega arith) c.if-hex.false _ c.short_number.ensures
