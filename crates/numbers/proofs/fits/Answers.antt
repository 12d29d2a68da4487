-- `numbers::fits` meets its contract. Assumes nothing.
use Prim.Native.Nat.{◌+◌, ◌*◌, ◌^◌}
use mathlib.Core.Path.{sym}
use native.Mathlib.Omega.{arith}
use borrow.Author.Tests.{lt-ltb, le-ltb}
use Rattle.text.proofs.Laws.Numbers.{last_digit}
use Rattle.numbers.proofs.fits.Goals as goal

pub returns-then-v-lt-TENTH : goal.returns-then-v-lt-TENTH
returns-then-v-lt-TENTH c = sym (lt-ltb (c.args.v * 10 + c.args.d) (2 ^ 64) (omega arith))

pub returns-then-v-gt-TENTH : goal.returns-then-v-gt-TENTH
returns-then-v-gt-TENTH c = sym (le-ltb (c.args.v * 10 + c.args.d) (2 ^ 64) (omega arith))

pub returns : goal.returns
returns c = last_digit c.args.v c.args.d (omega arith)
