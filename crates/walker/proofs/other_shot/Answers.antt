-- `walker::other_shot` meets its contract. Assumes nothing.
use mathlib.Core.Path.{refl, sym}
use mathlib.Core.Bool.{true≢false}
use borrow.Author.Tests.{not-true, eqb-false}
use Rattle.text.specs.Bytes.{bytes}
use Rattle.template.specs.Laws.Reading.{from_start}
use Rattle.walker.specs.Laws.Passed.{inject_begin, shot_passed}
use Rattle.walker.proofs.other_shot.Goals as goal

pub returns-in_default : goal.returns-in_default
returns-in_default c = λ e. absurd (true≢false (sym e))

pub returns : goal.returns
unfolding inject_begin bytes
returns c = λ e first third v reads. shot_passed _ _ v first third reads ((from_start c.start.ensures c.in-Some.ensures).read _ refl) (rw (← c.number.ensures) (eqb-false _ _ (not-true _ e)))
