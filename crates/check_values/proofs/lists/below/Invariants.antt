-- `check_values::lists::below` meets its contract. Assumes nothing.
use mathlib.Core.Path.{◌≡◌}
use mathlib.Core.List.{List}
use Prim.Native.Nat.{ℕ, ◌-◌, ◌≤◌}
use Rattle.text.specs.Template.{Value}
use Rattle.template.specs.Fields.{Held}
use Rattle.job.specs.Checks.{each_below_of}
use Rattle.check_values.specs.Slots.{lists_from}
use Rattle.check_values.proofs.lists.below.Given as goal

abbrev pub invariant-loop-i : goal.invariant-loop-i
invariant-loop-i l =
    (numbers lists : ℕ) (vs : List Value) → Held l.f.words.now numbers lists vs → l.end ≤ lists
    → each_below_of l.n (lists_from l.first (l.end - l.first) vs) ≡ each_below_of l.n (lists_from l.i (l.end - l.i) vs)
