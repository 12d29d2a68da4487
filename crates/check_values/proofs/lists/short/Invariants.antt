-- `check_values::lists::short` meets its contract. Assumes nothing.
use mathlib.Core.Path.{◌≡◌}
use mathlib.Core.List.{List}
use Prim.Native.Nat.{ℕ, ◌-◌, ◌≤◌, ◌<◌}
use Rattle.text.specs.Template.{Value}
use Rattle.template.specs.Values.{AllKept}
use Rattle.template.specs.Fields.{Held}
use Rattle.job.specs.Checks.{each_short}
use Rattle.check_values.specs.Slots.{lists_from}
use Rattle.check_values.proofs.lists.short.Given as goal

abbrev pub invariant-loop-i : goal.invariant-loop-i
invariant-loop-i l =
    ((numbers lists : ℕ) (vs : List Value) → Held l.f.words.now numbers lists vs → l.end ≤ lists
    → each_short (lists_from l.first (l.end - l.first) vs) ≡ each_short (lists_from l.i (l.end - l.i) vs))
    × ((j : ℕ) → l.first ≤ j → j < l.i → AllKept l.f.words.now j)
