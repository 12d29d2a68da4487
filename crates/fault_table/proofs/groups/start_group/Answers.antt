-- `fault_table::groups::start_group` meets its contract. Assumes nothing.
use Prim.Native.Nat.{ℕ}
use native.Mathlib.Omega.{arith}
use mathlib.Core.Path.{ap, ◌∙◌}
use lib.ListN.{length, length-replicate}
use Rattle.fault_table.specs.Laws.Words.{zeros_started}
use Rattle.fault_table.proofs.groups.start_group.Goals as goal

pub slice_bounds-add_outcomes-count : goal.slice_bounds-add_outcomes-count
slice_bounds-add_outcomes-count c = let long = ap length c.requires.0 ∙ length-replicate {A = ℕ} 24 0 in omega (arith, long)

pub slice_bounds-add_outcomes-start : goal.slice_bounds-add_outcomes-start
slice_bounds-add_outcomes-start c = let long = ap length c.requires.0 ∙ length-replicate {A = ℕ} 24 0 in omega (arith, long)

pub add_outcomes-requires : goal.add_outcomes-requires
add_outcomes-requires c = (let long = ap length c.requires.0 ∙ length-replicate {A = ℕ} 24 0 in omega (arith, long), c.requires.1)

pub returns : goal.returns
returns c = zeros_started _ _ c.requires.0 c.add_outcomes.ensures.1
