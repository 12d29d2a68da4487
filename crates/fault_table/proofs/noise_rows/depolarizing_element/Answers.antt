-- `fault_table::noise_rows::depolarizing_element` meets its contract. Assumes nothing.
use native.Mathlib.Omega.{arith}
use mathlib.Core.Path.{◌∙◌}
use Rattle.job.specs.Line.{pauli_of}
use Rattle.draws.specs.Draws.{depolarizing_element_of}
use Rattle.draws.proofs.Laws.Elements.{selected_writable}
use Rattle.lines_back.specs.Laws.Parts.{all_below_lem}
use Rattle.noise_text.specs.Laws.Lists.{few_selected, selected_count}
use Rattle.fault_table.proofs.noise_rows.depolarizing_element.Goals as goal

pub slice_bounds-x-end : goal.slice_bounds-x-end
slice_bounds-x-end c = omega (arith, few_selected c.select-nx.ensures, c.requires.0, c.select-nx.auto)

pub slice_bounds-from_lists-end : goal.slice_bounds-from_lists-end
slice_bounds-from_lists-end c = selected_count c.select-nx.ensures

pub slice_bounds-z-end : goal.slice_bounds-z-end
slice_bounds-z-end c = omega (arith, few_selected c.select-nz.ensures, c.requires.0, c.select-nz.auto)

pub slice_bounds-from_lists-end-2 : goal.slice_bounds-from_lists-end-2
slice_bounds-from_lists-end-2 c = selected_count c.select-nz.ensures

pub from_lists-requires : goal.from_lists-requires
from_lists-requires c = (rw c.select-nx.ensures.begins.list (all_below_lem (selected_writable 256 _ _ c.requires.1).below), rw c.select-nz.ensures.begins.list (all_below_lem (selected_writable 256 _ _ c.requires.1).below))

pub returns : goal.returns
unfolding pauli_of depolarizing_element_of
returns c = c.from_lists.ensures ∙ rw (c.select-nx.ensures.begins.list, c.select-nz.ensures.begins.list)
