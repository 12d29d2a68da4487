-- `fault_table::noise_rows::pauli_at` meets its contract. Assumes nothing.
use native.Mathlib.Omega.{arith}
use mathlib.Core.Path.{◌∙◌}
use Rattle.job.specs.Line.{pauli_of}
use Rattle.fault_table.proofs.noise_rows.pauli_at.Goals as goal

pub list-requires : goal.list-requires
list-requires c = (omega (arith, c.requires.two), c.requires.x_kept)

pub overflow_add-first : goal.overflow_add-first
overflow_add-first c = omega (arith, c.requires.two)

pub list-requires-2 : goal.list-requires-2
list-requires-2 c = (omega (arith, c.requires.two), c.requires.z_kept)

pub from_lists-requires : goal.from_lists-requires
from_lists-requires c = (rw c.list.ensures c.requires.x, rw c.list-2.ensures c.requires.z)

pub returns : goal.returns
unfolding pauli_of
returns c = c.from_lists.ensures ∙ rw (c.list.ensures, c.list-2.ensures)
