-- `choice::bound` meets its contract. Assumes nothing.
use Rattle.noise.specs.Kinds.{bound_of}
use Rattle.choice.specs.Laws.Choice.{small_qubits}
use Rattle.choice.proofs.bound.Goals as goal

pub depolarizing_size-requires : goal.depolarizing_size-requires
depolarizing_size-requires c = small_qubits _ c.in-Depolarizing.is c.requires

pub returns-in-Single : goal.returns-in-Single
unfolding bound_of
returns-in-Single c = rw c.in-Single.is

pub returns-in-Depolarizing : goal.returns-in-Depolarizing
unfolding bound_of
returns-in-Depolarizing c = rw c.in-Depolarizing.is c.depolarizing_size.ensures

pub returns-in-Uniform : goal.returns-in-Uniform
unfolding bound_of
returns-in-Uniform c = rw c.in-Uniform.is

pub returns-in-Weighted : goal.returns-in-Weighted
unfolding bound_of
returns-in-Weighted c = rw c.in-Weighted.is
