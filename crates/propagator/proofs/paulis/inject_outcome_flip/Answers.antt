-- `propagator::paulis::inject_outcome_flip` meets its contract.
use Rattle.propagator.specs.Laws.Lists.{row_in}
use Rattle.propagator.specs.Laws.Paulis.{flip_acts}
use Rattle.propagator.proofs.paulis.inject_outcome_flip.Goals as goal

pub flip_counted-requires : goal.flip_counted-requires
flip_counted-requires c = let p = c.requires in (row_in _ _ _ _ p.0 p.1, p.1, p.2, p.3)

pub returns : goal.returns
returns c =
    let p = c.requires in
    let counted = c.flip_counted.ensures in
    (λ n x z. flip_acts _ n _ x z _ _ _ _ p.0 p.1 p.2 counted.0, counted.1)
