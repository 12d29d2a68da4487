-- `walker::gates_back` meets its contract. Assumes nothing.
use Rattle.walker.specs.Steps.{GatesGone}
use Rattle.walker.proofs.gates_back.Given as goal

abbrev pub invariant-loop-end : goal.invariant-loop-end
invariant-loop-end l = GatesGone l.job l.fn.observable l.fn.number l.fn.end l.observable l.number l.end

abbrev pub decreases-loop-end : goal.decreases-loop-end
decreases-loop-end l = l.end
