-- `annotation::around::put_noise` meets its contract. Assumes nothing.
use Rattle.writer.specs.Laws.Placing.{puts_nothing}
use Rattle.annotation.specs.Laws.Annotating.{noise_empty, noise_some}
use Rattle.annotation.proofs.around.put_noise.Goals as goal

pub returns-then-qubits-eq0 : goal.returns-then-qubits-eq0
returns-then-qubits-eq0 c p e = rw (noise_empty _ _ c.if-qubits-eq0.true) puts_nothing

pub returns : goal.returns
returns c p e = rw (noise_some _ _ c.if-qubits-eq0.false) (c.put_depolarizing.ensures p e)
