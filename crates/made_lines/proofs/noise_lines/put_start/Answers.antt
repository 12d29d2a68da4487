-- `made_lines::noise_lines::put_start` meets its contract. Assumes nothing.
use Rattle.text.specs.Bytes.{bytes}
use Rattle.made_lines.specs.Laws.Noise.{start_put}
use Rattle.made_lines.proofs.noise_lines.put_start.Goals as goal

pub returns : goal.returns
returns c = λ h. unfold bytes in start_put h c.put_probability-start.ensures c.few-ids.auto.list c.few-ids.ensures c.put_members-at.ensures c.parity-b.ensures c.put_value-end.ensures c.moved.ensures
