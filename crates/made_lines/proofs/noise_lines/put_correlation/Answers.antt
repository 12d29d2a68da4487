-- `made_lines::noise_lines::put_correlation` meets its contract. Assumes nothing.
use Rattle.text.specs.Bytes.{bytes}
use Rattle.made_lines.specs.Laws.Noise.{correlation_none, correlation_some}
use Rattle.made_lines.proofs.noise_lines.put_correlation.Goals as goal

pub returns-then-c-lt8 : goal.returns-then-c-lt8
unfolding bytes
returns-then-c-lt8 c = correlation_none _ c.if-c-lt8.true c.put_bytes.ensures

pub returns : goal.returns
unfolding bytes
returns c = correlation_some _ c.if-c-lt8.false c.put_value.ensures
