use Rattle.made_lines.specs.Laws.Elements.{elements_none, elements_more, elements_all}
use Rattle.made_lines.proofs.noise_lines.put_elements.Goals as goal

pub loop-i-init : goal.loop-i-init
loop-i-init c = elements_none

pub loop-i-preserved : goal.loop-i-preserved
loop-i-preserved c = elements_more c.loop-i.invariant c.loop-i-test.true c.put_element-next.ensures

pub returns : goal.returns
returns c = elements_all c.loop-i.invariant c.loop-i-test.false c.requires.1
