-- `template::value_to` meets its contract. Assumes nothing.
use Rattle.template.specs.Laws.Reading.{value_read}
use Rattle.template.proofs.value_to.Goals as goal

pub returns : goal.returns
returns c =
    let a = c.args in
    value_read a.letter a.p.at a.p.numbers a.p.lists a.end c.requires.0 c.requires.3 c.requires.1 c.requires.2 c.put_value.ensures
