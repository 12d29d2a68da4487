-- `known_lines::other_line` meets its contract. Assumes nothing.
use Rattle.known_lines.specs.Laws.Lists.{element_long, weighted_long}
use Rattle.known_lines.proofs.other_line.Goals as goal

pub line_from-requires : goal.line_from-requires
line_from-requires c = element_long c.requires c.if-first-eq120.true

pub returns-then-first-eq120 : goal.returns-then-first-eq120
returns-then-first-eq120 c = c.line_from.ensures

pub line_from-requires-then-first-eq119 : goal.line_from-requires-then-first-eq119
line_from-requires-then-first-eq119 c = weighted_long c.requires c.if-first-eq119.true

pub returns-then-first-eq119 : goal.returns-then-first-eq119
returns-then-first-eq119 c = c.line_from-then-first-eq119.ensures

pub returns : goal.returns
returns c = c.line_from-2.ensures
