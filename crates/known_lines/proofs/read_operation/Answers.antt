-- `known_lines::read_operation` meets its contract. Assumes nothing.
use native.Mathlib.Omega.{arith}
use Rattle.known_lines.specs.Laws.Lists.{control_there, target_there, controlled_parsed}
use Rattle.known_lines.proofs.read_operation.Goals as goal

pub read_lists-behind-requires : goal.read_lists-behind-requires
read_lists-behind-requires c =
    let pre = c.requires.0 in
    let there = c.is_controlled.ensures (c.if-not-is_controlled.false) in
    (omega arith, control_there pre there, c.requires.1)

pub overflow_add-behind : goal.overflow_add-behind
overflow_add-behind c =
    let known = c.requires.0 in
    let there = c.is_controlled.ensures (c.if-not-is_controlled.false) in
    let target = target_there known there c.read_lists-behind.ensures.behind in
    omega (arith, target.x.within)

pub read_lists-requires : goal.read_lists-requires
read_lists-requires c =
    let pre = c.requires.0 in
    let there = c.is_controlled.ensures (c.if-not-is_controlled.false) in
    (omega arith, target_there pre there c.read_lists-behind.ensures.behind, omega (arith, c.read_lists-behind.auto, c.requires.1))

pub returns : goal.returns
returns c =
    let known = c.requires.0 in
    let there = c.is_controlled.ensures (c.if-not-is_controlled.false) in
    controlled_parsed known there _ c.read_lists-behind.ensures c.read_lists.ensures
