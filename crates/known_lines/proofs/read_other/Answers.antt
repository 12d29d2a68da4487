-- `known_lines::read_other` meets its contract. Assumes nothing.
use native.Mathlib.Omega.{arith}
use mathlib.Core.Path.{ap, ◌∙◌}
use lib.ListN.{set}
use Rattle.known_lines.specs.Laws.Lists.{lists_there, element_lists, element_parsed, weight_long, weighted_parts, weighted_parsed}
use Rattle.known_lines.proofs.read_other.Goals as goal

pub read_lists-requires : goal.read_lists-requires
read_lists-requires c =
    let pre = c.requires.0 in
    (omega arith, lists_there (element_lists pre (c.has_byte.ensures c.if-has_byte.true)), c.requires.1)

pub returns-then-has_byte : goal.returns-then-has_byte
returns-then-has_byte c =
    let pre = c.requires.0 in
    element_parsed pre (c.has_byte.ensures c.if-has_byte.true) _ c.read_lists.ensures

pub slice_bounds-known_hex-end : goal.slice_bounds-known_hex-end
slice_bounds-known_hex-end c =
    let known = weighted_parts c.requires.0 (c.has_byte-2.ensures (c.if-not-has_byte.false)) in
    omega (arith, known.within)

pub known_hex-weight-requires : goal.known_hex-weight-requires
known_hex-weight-requires c =
    let known = weighted_parts c.requires.0 (c.has_byte-2.ensures (c.if-not-has_byte.false)) in
    (weight_long known, known.digits)

pub read_lists-requires-2 : goal.read_lists-requires-2
read_lists-requires-2 c =
    let known = weighted_parts c.requires.0 (c.has_byte-2.ensures (c.if-not-has_byte.false)) in
    (omega arith, lists_there known.lists_of, omega (arith, c.set_number.auto, c.requires.1))

pub returns : goal.returns
returns c =
    let pre = c.requires.0 in
    let before = c.args.fields.now in
    let marked = c.set_number.ensures ∙ ap (set before 0) c.known_hex-weight.ensures in
    weighted_parsed pre (c.has_byte-2.ensures (c.if-not-has_byte.false)) before c.requires.1 marked c.read_lists-2.ensures
