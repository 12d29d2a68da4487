use native.Mathlib.Omega.{arith}
use Rattle.numbers.specs.Laws.Pieces.{search_none, search_more, search_found, search_ends}
use Rattle.numbers.proofs.pieces.find_singly.Goals as goal

pub loop-i-init : goal.loop-i-init
loop-i-init c = search_none c.requires

pub bounds-s-i : goal.bounds-s-i
bounds-s-i c = omega arith

pub returns-then-s-i : goal.returns-then-s-i
returns-then-s-i c =
    let f = search_found c.loop-i.invariant (omega arith) c.if-s-i.true in
    record { value = f.0; lower_bound = f.1 }

pub overflow_add-i : goal.overflow_add-i
overflow_add-i c = omega arith

pub loop-i-smaller : goal.loop-i-smaller
loop-i-smaller c = omega arith

pub loop-i-preserved : goal.loop-i-preserved
loop-i-preserved c = search_more c.loop-i.invariant (omega arith) c.if-s-i.false

pub returns : goal.returns
returns c =
    let f = search_ends c.loop-i.invariant (omega arith) in
    record { value = f.0; lower_bound = f.1 }
