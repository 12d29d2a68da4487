use native.Mathlib.Omega.{arith}
use Rattle.numbers.specs.Laws.Pieces.{search_none, search_more, search_found, search_on}
use Rattle.numbers.proofs.pieces.find.Goals as goal

pub loop-i-init : goal.loop-i-init
loop-i-init c = search_none c.requires

pub overflow_sub-s : goal.overflow_sub-s
overflow_sub-s c = c.loop-i.invariant.within

pub bounds-s-i : goal.bounds-s-i
bounds-s-i c = omega arith

pub returns-then-s-i : goal.returns-then-s-i
returns-then-s-i c =
    let f = search_found c.loop-i.invariant (omega arith) c.if-s-i.true in
    record { value = f.0; lower_bound = f.1 }

pub overflow_add-second : goal.overflow_add-second
overflow_add-second c = omega arith

pub bounds-s-second : goal.bounds-s-second
bounds-s-second c = omega arith

pub returns-then-s-second : goal.returns-then-s-second
returns-then-s-second c =
    let f = search_found (search_more c.loop-i.invariant (omega arith) c.if-s-i.false) (omega arith) c.if-s-second.true in
    record { value = f.0; lower_bound = f.1 }

pub overflow_add-third : goal.overflow_add-third
overflow_add-third c = omega arith

pub bounds-s-third : goal.bounds-s-third
bounds-s-third c = omega arith

pub returns-then-s-third : goal.returns-then-s-third
returns-then-s-third c =
    let first = search_more c.loop-i.invariant (omega arith) c.if-s-i.false in
    let f = search_found (search_more first (omega arith) c.if-s-second.false) (omega arith) c.if-s-third.true in
    record { value = f.0; lower_bound = f.1 }

pub overflow_add-fourth : goal.overflow_add-fourth
overflow_add-fourth c = omega arith

pub bounds-s-fourth : goal.bounds-s-fourth
bounds-s-fourth c = omega arith

pub returns-then-s-fourth : goal.returns-then-s-fourth
returns-then-s-fourth c =
    let first = search_more c.loop-i.invariant (omega arith) c.if-s-i.false in
    let second = search_more first (omega arith) c.if-s-second.false in
    let f = search_found (search_more second (omega arith) c.if-s-third.false) (omega arith) c.if-s-fourth.true in
    record { value = f.0; lower_bound = f.1 }

pub overflow_add-i : goal.overflow_add-i
overflow_add-i c = omega arith

pub loop-i-smaller : goal.loop-i-smaller
loop-i-smaller c = omega arith

pub loop-i-preserved : goal.loop-i-preserved
loop-i-preserved c =
    let first = search_more c.loop-i.invariant (omega arith) c.if-s-i.false in
    let second = search_more first (omega arith) c.if-s-second.false in
    search_more (search_more second (omega arith) c.if-s-third.false) (omega arith) c.if-s-fourth.false

pub find_singly-requires : goal.find_singly-requires
find_singly-requires c = c.loop-i.invariant.within

pub returns : goal.returns
returns c =
    let f = search_on c.loop-i.invariant (c.find_singly.ensures.value, c.find_singly.ensures.lower_bound) in
    record { value = f.0; lower_bound = f.1 }
