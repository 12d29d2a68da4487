use native.Mathlib.Omega.{arith}
use borrow.Author.Rules.{rules}
use Rattle.stream.specs.Laws.Jump.{jumping_begun, jumping_turn, jumping_ended, jumping_fits, jump_1024, jump_2048, jump_3072}
use Rattle.seed_words.proofs.jump.Goals as goal

pub loop-k-init : goal.loop-k-init
loop-k-init c = (jumping_begun _ _ (search rules), jumping_begun _ _ (search rules), jumping_begun _ _ (search rules))

pub overflow_shr-second : goal.overflow_shr-second
overflow_shr-second c = omega arith

pub overflow_mul-second : goal.overflow_mul-second
overflow_mul-second c = record { fits = jumping_fits c.loop-k.invariant.0 }

pub overflow_shr-third : goal.overflow_shr-third
overflow_shr-third c = omega arith

pub overflow_mul-third : goal.overflow_mul-third
overflow_mul-third c = record { fits = jumping_fits c.loop-k.invariant.1 }

pub overflow_shr-fourth : goal.overflow_shr-fourth
overflow_shr-fourth c = omega arith

pub overflow_mul-fourth : goal.overflow_mul-fourth
overflow_mul-fourth c = record { fits = jumping_fits c.loop-k.invariant.2 }

pub loop-k-preserved : goal.loop-k-preserved
loop-k-preserved c =
    let i = c.loop-k.invariant in
    let t = c.loop-k-test.true in
    let e = c.step-ahead.ensures in
    (jumping_turn _ i.0 t e, jumping_turn _ i.1 t e, jumping_turn _ i.2 t e)

pub returns : goal.returns
returns c =
    let i = c.loop-k.invariant in
    let t = c.loop-k-test.false in (
      jumping_ended i.0 t jump_1024 (search rules),
      jumping_ended i.1 t jump_2048 (search rules),
      jumping_ended i.2 t jump_3072 (search rules),
    )
