use mathlib.Core.Path.{◌∙◌}
use native.Mathlib.Omega.{arith}
use Rattle.writer.specs.Laws.Placing.{rest_length}
use Rattle.job_maker.specs.Laws.Jobs.{putting_begins, putting_ready, putting_more, putting_stops, putting_done}
use Rattle.job_maker.proofs.put_job.Goals as goal

pub put_header-requires : goal.put_header-requires
put_header-requires c = tt

pub loop-i-init : goal.loop-i-init
loop-i-init c = putting_begins c.put_header.ensures

pub shape_of-out-then-m-gt-MAX_BYTES : goal.shape_of-out-then-m-gt-MAX_BYTES
shape_of-out-then-m-gt-MAX_BYTES c = rest_length c.loop-i.invariant.rest ∙ c.put_header.auto.out

pub returns-then-m-gt-MAX_BYTES : goal.returns-then-m-gt-MAX_BYTES
returns-then-m-gt-MAX_BYTES c = putting_stops c.put_header.ensures c.loop-i.invariant c.if-m-gt-MAX_BYTES.true

pub put_instruction-m-requires : goal.put_instruction-m-requires
put_instruction-m-requires c = putting_ready c.requires c.loop-i.invariant

pub loop-i-preserved : goal.loop-i-preserved
loop-i-preserved c = putting_more c.requires c.loop-i.invariant c.loop-i-test.true c.if-m-gt-MAX_BYTES.false c.put_instruction-m.ensures

pub shape_of-out : goal.shape_of-out
shape_of-out c = rest_length c.loop-i.invariant.rest ∙ c.put_header.auto.out

pub returns : goal.returns
returns c = putting_done c.put_header.ensures c.loop-i.invariant c.loop-i-test.false
