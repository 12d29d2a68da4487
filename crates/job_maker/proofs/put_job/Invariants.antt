-- `job_maker::put_job` meets its contract. Assumes nothing.
use Prim.Native.Nat.{◌-◌}
use Rattle.job_maker.specs.Laws.Jobs.{Putting}
use Rattle.job_maker.proofs.put_job.Given as goal

abbrev pub invariant-loop-i : goal.invariant-loop-i
invariant-loop-i l = Putting l.h l.lines l.state l.initial.m.at l.initial.out l.i l.m l.out
