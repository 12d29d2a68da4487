-- `job_numbers::depolarizing_size` meets its contract: a shift by 2k is 4 ^ k. Assumes nothing.
use native.Mathlib.Omega.{arith}
use Rattle.job.proofs.Laws.Sizes.{four_pos, shifted}
use Rattle.job_numbers.proofs.depolarizing_size.Goals as goal

pub overflow_mul-result : goal.overflow_mul-result
overflow_mul-result c = omega arith

pub overflow_shl-result : goal.overflow_shl-result
overflow_shl-result c = omega arith

pub overflow_sub-result : goal.overflow_sub-result
overflow_sub-result c = rw (shifted _ c.requires) (four_pos _)

pub returns : goal.returns
returns c = rw (shifted _ c.requires)
