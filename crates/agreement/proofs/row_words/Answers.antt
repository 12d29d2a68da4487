-- `agreement::row_words` meets its contract. Assumes nothing.
use mathlib.Core.Path.{ap}
use native.Mathlib.Omega.{arith}
use Rattle.job.specs.declared.Header.{Header}
use Rattle.job.proofs.Theorems.{checked_sound}
use Rattle.rows.specs.Words.{words_per_row}
use Rattle.agreement.proofs.row_words.Goals as goal

pub overflow_add-result : goal.overflow_add-result
overflow_add-result c =
    let found = (c.examine-found.ensures.finds c.requires).header in
    record { fits = omega (arith, ap (λ (h : Header). h.shots) found, (checked_sound _ c.requires).header.few_shots) }

pub returns : goal.returns
returns c = ap (λ (h : Header). words_per_row h.shots) (c.examine-found.ensures.finds c.requires).header
