-- `made_lines::gates::table_word` meets its contract. Assumes nothing.
use mathlib.Core.Path.{refl}
use native.Mathlib.Omega.{arith}
use Rattle.made.specs.Making.{tables}
use Rattle.made_lines.specs.Laws.Cliffords.{last_word}
use Rattle.made_lines.proofs.gates.table_word.Goals as goal

pub returns-in-0 : goal.returns-in-0
returns-in-0 c = unfold tables in rw c.in-0.is refl

pub returns-in-1 : goal.returns-in-1
returns-in-1 c = unfold tables in rw c.in-1.is refl

pub returns-in-2 : goal.returns-in-2
returns-in-2 c = unfold tables in rw c.in-2.is refl

pub returns-in-3 : goal.returns-in-3
returns-in-3 c = unfold tables in rw c.in-3.is refl

pub returns-in-4 : goal.returns-in-4
returns-in-4 c = unfold tables in rw c.in-4.is refl

pub returns-in-5 : goal.returns-in-5
returns-in-5 c = unfold tables in rw c.in-5.is refl

pub returns-in-6 : goal.returns-in-6
returns-in-6 c = unfold tables in rw c.in-6.is refl

pub returns-in_default : goal.returns-in_default
returns-in_default c =
    last_word _ c.requires (λ e. omega arith) (λ e. omega arith) (λ e. omega arith) (λ e. omega arith) (λ e. omega arith) (λ e. omega arith) (λ e. omega arith)
