-- `fault_table::fault_table` meets its contract. Assumes nothing.
use mathlib.Core.Path.{sym, ◌∙◌}
use Rattle.fault_table.specs.Laws.Replies.{refused_reply, groups_reply, none_reply, many_reply, grouped, table_reply_lem}
use Rattle.fault_table.proofs.fault_table.Goals as goal

pub returns-then-answer-ne0 : goal.returns-then-answer-ne0
returns-then-answer-ne0 c = rw c.refused.ensures (refused_reply _ _ _ c.examine-found.ensures c.if-answer-ne0.true)

pub grouping-requires : goal.grouping-requires
grouping-requires c = tt

pub returns-then-n-eq0 : goal.returns-then-n-eq0
returns-then-n-eq0 c = rw c.refusal-then-n-eq0.ensures (none_reply _ _ _ c.examine-found.ensures c.if-answer-ne0.false _ (sym c.in-Some.is ∙ c.grouping.ensures) c.if-n-eq0.true)

pub returns-then-n-gt-MAX_GROUPS : goal.returns-then-n-gt-MAX_GROUPS
returns-then-n-gt-MAX_GROUPS c = rw c.refusal-then-n-gt-MAX_GROUPS.ensures (many_reply _ _ _ c.examine-found.ensures c.if-answer-ne0.false _ (sym c.in-Some.is ∙ c.grouping.ensures) c.if-n-gt-MAX_GROUPS.true)

pub table_accepted-requires : goal.table_accepted-requires
table_accepted-requires c = grouped _ _ c.args.out.now c.examine-found.ensures c.if-answer-ne0.false _ (sym c.in-Some.is ∙ c.grouping.ensures) c.if-n-eq0.false c.if-n-gt-MAX_GROUPS.false

pub returns-in_default : goal.returns-in_default
returns-in_default c = rw c.refusal.ensures (groups_reply _ _ _ c.examine-found.ensures c.if-answer-ne0.false (sym c.in_default.is ∙ c.grouping.ensures))

pub returns : goal.returns
returns c = table_reply_lem _ _ _ c.examine-found.ensures c.if-answer-ne0.false _ (sym c.in-Some.is ∙ c.grouping.ensures) c.if-n-eq0.false c.if-n-gt-MAX_GROUPS.false c.table_accepted.ensures
