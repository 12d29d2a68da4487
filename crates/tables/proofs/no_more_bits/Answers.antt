-- `tables::no_more_bits` meets its contract. Assumes nothing.
use Rattle.tables.specs.Laws.Words.{full_words, part_word}
use Rattle.tables.proofs.no_more_bits.Goals as goal

pub returns-then-used-eq0 : goal.returns-then-used-eq0
returns-then-used-eq0 c =
    rw c.if-used-eq0.true (full_words _ _ (λ i. (c.type_inv.words i).fits) c.requires.long (rw c.table_bits-used.ensures at c.if-used-eq0.true))

pub returns-else-used-eq0 : goal.returns-else-used-eq0
returns-else-used-eq0 c =
    rw c.table_bits-used.ensures (part_word _ _ (λ i. (c.type_inv.words i).fits) c.requires.long (rw c.table_bits-used.ensures at c.if-used-eq0.false))
