-- `needed_words::clear_all` meets its contract. Assumes nothing.
use Rattle.needed_words.proofs.clear_all.Goals as goal

pub returns : goal.returns
returns c = (c.clear.ensures, c.clear-2.ensures, c.clear-3.ensures, c.clear-4.ensures)
