-- `numbers::lists::Listed::empty` meets its contract. Assumes nothing.
use mathlib.Core.Path.{refl}
use Rattle.text.specs.List.{is_rising_of}
use Rattle.numbers.specs.Read.{largest_of, listed_of}
use Rattle.numbers.proofs.lists.Listed.empty.Goals as goal

pub returns : goal.returns
unfolding listed_of is_rising_of largest_of
returns c = refl
